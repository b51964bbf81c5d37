-- The first state of each valid image and script is sound.
use Rattle.std.proofs.Common.{List}
use Rattle.dc_base.specs.declared.commands.ScriptLine.{ScriptLine}
use Rattle.dc_base.specs.declared.images.Image.{Image}
use Rattle.dc_base.specs.Sound.{IsSound}
use Rattle.dc_base.specs.States.{settings_of, core_start}
use Rattle.dc_base.specs.Valid.{IsValid, IsValidScript}
use Rattle.dc_sound.proofs.StartPlaces.{start_placed, start_shares, start_registered, start_clocked}
use Rattle.dc_sound.proofs.StartState.{start_shapes, start_all_dispatchers, start_all_words, start_all_ports, start_all_ready, start_all_timers, start_all_caps, start_waiters, start_named, start_rings, start_consoles, start_counts, start_lines, start_mailboxes, start_posts, start_in_form, start_dues, start_deadlines, start_numbers, start_counted, start_settled}

pub start_sound : (image : Image) (script : List ScriptLine) → IsValid image → IsValidScript (settings_of image) script → IsSound (core_start image script)
start_sound image script v w = record {
  placed = start_placed image script v;
  shares = start_shares image script v;
  mailboxes = start_mailboxes image script v w;
  posts = start_posts image script v w;
  registered = start_registered image script v;
  in_form = start_in_form image script v w;
  named = start_named image script v w;
  waiters = start_waiters image script v w;
  shapes = start_shapes image script v w;
  dispatchers = start_all_dispatchers image script v w;
  words = start_all_words image script v w;
  ports = start_all_ports image script v w;
  ready = start_all_ready image script v w;
  timers = start_all_timers image script v w;
  caps = start_all_caps image script v w;
  rings = start_rings image script v w;
  consoles = start_consoles image script v w;
  counts = start_counts image script v w;
  lines = start_lines image script v w;
  clocked = start_clocked image script v;
  dues = start_dues image script v w;
  deadlines = start_deadlines image script v w;
  numbers = start_numbers image script v w;
  counted = start_counted image script v w;
  settled = start_settled image script v w;
}
