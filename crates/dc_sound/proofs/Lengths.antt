-- No action makes or removes an object: there are as many of each kind as before.
use Rattle.std.proofs.Common.{◌≡◌, List, [], ◌∷◌, refl, ◌∙◌, length}
use Rattle.std.proofs.lemmas.List.{length-set}
use Rattle.dc_base.specs.States.{State}
use Rattle.dc_base.specs.Changes.{Change, core_becomes, block_becomes, channel_becomes, line_becomes, mailbox_becomes, console_becomes, script_becomes, changed, apply}

-- there are as many objects of each kind as before
pub record SameLengths (s t : State) : Type 0 where
  pub cores : length t.cores ≡ length s.cores
  pub blocks : length t.blocks ≡ length s.blocks
  pub channels : length t.channels ≡ length s.channels
  pub lines : length t.lines ≡ length s.lines
  pub mailboxes : length t.mailboxes ≡ length s.mailboxes
  pub consoles : length t.consoles ≡ length s.consoles

one_length : (ch : Change) (s : State) → SameLengths s (changed ch s)
one_length (core_becomes c k) s = record { cores = length-set s.cores c k; blocks = refl; channels = refl; lines = refl; mailboxes = refl; consoles = refl }
one_length (block_becomes b x) s = record { cores = refl; blocks = length-set s.blocks b x; channels = refl; lines = refl; mailboxes = refl; consoles = refl }
one_length (channel_becomes x r) s = record { cores = refl; blocks = refl; channels = length-set s.channels x r; lines = refl; mailboxes = refl; consoles = refl }
one_length (line_becomes l w) s = record { cores = refl; blocks = refl; channels = refl; lines = length-set s.lines l w; mailboxes = refl; consoles = refl }
one_length (mailbox_becomes c m) s = record { cores = refl; blocks = refl; channels = refl; lines = refl; mailboxes = length-set s.mailboxes c m; consoles = refl }
one_length (console_becomes b ws) s = record { cores = refl; blocks = refl; channels = refl; lines = refl; mailboxes = refl; consoles = length-set s.consoles b ws }
one_length (script_becomes t) s = record { cores = refl; blocks = refl; channels = refl; lines = refl; mailboxes = refl; consoles = refl }

pub same_lengths : (chs : List Change) (s : State) → SameLengths s (apply s chs)
same_lengths [] s = record { cores = refl; blocks = refl; channels = refl; lines = refl; mailboxes = refl; consoles = refl }
same_lengths (ch ∷ chs) s =
    let one = one_length ch s in
    let more = same_lengths chs (changed ch s) in
    record {
      cores = more.cores ∙ one.cores;
      blocks = more.blocks ∙ one.blocks;
      channels = more.channels ∙ one.channels;
      lines = more.lines ∙ one.lines;
      mailboxes = more.mailboxes ∙ one.mailboxes;
      consoles = more.consoles ∙ one.consoles;
    }
