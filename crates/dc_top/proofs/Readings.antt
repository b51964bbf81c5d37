-- A file that is too long is refused for that.
use Rattle.std.proofs.Common.{◌≡◌, ◌<◌, ℕ, List, true, length, Err, nat_lt}
use Rattle.std.proofs.lemmas.Bool.{lt-ltb}
use Rattle.dc_base.specs.declared.commands.Bounds.{Bounds}
use Rattle.dc_base.specs.declared.faults.ImageFault.TheVariants as told
use Rattle.dc_base.specs.declared.faults.TextFault.TheVariants as refused
use Rattle.dc_base.specs.ScriptText.{text_read, script_of, schedule_of}
use Rattle.dc_base.specs.Limits.{longest_file}
use Rattle.dc_image.specs.ImageOf.{image_of}
use Rattle.dc_top.specs.declared.bad_inputs.BadInput.TheVariants as why
use Rattle.dc_top.specs.Halts.{verdict_of}
use Rattle.dc_top.specs.Verdict.{image_read, schedule_read, script_read}

long : (n : ℕ) → longest_file < n → nat_lt longest_file n ≡ true
long n h = lt-ltb longest_file n h

pub image_too_long : (bytes : List ℕ) → longest_file < length bytes → image_read bytes ≡ Err (verdict_of (why.Image told.TooLong))
unfolding image_read image_of
image_too_long bytes h = rw (long (length bytes) h)

pub script_too_long : (b : Bounds) (bytes : List ℕ) → longest_file < length bytes → script_read b bytes ≡ Err (verdict_of (why.Script refused.TooLong))
unfolding script_read script_of text_read
script_too_long b bytes h = rw (long (length bytes) h)

pub schedule_too_long : (b : Bounds) (bytes : List ℕ) → longest_file < length bytes → schedule_read b bytes ≡ Err (verdict_of (why.Schedule refused.TooLong))
unfolding schedule_read schedule_of text_read
schedule_too_long b bytes h = rw (long (length bytes) h)
