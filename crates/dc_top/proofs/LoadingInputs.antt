-- Why two files are not run, from why one of them does not serve; and what is ready where both serve.
use Rattle.std.proofs.Common.{◌≡◌, ◌∙◌, ◌≤◌, ℕ, List, [], refl, sym, subst, ap, Some, None, Ok, Err}
use Rattle.dc_base.specs.declared.images.Image.{Image}
use Rattle.dc_base.specs.declared.commands.Bounds.{Bounds}
use Rattle.dc_base.specs.declared.commands.ScriptLine.{ScriptLine}
use Rattle.dc_play.proofs.Rises.{rose_since}
use Rattle.dc_top.specs.declared.halts.Halt.{Halt}
use Rattle.dc_top.specs.declared.halts.Halt.TheVariants as halt
use Rattle.dc_top.specs.BadInputs.{Verdict}
use Rattle.dc_top.specs.Contents.{Files, OfFile, OfInputs}
use Rattle.dc_top.specs.Halts.{AreInputs, HaltsAt, InputHalts, verdict_of}
use Rattle.dc_top.specs.RunCalls.{InputFaultOf, at_image, at_script}
use Rattle.dc_top.specs.Verdict.{bounds_of, image_read, inputs_read, script_read}
use Rattle.dc_top.proofs.Loading.{any_bytes, both_read, is_ok, script_within}

-- what follows of bytes that two files may hold
pub inputs_followed : (files : Files) (image script : List ℕ) (P Q : List ℕ → List ℕ → Type 0) → ((i s : List ℕ) → P i s → Q i s) → OfInputs files image script P → OfInputs files image script Q
inputs_followed files image script P Q follows x = record {
  bytes = x.bytes;
  may = x.may;
  holds = record { bytes = x.holds.bytes; may = x.holds.may; holds = follows x.bytes x.holds.bytes x.holds.holds };
}

-- two files may hold something
pub any_inputs : (files : Files) (image script : List ℕ) → OfInputs files image script (λ i s. Unit {0})
any_inputs files image script = let i = any_bytes files image in record { bytes = i.bytes; may = i.may; holds = any_bytes files script }

image_first : (image script : List ℕ) (v : Verdict) → image_read image ≡ Err v → inputs_read image script ≡ Err v
unfolding inputs_read
image_first image script v e = rw e

script_next : (image script : List ℕ) (i : Image) (v : Verdict) → image_read image ≡ Ok i → script_read (bounds_of i) script ≡ Err v → inputs_read image script ≡ Err v
unfolding inputs_read
script_next image script i v e g = rw (e, g)

module _ (image script : List ℕ) where
  fault_at : (i named name : List ℕ) → named ≡ name → InputFaultOf image script i name → InputFaultOf image script i named
  fault_at i named name same fault = subst (λ x. InputFaultOf image script i x) (sym same) fault

  pub image_stops : (files : Files) (before now : ℕ) (h : Halt) → HaltsAt files image_read image before now h → InputHalts files image script before now h
  image_stops files before now (halt.Refused r) e =
      let s = any_bytes files script in
      record { bytes = e.bytes; may = e.may; holds = record { bytes = s.bytes; may = s.may; holds = image_first e.bytes s.bytes (verdict_of r) e.holds } }
  image_stops files before now (halt.Unread n) e =
      (e.1, inputs_followed files image script (λ i s. Unit {0}) (λ i s. InputFaultOf image script i n.now) (λ i s u. fault_at i n.now image e.0 at_image) (any_inputs files image script))
  image_stops files before now halt.Memory e = cc

  module _ (i : Image) (b : Bounds) (fits : b ≡ bounds_of i) where
    stops_by : (files : Files) (before then now : ℕ) (h : Halt) → OfFile files image (λ bytes. image_read bytes ≡ Ok i) → before ≤ then →
        HaltsAt files (script_read b) script then now h → InputHalts files image script before now h
    stops_by files before then now (halt.Refused r) start le e = record {
      bytes = start.bytes;
      may = start.may;
      holds = record {
        bytes = e.bytes;
        may = e.may;
        holds = script_next start.bytes e.bytes i (verdict_of r) start.holds (script_within i b fits e.bytes (Err (verdict_of r)) e.holds);
      };
    }
    stops_by files before then now (halt.Unread n) start le e = (
      rose_since before then now le e.1,
      (let s = any_bytes files script in
          record {
            bytes = start.bytes;
            may = start.may;
            holds = record {
              bytes = s.bytes;
              may = s.may;
              holds = fault_at start.bytes n.now script e.0 (at_script (is_ok (image_read start.bytes) i start.holds));
            };
          }),
    )
    stops_by files before then now halt.Memory start le e = cc

    pub script_stops : (files kept : Files) (before then now : ℕ) (h : Halt) → OfFile files image (λ bytes. image_read bytes ≡ Ok i) → kept ≡ files → before ≤ then →
        HaltsAt kept (script_read b) script then now h → InputHalts files image script before now h
    script_stops files kept before then now h start same le e = stops_by files before then now h start le (subst (λ (x : Files). HaltsAt x (script_read b) script then now h) same e)

    pub both_serve : (files kept : Files) (s : List ScriptLine) → OfFile files image (λ bytes. image_read bytes ≡ Ok i) → kept ≡ files →
        OfFile kept script (λ bytes. script_read b bytes ≡ Ok s) → OfInputs files image script (λ x y. AreInputs x y i s)
    both_serve files kept s start same read =
        let r = subst (λ (x : Files). OfFile x script (λ bytes. script_read b bytes ≡ Ok s)) same read in
        record {
          bytes = start.bytes;
          may = start.may;
          holds = record {
            bytes = r.bytes;
            may = r.may;
            holds = both_read start.bytes r.bytes i s start.holds (script_within i b fits r.bytes (Ok s) r.holds);
          };
        }
