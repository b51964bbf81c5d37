-- What faults say of the image that is read.
use Rattle.std.specs.Prelude.{◌≡◌, Option, Some, None, IfSome, Result, Ok, Err}
use Rattle.dc_base.specs.declared.faults.ImageFault.{ImageFault}
use Rattle.dc_base.specs.declared.faults.ImageFault.TheVariants as told
use Rattle.dc_base.specs.FaultText.{ImageRefusal, too_long, not_toml, missing, wrong_kind, out_of_range, bad_code}
use Rattle.dc_image.specs.declared.faults.Fault.{Fault}
use Rattle.dc_image.specs.declared.faults.Fault.TheVariants as fault
use Rattle.dc_image.specs.KeyText.{key_of}

-- the refusal that a fault tells; want of memory tells none
abbrev pub refusal_of : ImageFault → Option ImageRefusal
refusal_of told.TooLong = Some too_long
refusal_of told.NotToml = Some not_toml
refusal_of (told.Missing key) = Some (missing key.bytes)
refusal_of (told.WrongKind key) = Some (wrong_kind key.bytes)
refusal_of (told.OutOfRange key) = Some (out_of_range key.bytes)
refusal_of (told.Code key line kind) = Some (bad_code key.bytes line kind)
refusal_of told.Memory = None

-- the same for a fault with a place
abbrev pub refusal_at : Fault → Option ImageRefusal
refusal_at (fault.Missing at) = Some (missing (key_of at))
refusal_at (fault.WrongKind at) = Some (wrong_kind (key_of at))
refusal_at (fault.OutOfRange at) = Some (out_of_range (key_of at))
refusal_at (fault.Code at line kind) = Some (bad_code (key_of at) line kind)
refusal_at fault.Memory = None

-- the image is refused so, where anything is told
abbrev pub Refuses : {A : Type 0} → Option ImageRefusal → Result A ImageRefusal → Type 0
Refuses told read = IfSome told (λ refusal. read ≡ Err refusal)

-- the code gives what reading gives, through what is seen of it, or its fault, or wants memory
abbrev pub Shows : {A B : Type 0} → (A → B) → Result A Fault → Result B ImageRefusal → Type 0
Shows seen (Ok x) read = read ≡ Ok (seen x)
Shows seen (Err e) read = Refuses (refusal_at e) read

abbrev pub Gives : {A : Type 0} → Result A Fault → Result A ImageRefusal → Type 0
Gives result read = Shows (λ x. x) result read
