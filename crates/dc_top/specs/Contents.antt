-- What the files of a play hold, as far as a shelf tells.
use Rattle.std.specs.Prelude.{◌≡◌, ℕ, List, Option, IfSome}

-- the files of a shelf, where it tells them
abbrev pub Files : Type 0
Files = Option (List ℕ → List ℕ)

-- the file of this name may hold these bytes: where the files are told, it holds just these
abbrev pub MayHold : Files → (name bytes : List ℕ) → Type 0
MayHold files name bytes = IfSome files (λ f. bytes ≡ f name)

-- this is so of bytes that the file of this name may hold
pub record OfFile (files : Files) (name : List ℕ) (P : List ℕ → Type 0) : Type 0 where
  pub bytes : List ℕ
  pub may : MayHold files name bytes
  pub holds : P bytes

-- this is so of bytes that the files of an image and a script may hold
abbrev pub OfInputs : Files → (image script : List ℕ) → (List ℕ → List ℕ → Type 0) → Type 0
OfInputs files image script P = OfFile files image (λ i. OfFile files script (λ s. P i s))

-- the bytes of an image, a script and a schedule
pub record Contents : Type 0 where
  pub image : List ℕ
  pub script : List ℕ
  pub schedule : List ℕ

-- this is so of bytes that the files of these three names may hold
pub record OfFiles (files : Files) (image script schedule : List ℕ) (P : Contents → Type 0) : Type 0 where
  pub bytes : Contents
  pub image_may : MayHold files image bytes.image
  pub script_may : MayHold files script bytes.script
  pub schedule_may : MayHold files schedule bytes.schedule
  pub holds : P bytes
