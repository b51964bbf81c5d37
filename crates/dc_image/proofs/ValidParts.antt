-- What read blocks have by themselves and beside each other.
use Rattle.std.proofs.Common.{◌≡◌, ℕ, suc, Bool, true, false, List, [], ◌∷◌, take, Option, Some, None, IfSome, refl, ◌∙◌, subst, arith, inl, inr, rules}
use Rattle.std.specs.Prelude.{slice_get, ◌==◌}
use Rattle.std.specs.List.{list_any}
use Rattle.std.proofs.lemmas.Bool.{cases_Bool}
use Rattle.std.proofs.lemmas.Bool.Decides.{nat_tests}
use Rattle.dc_base.specs.declared.numbers.CoreNo.{CoreNo}
use Rattle.dc_base.specs.declared.capabilities.CapKind.{CapKind}
use Rattle.dc_base.specs.declared.capabilities.CapKind.TheVariants as kind
use Rattle.dc_base.specs.declared.images.Image.{Image}
use Rattle.dc_base.specs.declared.images.BlockImage.{BlockImage}
use Rattle.dc_base.specs.declared.images.DispImage.{DispImage}
use Rattle.dc_base.specs.declared.images.CapImage.{CapImage}
use Rattle.dc_base.specs.Capabilities.{is_of_line}
use Rattle.dc_base.specs.Valid.{NamesOf, SlotsDiffer, IsValidDisp, IsValidBlock, is_given_line}
use Rattle.dc_image.specs.CapsOf.{Around, has_slot}
use Rattle.dc_image.specs.BlocksOf.{Machine, around, is_this, is_home_of}
use Rattle.dc_image.proofs.BuiltLaws.{IsBuilt, only_one}
use Rattle.dc_image.proofs.CapLaws.{KindLaw, CapLaw}
use Rattle.dc_image.proofs.DispLaws.{DispLaw}
use Rattle.dc_image.proofs.BlockLaws.{HomeLaw, BlockLaw}

-- the first element that passes, and its place
record Found {A : Type 0} (q : A → Bool) (xs : List A) : Type 0 where
  place : ℕ
  element : A
  there : slice_get xs place ≡ Some element
  passes : q element ≡ true

found : {A : Type 0} (q : A → Bool) (xs : List A) → list_any q xs ≡ true → Found q xs
found q [] h = cc
found q (x ∷ xs) h =
    elim (cases_Bool (q x)) [
      | inl here ↦ record { place = 0; element = x; there = refl; passes = here }
      | inr not_here ↦
          let more : list_any q xs ≡ true = rw not_here at h in
          let f = found q xs more in record { place = suc f.place; element = f.element; there = f.there; passes = f.passes }
    ]

pub same_number : (m n : ℕ) → (m == n) ≡ true → m ≡ n
same_number m n h = grind (arith, nat_tests)

-- the capabilities of one dispatcher use different slots
slots_apart : (a : Around) (caps : List CapImage) → IsBuilt (CapLaw a) caps → SlotsDiffer caps
slots_apart a caps built i j c e at_c at_e same =
    let s = c.slot in
    only_one (has_slot s) caps (λ k x at h. subst (λ n. list_any (has_slot n) (take k caps) ≡ false) (same_number x.slot s h) (built k x at).apart) i j c e at_c at_e
    (is_same s) (subst (λ n. (n == s) ≡ true) same (is_same s))
  where
    is_same : (n : ℕ) → (n == n) ≡ true
    is_same n = search rules

-- what is read of the image before its blocks
abbrev pub machine : Image → Machine
machine image = record { cores = image.cores; channels = image.channels; lines = image.lines }

-- a capability of a block names what exists
names : (image : Image) (number : ℕ) (before : List BlockImage) (x : BlockImage) (b : ℕ) (k : CapKind) → number ≡ b → KindLaw (around (machine image) number before x.ports x.signals) k → NamesOf image b x k
names image number before x b (kind.Ram first n) same law = law
names image number before x b (kind.Frame first n) same law = law
names image number before x b (kind.Port p) same law = law
names image number before x b (kind.Signal i) same law = law
names image number before x b (kind.SendEnd y) same law = (law.0, law.1, law.2 ∙ same)
names image number before x b (kind.RecvEnd y) same law = (law.0, law.1, law.2 ∙ same)
names image number before x b (kind.Line l) same law = law.0

module _ (image : Image) (number : ℕ) (before : List BlockImage) (x : BlockImage) (b : ℕ) (same : number ≡ b) (law : BlockLaw (machine image) number before x) where
  valid_disp : (d : DispImage) → DispLaw (around (machine image) number before x.ports x.signals) d → IsValidDisp image b x d
  valid_disp d h = record {
    code = h.code.count;
    words = h.code.words;
    period = h.period;
    due = h.due;
    caps = λ k c at. let l = h.caps k c at in record { slot = l.slot; rights = l.rights; names = names image number before x b c.cap.kind same l.kind };
    slots = slots_apart (around (machine image) number before x.ports x.signals) d.caps h.caps;
  }

  pub valid_block : IsValidBlock image b x
  valid_block = record {
    memory = law.memory;
    words = law.words;
    ports = law.ports;
    signals = law.signals;
    some = law.disps.count.0;
    most = law.disps.count.1;
    disps = λ i d at. valid_disp d (law.disps.built i d at);
  }

module _ (m : Machine) (number : ℕ) (before : List BlockImage) (x : BlockImage) (law : BlockLaw m number before x) where
  -- a line that the block was given was given to none before
  pub line_new : (n : ℕ) → is_given_line n x ≡ true → list_any (is_given_line n) before ≡ false
  line_new n given =
      let d = found (λ (e : DispImage). list_any (λ (c : CapImage). is_of_line n c.cap.kind) e.caps) x.disps given in
      let c = found (λ (e : CapImage). is_of_line n e.cap.kind) d.element.caps d.passes in
      line_of c.element.cap.kind (((law.disps.built d.place d.element d.there).caps c.place c.element c.there).kind) c.passes
    where
      line_of : (k : CapKind) → KindLaw (around m number before x.ports x.signals) k → is_of_line n k ≡ true → list_any (is_given_line n) before ≡ false
      line_of (kind.Line l) h at = subst (λ k. list_any (is_given_line k) before ≡ false) (same_number l.0 n at) h.1
      line_of (kind.Ram first k) h at = cc
      line_of (kind.Frame first k) h at = cc
      line_of (kind.Port p) h at = cc
      line_of (kind.Signal i) h at = cc
      line_of (kind.SendEnd y) h at = cc
      line_of (kind.RecvEnd y) h at = cc

  -- a core that the block is home on is home of none before
  pub home_new : (n : ℕ) → is_home_of n x ≡ true → list_any (is_home_of n) before ≡ false
  home_new n at = home_of x.home law.home at
    where
      home_of : (o : Option CoreNo) → IfSome o (HomeLaw m.cores before) → is_this n o ≡ true → list_any (is_home_of n) before ≡ false
      home_of None h at = cc
      home_of (Some c) h at = subst (λ k. list_any (is_home_of k) before ≡ false) (same_number c.0 n at) h.free
