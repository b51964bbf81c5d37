-- What the capabilities have that are read.
use Rattle.std.proofs.Common.{◌≡◌, ℕ, ◌+◌, ◌-◌, ◌<◌, ◌≤◌, Bool, true, false, List, Ok, Option, Some, None, refl, subst, arith}
use Rattle.std.specs.Prelude.{nat_lt, not, ◌&&◌, slice_get, codes}
use Rattle.std.specs.List.{list_any}
use Rattle.std.proofs.lemmas.Bool.{and_parts}
use Rattle.std.proofs.lemmas.Bool.Decides.{nat_tests}
use Rattle.dc_base.specs.declared.numbers.BlockNo.{BlockNo}
use Rattle.dc_base.specs.declared.capabilities.CapKind.{CapKind}
use Rattle.dc_base.specs.declared.capabilities.CapKind.TheVariants as kind
use Rattle.dc_base.specs.declared.images.CapImage.{CapImage}
use Rattle.dc_base.specs.declared.images.ChanImage.{ChanImage}
use Rattle.dc_image.specs.declared.kinds.KindName.{KindName}
use Rattle.dc_image.specs.declared.kinds.KindName.TheVariants as name
use Rattle.dc_base.specs.Valid.{is_given_line}
use Rattle.dc_image.specs.ImageKeys.{Table, required, optional, number_where, number_within, number_below, word_where}
use Rattle.dc_image.specs.CapsOf.{Around, kind_named, range_in, is_end, end_in, line_in, kind_in, has_slot, slot_in, cap_in}
use Rattle.dc_image.proofs.Chains.{chained}
use Rattle.dc_image.proofs.RuleLaws.{Within, required_has, optional_has, where_has, within_has, below_has}

-- the channel of this number has the block at this end
abbrev pub IsEnd : Around → (ChanImage → BlockNo) → ℕ → Type 0
IsEnd a end n = (r : ChanImage) × (slice_get a.channels n ≡ Some r) × ((end r).0 ≡ a.block)

-- a capability for this names what exists around the block
abbrev pub KindLaw : Around → CapKind → Type 0
KindLaw a (kind.Ram first n) = (1 ≤ n) × (first + n ≤ 4096)
KindLaw a (kind.Frame first n) = (1 ≤ n) × (first + n ≤ 4096)
KindLaw a (kind.Port p) = p.0 < a.ports
KindLaw a (kind.Signal i) = i.0 < a.signals
KindLaw a (kind.SendEnd y) = IsEnd a (λ r. r.from) y.0
KindLaw a (kind.RecvEnd y) = IsEnd a (λ r. r.to) y.0
KindLaw a (kind.Line l) = (l.0 < a.lines) × (list_any (is_given_line l.0) a.before ≡ false)

pub record CapLaw (a : Around) (before : List CapImage) (c : CapImage) : Type 0 where
  pub slot : c.slot < 16
  pub apart : list_any (has_slot c.slot) before ≡ false
  pub rights : c.cap.rights ≤ 7
  pub kind : KindLaw a c.cap.kind

pub not_true : (b : Bool) → not b ≡ true → b ≡ false
not_true false e = refl
not_true true e = cc

-- a number below the limit that is not found
below_and_not : (limit : ℕ) (b : Bool) (n : ℕ) → (nat_lt n limit && not b) ≡ true → (n < limit) × (b ≡ false)
below_and_not limit b n both =
    let parts = and_parts (nat_lt n limit) (not b) both in
    let test : nat_lt n limit ≡ true = parts.0 in
    (grind (arith, nat_tests), not_true b parts.1)

range_has : (t : Table) (r : ℕ × ℕ) → range_in t ≡ Ok r → (1 ≤ r.1) × (r.0 + r.1 ≤ 4096)
range_has t r e =
    let first = chained (required t (codes "first") (number_within 0 4095)) _ r e in
    let n = chained (required t (codes "length") (number_within 1 (4096 - first.first))) _ r first.after in
    let low : Within 0 4095 first.first = required_has (Within 0 4095) (number_within 0 4095) (within_has 0 4095) t (codes "first") first.first first.was in
    let long : Within 1 (4096 - first.first) n.first =
    required_has (Within 1 (4096 - first.first)) (number_within 1 (4096 - first.first)) (within_has 1 (4096 - first.first)) t (codes "length") n.first n.was in
    let same : (first.first, n.first) ≡ r = cc in
    let fits : (1 ≤ n.first) × (first.first + n.first ≤ 4096) = (omega arith, omega arith) in
    subst (λ (s : ℕ × ℕ). (1 ≤ s.1) × (s.0 + s.1 ≤ 4096)) same fits

found_end : (a : Around) (end : ChanImage → BlockNo) (n : ℕ) (o : Option ChanImage) → slice_get a.channels n ≡ o → is_end end a.block o ≡ true → IsEnd a end n
found_end a end n None e h = cc
found_end a end n (Some r) e h = let same : (end r).0 ≡ a.block = grind (arith, nat_tests) in (r, e, same)

end_has : (a : Around) (end : ChanImage → BlockNo) (t : Table) (n : ℕ) → end_in a end t ≡ Ok n → IsEnd a end n
end_has a end t n e =
    let test = λ (m : ℕ). is_end end a.block (slice_get a.channels m) in
    found_end a end n (slice_get a.channels n) refl (required_has (λ m. test m ≡ true) (number_where test) (where_has test) t (codes "number") n e)

line_has : (a : Around) (t : Table) (n : ℕ) → line_in a t ≡ Ok n → (n < a.lines) × (list_any (is_given_line n) a.before ≡ false)
line_has a t n e =
    let test = λ (m : ℕ). nat_lt m a.lines && not (list_any (is_given_line m) a.before) in
    below_and_not a.lines (list_any (is_given_line n) a.before) n (required_has (λ m. test m ≡ true) (number_where test) (where_has test) t (codes "number") n e)

number_has : (limit : ℕ) (t : Table) (n : ℕ) → required t (codes "number") (number_below limit) ≡ Ok n → n < limit
number_has limit t n e = required_has (λ m. m < limit) (number_below limit) (below_has limit) t (codes "number") n e

kind_has : (a : Around) (t : Table) (n : KindName) (k : CapKind) → kind_in a t n ≡ Ok k → KindLaw a k
kind_has a t name.Ram k e =
    let s = chained (range_in t) _ k e in
    let same : kind.Ram s.first.0 s.first.1 ≡ k = cc in subst (KindLaw a) same (range_has t s.first s.was)
kind_has a t name.Frame k e =
    let s = chained (range_in t) _ k e in
    let same : kind.Frame s.first.0 s.first.1 ≡ k = cc in subst (KindLaw a) same (range_has t s.first s.was)
kind_has a t name.Port k e =
    let s = chained (required t (codes "number") (number_below a.ports)) _ k e in
    let same : kind.Port (record { 0 = s.first }) ≡ k = cc in subst (KindLaw a) same (number_has a.ports t s.first s.was)
kind_has a t name.Signal k e =
    let s = chained (required t (codes "number") (number_below a.signals)) _ k e in
    let same : kind.Signal (record { 0 = s.first }) ≡ k = cc in subst (KindLaw a) same (number_has a.signals t s.first s.was)
kind_has a t name.SendEnd k e =
    let s = chained (end_in a (λ x. x.from) t) _ k e in
    let same : kind.SendEnd (record { 0 = s.first }) ≡ k = cc in subst (KindLaw a) same (end_has a (λ x. x.from) t s.first s.was)
kind_has a t name.RecvEnd k e =
    let s = chained (end_in a (λ x. x.to) t) _ k e in
    let same : kind.RecvEnd (record { 0 = s.first }) ≡ k = cc in subst (KindLaw a) same (end_has a (λ x. x.to) t s.first s.was)
kind_has a t name.Line k e =
    let s = chained (line_in a t) _ k e in
    let same : kind.Line (record { 0 = s.first }) ≡ k = cc in subst (KindLaw a) same (line_has a t s.first s.was)

slot_has : (before : List CapImage) (t : Table) (n : ℕ) → slot_in before t ≡ Ok n → (n < 16) × (list_any (has_slot n) before ≡ false)
slot_has before t n e =
    let test = λ (m : ℕ). nat_lt m 16 && not (list_any (has_slot m) before) in
    below_and_not 16 (list_any (has_slot n) before) n (required_has (λ m. test m ≡ true) (number_where test) (where_has test) t (codes "slot") n e)

pub cap_has : (a : Around) (before : List CapImage) (t : Table) (c : CapImage) → cap_in a before t ≡ Ok c → CapLaw a before c
unfolding cap_in
cap_has a before t c e =
    let slot = chained (slot_in before t) _ c e in
    let word = chained (required t (codes "kind") (word_where kind_named)) _ c slot.after in
    let kind = chained (kind_in a t word.first) _ c word.after in
    let rights = chained (optional t (codes "rights") 7 (number_within 0 7)) _ c kind.after in
    let free : (slot.first < 16) × (list_any (has_slot slot.first) before ≡ false) = slot_has before t slot.first slot.was in
    let few : Within 0 7 rights.first = optional_has (Within 0 7) (number_within 0 7) (within_has 0 7) t (codes "rights") 7 (omega arith, omega arith) rights.first rights.was in
    let made : CapImage = record { slot = slot.first; cap = record { kind = kind.first; rights = rights.first } } in
    let same : made ≡ c = cc in
    let law : CapLaw a before made = record { slot = free.0; apart = free.1; rights = few.1; kind = kind_has a t word.first kind.first kind.was } in
    subst (CapLaw a before) same law
