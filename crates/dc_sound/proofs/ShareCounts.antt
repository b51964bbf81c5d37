-- A share lists each block at most once, at most one of them home and at most eight parked: each entry keeps this.
use Rattle.std.proofs.Common.{◌≡◌, ℕ, ◌+◌, ◌≤◌, List, [], ◌∷◌, ◌++◌, Bool, true, false, None, refl, sym, ap, ◌∙◌, subst, arith}
use Rattle.std.specs.Prelude.{slice_get, ◌==◌, ◌||◌, not, if◌then◌else◌}
use Rattle.std.specs.List.{count_by, filter}
use Rattle.std.proofs.lemmas.List.Sums.{sum_by-cons, sum_by_push}
use Rattle.dc_base.specs.declared.entries.Entry.{Entry}
use Rattle.dc_base.specs.declared.commands.Order.TheVariants as orders
use Rattle.dc_base.specs.Changes.{Change, apply}
use Rattle.dc_base.specs.Outcomes.{has, share_with_last, share_without}
use Rattle.dc_base.specs.Placed.{IsShare, AreShares, count_in, homes_in, parked_in, IsPlaced, IsOn}
use Rattle.dc_base.specs.Progress.{PostsFit, IsAtRest, HasRoom}
use Rattle.dc_base.specs.States.{State, Core, Block, Member}
use Rattle.dc_base.specs.SliceTurns.{core_after_slice}
use Rattle.dc_sound.proofs.EntryKinds.{Kind, IsAdopt}
use Rattle.dc_sound.proofs.Rules.{Rule, no_rule, Obeys, kept}
use Rattle.dc_block_sound.proofs.Elements.{same_some, is_same}
use Rattle.dc_sound.proofs.Shares.{count-last, sum_split}
use Rattle.dc_sound.proofs.Placed.{rests}
use Rattle.dc_sound.proofs.Leaves.{Leaves, fine_kind}
use Rattle.dc_sound.proofs.SliceFacts.{no_outside}

abbrev pub shares : Rule
shares = record no_rule { core = λ c k. IsShare k }

turned : (k : Core) (b clock : ℕ) → IsShare k → IsShare (core_after_slice k b clock)
turned k b clock h = record {
  once = λ j. subst (λ n. n ≤ 1) (sym (count-last (λ (m : Member). m.block == j) b k.share)) (h.once j);
  home = subst (λ n. n ≤ 1) (sym (count-last (λ (m : Member). not m.parked) b k.share)) h.home;
  parked = subst (λ n. n ≤ 8) (sym (count-last (λ (m : Member). m.parked) b k.share)) h.parked;
  off = λ v. ap (share_with_last b) (h.off v);
}

less : (p q : Member → Bool) (share : List Member) → count_by p (filter (λ m. not (q m)) share) ≤ count_by p share
less p q share = let e = sum_split (λ (m : Member). if p m then 1 else 0) q share in omega (arith, e)

left : (k : Core) (b : ℕ) → IsShare k → IsShare (record k { share = share_without b k.share })
left k b h = record {
  once = λ j. let n = less (λ (m : Member). m.block == j) (λ (m : Member). m.block == b) k.share in let o = h.once j in omega (arith, n, o);
  home = let n = less (λ (m : Member). not m.parked) (λ (m : Member). m.block == b) k.share in let o = h.home in omega (arith, n, o);
  parked = let n = less (λ (m : Member). m.parked) (λ (m : Member). m.block == b) k.share in let o = h.parked in omega (arith, n, o);
  off = λ v. ap (share_without b) (h.off v);
}

none_by : (b : ℕ) (m : Member) (ms : List Member) → (has ms b ≡ false → count_in ms b ≡ 0) → (t : Bool) → (t || has ms b) ≡ false → (if t then 1 else 0) + count_in ms b ≡ 0
none_by b m ms more true h = absurd cc
none_by b m ms more false h = let e = more h in omega (arith, e)

count_none : (b : ℕ) (share : List Member) → has share b ≡ false → count_in share b ≡ 0
count_none b [] h = refl
count_none b (m ∷ ms) h = sum_by-cons (λ (n : Member). if n.block == b then 1 else 0) m ms ∙ none_by b m ms (λ k. count_none b ms k) (m.block == b) h

is_false : (t : Bool) → (t ≡ true → ⊥) → t ≡ false
is_false true h = absurd (h refl)
is_false false h = refl

one_more : (t : Bool) → (if t then 1 else 0) ≤ 1
one_more true = omega arith
one_more false = omega arith

joined : (k : Core) (b : ℕ) (parked : Bool) → (k.version ≡ None → ⊥) → IsShare k → has k.share b ≡ false → HasRoom parked k → IsShare (record k { share = k.share ++ record { block = b; parked = parked } ∷ [] })
joined k b parked on h out room = record {
  once = λ j. let e = sum_by_push (λ (n : Member). if n.block == j then 1 else 0) k.share (record { block = b; parked = parked }) in once_by j (b == j) refl e;
  home = let e = sum_by_push (λ (n : Member). if not n.parked then 1 else 0) k.share (record { block = b; parked = parked }) in home_by parked room e;
  parked = let e = sum_by_push (λ (n : Member). if n.parked then 1 else 0) k.share (record { block = b; parked = parked }) in parked_by parked room e;
  off = λ v. absurd (on v);
}
  where
    once_by : (j : ℕ) (t : Bool) → (b == j) ≡ t → {n : ℕ} → n ≡ count_in k.share j + (if b == j then 1 else 0) → n ≤ 1
    once_by j true g e = let same : b ≡ j = is_same b j g in let z : count_in k.share j ≡ 0 = subst (λ i. count_in k.share i ≡ 0) same (count_none b k.share out) in let o = one_more (b == j) in omega (arith, z, o, e)
    once_by j false g e = let o = h.once j in let z : ◌≡◌ {A = ℕ} (if b == j then 1 else 0) 0 = ap (λ (u : Bool). if u then 1 else 0) g in omega (arith, z, o, e)

    home_by : (t : Bool) → HasRoom t k → {n : ℕ} → n ≡ homes_in k.share + (if not t then 1 else 0) → n ≤ 1
    home_by false r e = omega (arith, r, e)
    home_by true r e = let o = h.home in omega (arith, o, e)

    parked_by : (t : Bool) → HasRoom t k → {n : ℕ} → n ≡ parked_in k.share + (if t then 1 else 0) → n ≤ 8
    parked_by false r e = let o = h.parked in omega (arith, o, e)
    parked_by true r e = omega (arith, r, e)

module _ (s : State) (chs : List Change) (e : Entry) (p : AreShares s) (placed : IsPlaced s) (fit : PostsFit s) where
  obeyed : Obeys shares s
  obeyed = record { cores = p; blocks = λ b x e. tt; channels = λ x r e. tt; lines = λ l w e. tt; mailboxes = λ c m e. tt; consoles = λ b ws e. tt; script = tt }

  adopted : (i : IsAdopt s chs e) → IsShare (record i.k { share = i.k.share ++ record { block = i.b.0; parked = i.parked } ∷ [] })
  adopted i =
      let fits = fit i.c (orders.Adopt i.b i.parked) i.k i.order_at.mailbox_at i.order_at.core_at in
      let rest = subst IsAtRest i.block_at fits.1 in
      joined i.k i.b.0 i.parked (λ v. let z = i.version_at in cc) (p i.c i.k i.order_at.core_at)
      (is_false (has i.k.share i.b.0) (λ h.
      let own = placed.only i.c i.k i.order_at.core_at i.b.0 h in
      rests i.x.whereabouts rest i.c (subst (λ (u : Block). IsOn i.c u.whereabouts) (same_some (slice_get s.blocks i.b.0) own.0 i.x own.1 i.block_at) own.2)))
      fits.2

  leaves : Leaves shares s chs e
  leaves = record {
    slice = λ i. (turned i.k i.b _ (p i.c i.k i.turn.core_at), tt, no_outside shares s i.c i.b (λ b ws. tt) (λ x r. tt) (λ l w. tt) i.h);
    slice_none = λ i. (turned i.k i.b _ (p i.c i.k i.turn.core_at), tt);
    idle = λ i. let h = p i.c i.k i.core_at in record { once = h.once; home = h.home; parked = h.parked; off = h.off };
    wake = λ i. let h = p i.c i.k i.turn.core_at in (record { once = h.once; home = h.home; parked = h.parked; off = h.off }, tt);
    intake = λ i. (tt, tt);
    start = λ i. let h = p i.c i.k i.order_at.core_at in (record { once = h.once; home = h.home; parked = h.parked; off = λ v. absurd cc }, tt);
    stop = λ i. (record { once = λ j. omega arith; home = omega arith; parked = omega arith; off = λ v. refl }, tt, λ b x q. tt);
    replace = λ i. let h = p i.c i.k i.order_at.core_at in (record { once = h.once; home = h.home; parked = h.parked; off = λ v. absurd cc }, tt, λ b x q. tt);
    adopt = λ i. (adopted i, tt, tt);
    release = λ i. (left i.k i.b.0 (p i.c i.k i.order_at.core_at), tt, tt);
    emptied = λ c. tt;
    post = λ i. (tt, tt);
    done = λ i. tt;
    refused = λ i. tt;
    route = λ i. (tt, tt);
    awaited = λ i. tt;
    raise = λ i. (tt, tt);
  }

  -- each entry keeps this part; an adopt uses where the blocks are, and that posts fit
  pub shares_kept : Kind s chs e → AreShares (apply s chs)
  shares_kept k = (kept shares chs s (fine_kind shares s chs e leaves obeyed k) obeyed).cores
