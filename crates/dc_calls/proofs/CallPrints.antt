-- What a word for the console comes to.
use Rattle.std.proofs.Common.{◌≡◌, ℕ, ◌<◌, ◌≤◌, ◌↔◌, Bool, true, false, List, [], ◌∷◌, ◌++◌, length, ap, sym, refl, ◌∙◌, arith}
use Rattle.std.specs.Prelude.{None, Result, nat_lt, slice_index, IsTrue, IsOk, IsErr, OnOk, if◌then◌else◌}
use Rattle.std.proofs.lemmas.Bool.{lt-ltb, le-ltb, ltb-true}
use Rattle.dc_base.specs.declared.instructions.Instr.TheVariants.{Out, Yield}
use Rattle.dc_base.specs.Effects.{Context}
use Rattle.dc_base.specs.Instructions.{is_proper}
use Rattle.dc_base.specs.Kernel.{call_of, with_next_place}
use Rattle.dc_base.specs.Parts.{Parts}
use Rattle.dc_base.specs.Serving as seen
use Rattle.dc_base.specs.Serving.{faulted, served, serve, console_outside}
use Rattle.dc_channel.specs.declared.console.Console.{Console}
use Rattle.dc_calls.specs.declared.outsides.Outside.{Outside}
use Rattle.dc_calls.specs.declared.outsides.Outside.TheVariants as outside
use Rattle.dc_calls.specs.Outsides.{outside_seen}
use Rattle.dc_calls.proofs.CallResults.{on_ok, ok_not_err}

pub out_register : (a : ℕ) → IsTrue (is_proper (Out a)) → a < 8
unfolding is_proper
out_register a h = ltb-true a 8 h

pub yields : (c n time d : ℕ) (x : Context) (p : Parts) (out : seen.Outside) → serve c n (call_of time d x Yield p) out ≡ served None (with_next_place d x p) out
unfolding serve call_of
yields c n time d x p out = refl

module _ (c n time d a : ℕ) (x : Context) (p : Parts) where
  by_room : (ws : List ℕ) (t : Bool) → nat_lt (length ws) 65536 ≡ t → serve c n (call_of time d x (Out a) p) (console_outside ws) ≡ (if t then served None (with_next_place d x p) (console_outside (ws ++ slice_index x.regs a ∷ [])) else faulted 11)
  unfolding serve call_of
  by_room ws t e = ap (λ b. if b then served None (with_next_place d x p) (console_outside (ws ++ slice_index x.regs a ∷ [])) else faulted 11) e

  -- a register's word goes to a console with room
  pub prints_word : {A E : Type 0} (r : Result A E) (ws ws' : List ℕ) (w : ℕ) → IsOk r → (IsOk r ↔ (length ws < 65536)) → OnOk r (ws' ≡ ws ++ w ∷ []) → slice_index x.regs a ≡ w → serve c n (call_of time d x (Out a) p) (console_outside ws) ≡ served None (with_next_place d x p) (console_outside ws')
  prints_word r ws ws' w ok room pushed reads =
      by_room ws true (lt-ltb _ _ (room.0 ok))
      ∙ ap (λ vs. served None (with_next_place d x p) (console_outside vs)) (ap (λ v. ws ++ v ∷ []) reads ∙ sym (on_ok r ok pushed))

  -- a console without room refuses it
  pub prints_nothing : {A E : Type 0} (r : Result A E) (ws : List ℕ) → IsErr r → (IsOk r ↔ (length ws < 65536)) → serve c n (call_of time d x (Out a) p) (console_outside ws) ≡ faulted 11
  prints_nothing r ws err room = by_room ws false (le-ltb _ _ (if_not (ok_not_err r err) room.1))
    where
      if_not : {P : Type 0} → (P → ⊥) → (length ws < 65536 → P) → 65536 ≤ length ws
      if_not never more = let not_lt : length ws < 65536 → ⊥ = λ h. never (more h) in omega arith

  -- nothing else takes it
  pub prints_nowhere : (out : Outside) → ((r : Console) → out ≡ outside.Console r → ⊥) → serve c n (call_of time d x (Out a) p) (outside_seen out) ≡ faulted 11
  unfolding serve call_of
  prints_nowhere outside.Nothing none = refl
  prints_nowhere (outside.Channel r) none = refl
  prints_nowhere (outside.Line w) none = refl
  prints_nowhere (outside.Console ws) none = absurd (none ws refl)
