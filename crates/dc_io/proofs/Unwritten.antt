-- Bytes held back behind those that a writer has taken.
use Rattle.std.proofs.Common.{◌≡◌, ℕ, List, [], ◌++◌, length, take, drop, Option, Some, None, Result, Ok, Err, ap, sym, ◌∙◌, subst, append_assoc, append-nil, refl}
use Rattle.std.specs.Prelude.{IfOk, OnErr}
use Rattle.std.specs.Io.KnownBytes.{Appends, Keeps}
use Rattle.std.proofs.Math.Seq.{take-length}
use Rattle.std.proofs.lemmas.List.{take-append-drop}
use Rattle.dc_io.specs.Outputs.{Output, with_unwritten}
use Rattle.dc_io.specs.Told.{Adds, KeepsBeginning}
use Rattle.dc_io.proofs.Adding.{adds_both}

abbrev bytes_of : Option (List ℕ) → List ℕ
bytes_of None = []
bytes_of (Some xs) = xs

-- what the writer tells is what is added
pub appended : (a b : Option (List ℕ)) (bytes : List ℕ) → Appends a b bytes → Adds a b bytes
appended None b bytes h = record { added = λ told e. cc }
appended (Some xs) None bytes h = absurd h
appended (Some xs) (Some ys) bytes h = record { added = λ told e. ap Some h ∙ ap (λ (o : Option (List ℕ)). with_unwritten o bytes) e }

-- where the writer takes bytes that stand at the front of those held back, nothing is added
pub front_taken : (a b : Option (List ℕ)) (n : ℕ) (unwritten : List ℕ) → Adds a b (take n unwritten) → Adds (with_unwritten a unwritten) (with_unwritten b (drop n unwritten)) []
front_taken None b n unwritten adds = record { added = λ told e. cc }
front_taken (Some xs) b n unwritten adds = record {
  added = λ told e.
      ap (λ (o : Option (List ℕ)). with_unwritten o (drop n unwritten)) (adds.added xs refl)
      ∙ ap Some (append_assoc xs (take n unwritten) (drop n unwritten)) ∙ ap (λ (more : List ℕ). Some (xs ++ more)) (take-append-drop n unwritten) ∙ e ∙ ap Some (sym (append-nil told));
}

-- where the writer keeps what it has, so does what is told
pub kept_unwritten : (a b : Option (List ℕ)) (unwritten : List ℕ) → Keeps a b → Adds (with_unwritten a unwritten) (with_unwritten b unwritten) []
kept_unwritten None b unwritten h = record { added = λ told e. cc }
kept_unwritten (Some xs) None unwritten h = absurd h
kept_unwritten (Some xs) (Some ys) unwritten h = record { added = λ told e. ap (λ (bytes : List ℕ). Some (bytes ++ unwritten)) h ∙ e ∙ ap Some (sym (append-nil told)) }

-- where nothing is held back, what the writer takes is added
pub taken_added : (a b : Option (List ℕ)) (bytes : List ℕ) → Adds a b bytes → Adds (with_unwritten a []) (with_unwritten b []) bytes
taken_added None b bytes adds = record { added = λ told e. cc }
taken_added (Some xs) b bytes adds = record {
  added = λ told e.
      ap (λ (o : Option (List ℕ)). with_unwritten o []) (adds.added xs refl) ∙ ap Some (append-nil (xs ++ bytes))
      ∙ ap (λ (o : Option (List ℕ)). with_unwritten o bytes) (ap Some (sym (append-nil xs)) ∙ e);
}

-- bytes that are held back are added
unwritten_added : (a : Option (List ℕ)) (unwritten bytes : List ℕ) → Adds (with_unwritten a unwritten) (with_unwritten a (unwritten ++ bytes)) bytes
unwritten_added None unwritten bytes = record { added = λ told e. cc }
unwritten_added (Some xs) unwritten bytes = record { added = λ told e. ap Some (sym (append_assoc xs unwritten bytes)) ∙ ap (λ (o : Option (List ℕ)). with_unwritten o bytes) e }

-- where the bytes held back are let go, what the writer has taken stays
let_go : (a b : Option (List ℕ)) (unwritten : List ℕ) → Adds a (with_unwritten b unwritten) [] → KeepsBeginning a (with_unwritten b [])
let_go a None unwritten adds = record { stayed = λ told e. let wrong : None ≡ Some (told ++ []) = adds.added told e in cc }
let_go a (Some xs) unwritten adds = record {
  stayed = λ told e. (xs, unwritten, sym (append-nil told) ∙ sym (ap bytes_of (adds.added told e)), ap Some (append-nil xs));
}

-- where nothing is added, a whole text stays
all_stays : (a b : Option (List ℕ)) → Adds a b [] → KeepsBeginning a b
all_stays a b adds = record { stayed = λ told e. (told, [], sym (append-nil told), adds.added told e ∙ ap Some (append-nil told)) }

pub stays_at_err : {T E : Type 0} (r : Result T E) (a b c : Option (List ℕ)) → Adds a b [] → Adds b c [] → OnErr r (KeepsBeginning a c)
stays_at_err (Ok x) a b c first second = cc
stays_at_err (Err e) a b c first second = all_stays a c (adds_both first second)

module _ {W : Type 0} (contents : W → Option (List ℕ)) where
  abbrev told : Output W → Option (List ℕ)
  told s = with_unwritten (contents s.out) s.unwritten

  -- a piece is held back behind what was told
  pub hold_back_adds : (before : Option (List ℕ)) (mid after : Output W) (piece : List ℕ) → Adds before (told mid) [] → after ≡ record mid { unwritten = mid.unwritten ++ piece } → Adds before (told after) (take (length piece) piece)
  hold_back_adds before mid after piece kept e =
      let adds : Adds before (with_unwritten (contents mid.out) (mid.unwritten ++ piece)) piece = adds_both kept (unwritten_added (contents mid.out) mid.unwritten piece) in
      subst (λ (bytes : List ℕ). Adds before (told after) bytes) (sym (take-length piece)) (subst (λ (s : Output W). Adds before (told s) piece) (sym e) adds)

  -- what is held back is let go
  pub loses_unwritten : (before : Option (List ℕ)) (mid after : Output W) → Adds before (told mid) [] → after ≡ record mid { unwritten = [] } → KeepsBeginning before (told after)
  loses_unwritten before mid after kept e = subst (λ (s : Output W). KeepsBeginning before (told s)) (sym e) (let_go before (contents mid.out) mid.unwritten kept)

  -- a piece is passed on, where nothing is held back any more
  pub passes_on : (before : Option (List ℕ)) (mid after : Output W) {E : Type 0} (r : Result ℕ E) (piece : List ℕ) → Adds before (told mid) [] → mid.unwritten ≡ [] → after.unwritten ≡ [] →
      IfOk r (λ n. Adds (with_unwritten (contents mid.out) []) (with_unwritten (contents after.out) []) (take n piece)) → IfOk r (λ n. Adds before (told after) (take n piece))
  passes_on before mid after (Ok n) piece kept empty still adds =
      let clear : Adds before (with_unwritten (contents mid.out) []) [] = subst (λ (unwritten : List ℕ). Adds before (with_unwritten (contents mid.out) unwritten) []) empty kept in
      subst (λ (unwritten : List ℕ). Adds before (with_unwritten (contents after.out) unwritten) (take n piece)) (sym still) (adds_both clear adds)
  passes_on before mid after (Err e) piece kept empty still adds = cc
