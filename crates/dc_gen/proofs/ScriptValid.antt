-- The generated script is valid.
use Rattle.std.proofs.Common.{◌≡◌, ◌&&◌, List, [], ◌∷◌, Bool, true, false, nat_lt, refl, arith}
use Rattle.std.specs.List.{list_all}
use Rattle.std.proofs.lemmas.Bool.{ltb-true, and_parts}
use Rattle.dc_base.specs.declared.commands.Command.TheVariants as command
use Rattle.dc_base.specs.declared.commands.ScriptLine.{ScriptLine}
use Rattle.dc_base.specs.declared.commands.ScriptLine.TheVariants as script
use Rattle.dc_base.specs.Words.{Each}
use Rattle.dc_base.specs.States.{Settings}
use Rattle.dc_base.specs.Bounded.{LineWithin}
use Rattle.dc_base.specs.Valid.{IsValidScript}
use Rattle.dc_base.specs.Generated.{generated_script}
use Rattle.dc_base.proofs.EachLaws.{each_nil, each_cons}

-- whether a line names what eight cores and sixteen blocks have
abbrev fits : ScriptLine → Bool
fits (script.Boot (command.Replace c v)) = nat_lt c.0 8
fits (script.Boot (command.Attach b c)) = nat_lt b.0 16 && nat_lt c.0 8
fits (script.Boot (command.Park b c)) = nat_lt b.0 16 && nat_lt c.0 8
fits l = false

one : (t : Settings) (l : ScriptLine) → t.cores ≡ 8 → t.blocks ≡ 16 → fits l ≡ true → LineWithin t l
one t (script.Boot (command.Replace c v)) cores blocks h = rw cores (ltb-true c.0 8 h)
one t (script.Boot (command.Attach b c)) cores blocks h = let p = and_parts (nat_lt b.0 16) (nat_lt c.0 8) h in (rw blocks (ltb-true b.0 16 p.0), rw cores (ltb-true c.0 8 p.1))
one t (script.Boot (command.Park b c)) cores blocks h = let p = and_parts (nat_lt b.0 16) (nat_lt c.0 8) h in (rw blocks (ltb-true b.0 16 p.0), rw cores (ltb-true c.0 8 p.1))
one t (script.Boot (command.Start c v)) cores blocks h = cc
one t (script.Boot (command.Stop c)) cores blocks h = cc
one t (script.Boot (command.Move b c)) cores blocks h = cc
one t (script.Boot (command.Unpark b c)) cores blocks h = cc
one t (script.Raise l) cores blocks h = cc
one t (script.Route l c) cores blocks h = cc
one t (script.Await b n p) cores blocks h = cc

all : (t : Settings) (ls : List ScriptLine) → t.cores ≡ 8 → t.blocks ≡ 16 → list_all fits ls ≡ true → Each ls (λ q l. LineWithin t l)
all t [] cores blocks h = each_nil (λ q l. LineWithin t l)
all t (l ∷ ls) cores blocks h =
    let p = and_parts (fits l) (list_all fits ls) h in
    each_cons (λ q l. LineWithin t l) l ls (one t l cores blocks p.0) (all t ls cores blocks p.1)

pub script_valid : (t : Settings) → t.cores ≡ 8 → t.blocks ≡ 16 → IsValidScript t generated_script
unfolding generated_script
script_valid t cores blocks = record { most = omega arith; lines = all t generated_script cores blocks refl }
