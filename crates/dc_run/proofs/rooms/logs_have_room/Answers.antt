use Rattle.std.proofs.Common.{arith}
use Rattle.dc_run.proofs.rooms.logs_have_room.Goals as goal

pub returns-clause-cores : goal.returns-clause-cores
returns-clause-cores c = λ image lines history core valid script lawful within.
    let few = c.cores_make_few_entries.ensures image lines history core valid script lawful within in
    let short = script.most in
    omega (arith, few, short)

pub returns-clause-script : goal.returns-clause-script
returns-clause-script c = λ image lines history valid script lawful.
    let few = c.the_script_makes_few_entries.ensures image lines history valid script lawful in
    let short = script.most in
    omega (arith, few, short)
