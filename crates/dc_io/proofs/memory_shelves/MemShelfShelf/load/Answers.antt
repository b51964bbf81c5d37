use Rattle.std.proofs.Common.{rules, ◌≡◌, Some, None, subst}
use Rattle.std.specs.Prelude.{IsNone, IsSomeAnd, Option, ◌<◌, length}
use Rattle.dc_io.specs.declared.memory_shelves.MemFile.{MemFile}
use Rattle.dc_base.specs.Limits.{longest_file}
use Rattle.dc_io.specs.Files.{readable}
use Rattle.dc_io.proofs.memory_shelves.MemShelfShelf.load.Goals as goal

pub returns-in-Some-clause-failed_where : goal.returns-in-Some-clause-failed_where
returns-in-Some-clause-failed_where c =
    let read : readable c.args.self.now c.args.name.now ≡ Some c.in-Some.file.now = search rules in
    (λ failed. absurd (c.copy_file.ensures.steady failed), λ none. let wrong : IsNone (Some c.in-Some.file.now) = subst (λ (file : Option MemFile). IsNone file) read none in cc)

pub returns-in-None-clause-too_long_where : goal.returns-in-None-clause-too_long_where
returns-in-None-clause-too_long_where c =
    let read : readable c.args.self.now c.args.name.now ≡ None = search rules in
    (λ wrong. cc, λ some. absurd (subst (λ (file : Option MemFile). IsSomeAnd file (λ f. longest_file < length f.bytes)) read some))
