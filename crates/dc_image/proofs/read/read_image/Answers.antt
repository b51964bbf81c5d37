use Rattle.std.proofs.Common.{◌∙◌, arith}
use Rattle.std.proofs.lemmas.Bool.{false≢true}
use Rattle.dc_image.proofs.ValidLaws.{image_of_valid}
use Rattle.dc_image.proofs.Whole.{image_of-long, image_of-no_text, image_of-no_tree, image_of-tree}
use Rattle.dc_image.proofs.read.read_image.Goals as goal

pub returns-then-bytes-gt-LONGEST_FILE-clause-refused : goal.returns-then-bytes-gt-LONGEST_FILE-clause-refused
returns-then-bytes-gt-LONGEST_FILE-clause-refused c = image_of-long c.args.bytes.now (omega arith)

pub returns-in_default-clause-refused : goal.returns-in_default-clause-refused
returns-in_default-clause-refused c = image_of-no_text c.args.bytes.now (omega arith) c.in_default.ensures.cases.0

pub returns-in-Err-clause-refused : goal.returns-in-Err-clause-refused
returns-in-Err-clause-refused c =
    let text = c.in-Ok.ensures.cases in
    image_of-no_tree c.args.bytes.now c.in-Ok.text.now (omega arith) text.0 text.1 (c.in-Err.ensures.refused (λ memory. false≢true (c.if-is_memory.ensures.1 memory)))

pub returns-in-Ok-image_of-clause-valid : goal.returns-in-Ok-image_of-clause-valid
returns-in-Ok-image_of-clause-valid c =
    let text = c.in-Ok.ensures.cases in
    image_of_valid c.args.bytes.now c.in-Ok-image_of.image
    (image_of-tree c.args.bytes.now c.in-Ok.text.now _ (omega arith) text.0 text.1 c.in-Ok-table_from_str.ensures.ok ∙ c.in-Ok-image_of.ensures)

pub returns-in-Ok-image_of-clause-image : goal.returns-in-Ok-image_of-clause-image
returns-in-Ok-image_of-clause-image c =
    let text = c.in-Ok.ensures.cases in
    image_of-tree c.args.bytes.now c.in-Ok.text.now _ (omega arith) text.0 text.1 c.in-Ok-table_from_str.ensures.ok ∙ c.in-Ok-image_of.ensures

pub returns-clause-refused : goal.returns-clause-refused
returns-clause-refused c =
    let text = c.in-Ok.ensures.cases in
    let tree = image_of-tree c.args.bytes.now c.in-Ok.text.now _ (omega arith) text.0 text.1 c.in-Ok-table_from_str.ensures.ok in
    rw (c.told.ensures, tree) c.in-Err-image_of.ensures
