use Rattle.std.proofs.Common.{◌≡◌, ◌++◌, ◌-◌, map, take, drop, length, decimal, ap, sym, ◌∙◌, arith}
use Rattle.dc_base.specs.TextWords.{add_word, comma_list}
use Rattle.dc_text.specs.Lines.{behind_commas}
use Rattle.dc_text.proofs.Commas.{first_and_others, add_word-append}
use Rattle.dc_text.proofs.lists.push_list.Goals as goal

pub returns : goal.returns
returns g c =
    let whole = first_and_others g.T.Numbered.number c.args.items.now c.first-item.result c.number.result c.in-len1-up.len_at_least (c.number.ensures ∙ ap g.T.Numbered.number c.first-item.is) in
    let others = behind_commas (map g.T.Numbered.number (take (length c.args.items.now - 1) (drop 1 c.args.items.now))) in
    let added : c.push_behind_commas.new.line.bytes ≡ add_word c.args.line.now.bytes (comma_list (map g.T.Numbered.number c.args.items.now)) =
    c.push_behind_commas.ensures.added
    ∙ ap (λ bytes. bytes ++ others) c.push_u32.ensures.added
    ∙ add_word-append c.args.line.now.bytes (decimal c.number.result) others
    ∙ ap (λ word. add_word c.args.line.now.bytes word) (sym whole) in
    record { added = added; len = omega arith }
