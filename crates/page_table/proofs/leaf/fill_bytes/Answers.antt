use Rattle.std.proofs.Common.{◌∙◌, arith, length-take, length-drop}
use Rattle.page_table.proofs.Slices.{filled}
use Rattle.page_table.proofs.leaf.fill_bytes.Goals as goal

pub returns : goal.returns
returns c = λ i. filled _ _ c.args.from c.args.to _ c.args.byte i c.requires.order (let long = c.told-bytes in
    omega arith)
    (length-take _ _ ∙ (let long = c.told-bytes in let rest = length-drop c.args.from c.args.bytes.now in omega arith))
    (c.fill.ensures.after (λ y is. is))
