use Rattle.line_map.proofs.Leaves.{last_below, none_below, tag_there, without}
use Rattle.line_map.proofs.leaf.LeafNode.last.Goals as goal

pub returns : goal.returns
returns g c =
    let leaf = c.args.self.now in
    let low = rw c.bits_below.ensures at c.in_ok-checked_ilog2.ensures.power_le in
    let high = rw c.bits_below.ensures at c.in_ok-checked_ilog2.ensures.next_power_gt in
    let last = last_below leaf.lines c.args.end c.in_ok-checked_ilog2.field-0 low high in
    rw c.from.ensures (
      last.0,
      tag_there leaf.lines leaf.entries.items c.in_ok-checked_ilog2.field-0 leaf.counted last.1,
      λ line past below. without leaf.lines leaf.entries.items line (last.2 line past below),
    )

pub returns-in_err-checked_ilog2 : goal.returns-in_err-checked_ilog2
returns-in_err-checked_ilog2 g c =
    let leaf = c.args.self.now in
    let none = rw c.bits_below.ensures at c.in_err-checked_ilog2.ensures.none in
    rw c.from_residual.ensures (λ line lt. without leaf.lines leaf.entries.items line
    (none_below leaf.lines c.args.end none line lt))
