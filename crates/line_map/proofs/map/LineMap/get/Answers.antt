use Rattle.std.proofs.Common.{sym, arith}
use Rattle.line_map.specs.Trees.{tree_tag}
use Rattle.line_map.proofs.Found.{slot-past, no-tag, this-place, other-place}
use Rattle.line_map.proofs.map.LineMap.get.Goals as goal

pub returns-then-line-ge-ALL : goal.returns-then-line-ge-ALL
returns-then-line-ge-ALL g c = rw (← c.self.view_is)
    (sym (slot-past (tree_tag c.self.inside.tree) c.self.invariant c.args.at (omega arith)))

pub returns-then-from-at : goal.returns-then-from-at
returns-then-from-at g c =
    rw (← c.self.view_is) (sym (this-place (tree_tag c.self.inside.tree) c.self.invariant c.args.at c.in-Some.tag
    (omega arith) (sym c.in-Some.ensures) (let same = c.if-from-at.true in let from = c.from.ensures in
    omega arith)))

pub returns-else-from-at : goal.returns-else-from-at
returns-else-from-at g c =
    rw (← c.self.view_is) (sym (other-place (tree_tag c.self.inside.tree) c.self.invariant c.args.at c.in-Some.tag
    (omega arith) (sym c.in-Some.ensures) (let other = c.if-from-at.false in let from = c.from.ensures in
    omega arith)))

pub returns-in-None : goal.returns-in-None
returns-in-None g c =
    rw (← c.self.view_is) (sym (no-tag (tree_tag c.self.inside.tree) c.self.invariant c.args.at (omega arith)
    (sym c.in-None.ensures)))
