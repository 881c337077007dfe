use Rattle.std.proofs.Common.{◌+◌, ◌/◌, ◌%◌, ◌∙◌, arith, inl, inr}
use Rattle.std.proofs.lemmas.Bool.{cases_lt}
use Rattle.line_map.proofs.Branches.{kept_tag}
use Rattle.line_map.proofs.branch.Branch.are_empty.Goals as goal

pub loop-node-preserved : goal.loop-node-preserved
loop-node-preserved g c = λ line lt.
    let width = g.S.Node.width in
    let branch = c.args.self.now in
    let place = c.loop-node.node-index in
    let items = c.deref-node-items.ensures.value in
    elim (cases_lt (line / width) (branch.first + place)) [
      | inl below ↦ c.loop-node.invariant line below
      | inr above ↦
          kept_tag g.S.Node.tag_at width branch.first branch.kept.items place line c.node-item.result
          (rw items at c.loop-node-test.true) (rw items at c.node-item.is) (omega arith)
          ∙ c.is_empty.ensures c.if-not-is_empty.false (line % width)
    ]
