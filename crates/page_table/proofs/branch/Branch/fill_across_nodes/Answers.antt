use Rattle.std.proofs.Common.{◌*◌, arith}
use Rattle.std.proofs.lemmas.Result.{err_from_is_err_and}
use Rattle.page_table.specs.declared.branch.TheConstants.{NODES}
use Rattle.page_table.specs.declared.branch.Branch.{Branch}
use Rattle.page_table.specs.Branches.{branch_byte}
use Rattle.page_table.proofs.Fills.{broken_off_later}
use Rattle.page_table.proofs.branch.Branch.fill_across_nodes.Goals as goal

pub returns-in_err-fill_within_node-clause-err : goal.returns-in_err-fill_within_node-clause-err
returns-in_err-fill_within_node-clause-err g c =
    let p = err_from_is_err_and c.from_residual.result c.from_residual.ensures.1 in
    let bytes = λ (branch : Branch g.row.S.Denot g.row.A.Denot). branch_byte g.S.Node.byte_at g.S.Node.width branch in
    rw p.1
    (broken_off_later (NODES * g.S.Node.width) (bytes c.args.self.now) (bytes c.loop-at.self)
    (bytes c.fill_within_node.new.self)
    c.args.from c.loop-at.at c.args.byte c.loop-at.invariant.low c.loop-at.invariant.filled
    c.min-next.result c.args.to (let is = c.min-next.ensures in
    omega arith) c.requires.end c.in_err-fill_within_node.ensures.err)
