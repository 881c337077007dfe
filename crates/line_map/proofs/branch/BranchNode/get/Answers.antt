use Rattle.std.proofs.Common.{◌<◌, length, sym, ◌∙◌, arith}
use Rattle.line_map.proofs.Branches.{kept_tag}
use Rattle.line_map.proofs.branch.BranchNode.get.Goals as goal

pub returns-in-Some : goal.returns-in-Some
returns-in-Some g c =
    let width = g.S.Node.width in
    let branch = c.args.self.now in
    let found = rw c.width-width.ensures at c.in-Some.ensures.some in
    let lt : c.in-Some.place < length branch.kept.items =
    (let is = branch.kept.ok.0 in let less = found.1 in omega arith) in
    let got = rw c.width-width.ensures at c.get.ensures in
    got ∙ sym (kept_tag g.S.Node.tag_at width branch.first branch.kept.items c.in-Some.place c.args.line
    c.index.result.now lt c.index.ensures found.0)
