use Rattle.std.proofs.Common.{◌<◌, Some, length, arith}
use Rattle.line_map.proofs.Branches.{kept_tag, node_put}
use Rattle.line_map.proofs.branch.BranchNode.set.Goals as goal

pub set-requires-clause-there : goal.set-requires-clause-there
set-requires-clause-there g c =
    let width = g.S.Node.width in
    let branch = c.args.self.now in
    let found = rw c.width-width.ensures at c.in-Some.ensures.some in
    let lt : c.in-Some.place < length branch.kept.items =
    (let is = branch.kept.ok.0 in let less = found.1 in omega arith) in
    let same = kept_tag g.S.Node.tag_at width branch.first branch.kept.items c.in-Some.place c.args.line
    c.index_mut.result.now lt c.index_mut.ensures.value found.0 in
    rw c.width-width.ensures (rw same at c.requires.there)

pub returns-in-Some : goal.returns-in-Some
returns-in-Some g c =
    let width = g.S.Node.width in
    let branch = c.args.self.now in
    let found = rw c.width-width.ensures at c.in-Some.ensures.some in
    let lt : c.in-Some.place < length branch.kept.items =
    (let is = branch.kept.ok.0 in let less = found.1 in omega arith) in
    let positive = (g.met.S.Node.is_width c.requires.fits.1).0 in
    let put = rw c.width-width.ensures at c.set.ensures in
    λ index below.
    node_put g.S.Node.tag_at width branch.first branch.kept.items c.in-Some.place c.set.new.self lt c.args.line
    (Some c.args.tag) c.index_mut.result.now
    positive found.0 c.index_mut.ensures.value put index
