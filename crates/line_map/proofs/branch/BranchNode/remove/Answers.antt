use Rattle.std.proofs.Common.{◌<◌, None, length, ◌∙◌, arith}
use Rattle.line_map.proofs.Branches.{node_put}
use Rattle.line_map.proofs.branch.BranchNode.remove.Goals as goal

pub returns-then-is_empty : goal.returns-then-is_empty
returns-then-is_empty g c =
    let width = g.S.Node.width in
    let branch = c.args.self.now in
    let found = rw c.width-width.ensures at c.in-Some.ensures.some in
    let lt : c.in-Some.place < length branch.kept.items =
    (let is = branch.kept.ok.0 in let less = found.1 in omega arith) in
    let positive = (g.met.S.Node.is_width c.requires.fits.1).0 in
    let taken = rw c.width-width.ensures at c.remove.ensures in
    λ index below.
    c.give_back.ensures index ∙ node_put g.S.Node.tag_at width branch.first branch.kept.items c.in-Some.place
    c.remove.new.self lt c.args.line None c.index_mut.result.now
    positive found.0 c.index_mut.ensures.value taken index

pub returns-else-is_empty : goal.returns-else-is_empty
returns-else-is_empty g c =
    let width = g.S.Node.width in
    let branch = c.args.self.now in
    let found = rw c.width-width.ensures at c.in-Some.ensures.some in
    let lt : c.in-Some.place < length branch.kept.items =
    (let is = branch.kept.ok.0 in let less = found.1 in omega arith) in
    let positive = (g.met.S.Node.is_width c.requires.fits.1).0 in
    let taken = rw c.width-width.ensures at c.remove.ensures in
    λ index below.
    node_put g.S.Node.tag_at width branch.first branch.kept.items c.in-Some.place c.remove.new.self lt c.args.line None
    c.index_mut.result.now
    positive found.0 c.index_mut.ensures.value taken index
