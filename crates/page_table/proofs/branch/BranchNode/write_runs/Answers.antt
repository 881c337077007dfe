use Rattle.std.proofs.Common.{◌≡◌, ◌+◌, ◌-◌, ◌/◌, ◌%◌, ◌<◌, ◌≤◌, arith, length}
use Rattle.page_table.specs.Runs.{length_of}
use Rattle.page_table.specs.Nodes.{HasRunsUpTo}
use Rattle.page_table.proofs.Branches.{node_has_runs, node_same}
use Rattle.page_table.proofs.branch.BranchNode.write_runs.Goals as goal

pub returns-then-end-width-clause-done : goal.returns-then-end-width-clause-done
returns-then-end-width-clause-done g c written =
    let byte_at = g.S.Node.byte_at in
    let width = g.S.Node.width in
    let runs = c.args.runs.now in
    let old = c.args.self.now in
    let positive = (g.met.S.Node.is_width c.requires.fits.1).0 in
    let lt : c.args.from / width < length old.kept.items =
    rw (← c.width-width.ensures) (let is = old.kept.ok.0 in let within = c.if-end-width.true.0 in
    let len = c.len.ensures in omega arith) in
    let end : c.args.from % width + (c.args.to - c.args.from) ≤ width =
    rw (← c.width-width.ensures) c.if-end-width.true.1 in
    let lent = rw c.width-width.ensures at c.index_mut.ensures.value in
    let long : length_of runs ≡ c.args.to - c.args.from = (let is = c.requires.length in omega arith) in
    let done : HasRunsUpTo width (byte_at c.index_mut.result.now) (byte_at c.write_runs.new.self) (c.args.from % width)
    (c.args.from % width + (c.args.to - c.args.from)) runs =
    rw (← long) (rw c.width-width.ensures at (c.write_runs.ensures.done written)) in
    λ index below. rw (c.width-width.ensures, ← c.requires.length)
    (node_has_runs byte_at width old.kept.items c.args.from c.args.to 0 old.rest index (let is = c.requires.length in
    omega arith) (omega arith) runs
    c.index_mut.result.now c.write_runs.new.self positive lt lent done)

pub returns-then-end-width-clause-other : goal.returns-then-end-width-clause-other
returns-then-end-width-clause-other g c other =
    let byte_at = g.S.Node.byte_at in
    let width = g.S.Node.width in
    let old = c.args.self.now in
    let positive = (g.met.S.Node.is_width c.requires.fits.1).0 in
    let lt : c.args.from / width < length old.kept.items =
    rw (← c.width-width.ensures) (let is = old.kept.ok.0 in let within = c.if-end-width.true.0 in
    let len = c.len.ensures in omega arith) in
    let lent = rw c.width-width.ensures at c.index_mut.ensures.value in
    λ index below. rw c.width-width.ensures
    (node_same byte_at width old.kept.items (c.args.from / width) old.rest index
    c.index_mut.result.now c.write_runs.new.self positive lt lent (c.write_runs.ensures.other other))
