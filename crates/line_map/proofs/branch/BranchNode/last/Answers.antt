use Rattle.std.proofs.Common.{◌≡◌, ℕ, ◌+◌, ◌*◌, ◌/◌, ◌%◌, ◌<◌, ◌≤◌, None, length, ap, arith}
use Rattle.std.proofs.Math.Nat.{mod-lt}
use Rattle.std.proofs.lemmas.Nat.{div-add-mod'}
use Rattle.line_map.specs.Branches.{branch_tag}
use Rattle.line_map.proofs.Branches.{within, raised, none_below, last_below}
use Rattle.line_map.proofs.branch.BranchNode.last.Goals as goal
use Rattle.line_map.proofs.branch.BranchNode.last.Goals.{in-Some+in-None-last, in-None}

pub returns-in-Some-last : goal.returns-in-Some-last
returns-in-Some-last g c =
    let width = g.S.Node.width in
    let branch = c.args.self.now in
    let found = rw c.width-width.ensures at c.in-Some.ensures.some in
    let lt : c.in-Some.place < length branch.kept.items =
    (let is = branch.kept.ok.0 in let less = found.1 in omega arith) in
    let end = c.args.end in
    let positive = (g.met.S.Node.is_width c.requires.fits.1).0 in
    let split : end / width * width + end % width ≡ end = div-add-mod' end width in
    let rest : end % width < width = mod-lt end positive in
    let last = rw c.width-width.ensures at c.in-Some-last.ensures in
    let lower = last_below g.S.Node.tag_at width branch.first branch.kept.items c.in-Some.place c.index.result.now
    positive lt c.index.ensures (end % width) c.in-Some-last.line (omega arith) last in
    rw c.width-width.ensures (rw split at (rw (← found.0) at lower))

pub returns : goal.returns
returns g c =
    let tag_at = g.S.Node.tag_at in
    let width = g.S.Node.width in
    let branch = c.args.self.now in
    let end = c.args.end in
    let positive = (g.met.S.Node.is_width c.requires.fits.1).0 in
    let split : end / width * width + end % width ≡ end = div-add-mod' end width in
    let rest : end % width < width = mod-lt end positive in
    let low = rw c.width-width.ensures at c.last_of.ensures in
    let none : (line : ℕ) → end / width * width ≤ line → line < end → branch_tag tag_at width branch line ≡ None =
    elim c.match-place_of.branch [
      | in-Some+in-None-last w ↦
          let found = rw c.width-width.ensures at w.in-Some.ensures.some in
          let lt : w.in-Some.place < length branch.kept.items =
          (let is = branch.kept.ok.0 in let less = found.1 in omega arith) in
          let same : end / width * width ≡ (branch.first + w.in-Some.place) * width = ap (λ i. i * width) found.0 in
          let last = rw c.width-width.ensures at w.in-None-last.ensures in
          λ line above below.
          none_below tag_at width branch.first branch.kept.items w.in-Some.place w.index.result.now positive lt
          w.index.ensures (end % width) (omega arith) last line (omega arith) (omega arith)
      | in-None w ↦
          let none = rw c.width-width.ensures at w.in-None.ensures.none in
          λ line above below. none line (within (end / width) width line above (omega arith))
    ] in
    raised (branch_tag tag_at width branch) (end / width * width) end c.last_of.result (omega arith) none low
