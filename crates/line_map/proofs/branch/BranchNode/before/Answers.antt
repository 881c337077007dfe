use Rattle.std.proofs.Common.{◌≡◌, ℕ, ◌+◌, ◌*◌, ◌/◌, ◌%◌, ◌<◌, ◌≤◌, None, length, ap, refl, arith, inr}
use Rattle.std.proofs.lemmas.Nat.{div-add-mod'}
use Rattle.line_map.specs.Nodes.{StandsFrom}
use Rattle.line_map.specs.Branches.{branch_tag}
use Rattle.line_map.proofs.Branches.{within, raised_entry, place_some, place_none}
use Rattle.line_map.proofs.branch.BranchNode.before.Goals as goal
use Rattle.line_map.proofs.branch.BranchNode.before.Goals.{in-Some+in-None-before, in-None}

pub returns-in-Some-before : goal.returns-in-Some-before
returns-in-Some-before g c =
    let width = g.S.Node.width in
    let branch = c.args.self.now in
    let found = rw c.width-width.ensures at c.in-Some.ensures.some in
    let lt : c.in-Some.place < length branch.kept.items =
    (let is = branch.kept.ok.0 in let less = found.1 in omega arith) in
    let positive = (g.met.S.Node.is_width c.requires.fits.1).0 in
    let last = rw c.width-width.ensures at c.in-Some-before.ensures in
    let lower = place_some g.S.Node.tag_at width branch.first branch.kept.items c.in-Some.place c.index.result.now
    positive lt c.index.ensures c.args.line c.args.offset found.0 c.in-Some-before.found _ last in
    rw c.width-width.ensures (rw (← found.0) at lower)

pub returns : goal.returns
returns g c =
    let tag_at = g.S.Node.tag_at in
    let width = g.S.Node.width in
    let branch = c.args.self.now in
    let line = c.args.line in
    let positive = (g.met.S.Node.is_width c.requires.fits.1).0 in
    let split : line / width * width + line % width ≡ line = div-add-mod' line width in
    let low = rw c.width-width.ensures at c.last_entry.ensures in
    let none : StandsFrom c.args.offset (branch_tag tag_at width branch line)
    × ((index : ℕ) → line / width * width ≤ index → index < line → branch_tag tag_at width branch index ≡ None) =
    elim c.match-place_of.branch [
      | in-Some+in-None-before w ↦
          let found = rw c.width-width.ensures at w.in-Some.ensures.some in
          let lt : w.in-Some.place < length branch.kept.items =
          (let is = branch.kept.ok.0 in let less = found.1 in omega arith) in
          let same : line / width * width ≡ (branch.first + w.in-Some.place) * width = ap (λ i. i * width) found.0 in
          let last = rw c.width-width.ensures at w.in-None-before.ensures in
          let both = place_none tag_at width branch.first branch.kept.items w.in-Some.place w.index.result.now positive
          lt w.index.ensures line c.args.offset found.0 last in
          (both.0, λ index above below. both.1 index (omega arith) below)
      | in-None w ↦
          let none = rw c.width-width.ensures at w.in-None.ensures.none in (
            λ tag some. absurd (let own = none line refl in cc),
            λ index above below. none index (within (line / width) width index above (omega arith)),
          )
    ] in
    inr (none.0, raised_entry (branch_tag tag_at width branch) (line / width * width) line _ (omega arith) none.1 low)
