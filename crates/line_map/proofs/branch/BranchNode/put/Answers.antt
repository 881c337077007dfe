use Rattle.std.proofs.Common.{◌≡◌, ℕ, ◌+◌, ◌/◌, ◌<◌, Some, length, refl, ◌∙◌, arith}
use Rattle.std.specs.Prelude.{vec_len}
use Rattle.line_map.specs.Branches.{branch_tag}
use Rattle.line_map.proofs.Branches.{node_put, node_same}
use Rattle.line_map.proofs.branch.BranchNode.put.Goals as goal
use Rattle.line_map.proofs.branch.BranchNode.put.Goals.{in-Some, in-None+in_ok-place-in-None}

pub returns-in-Ok-clause-ok : goal.returns-in-Ok-clause-ok
returns-in-Ok-clause-ok g c =
    let tag_at = g.S.Node.tag_at in
    let width = g.S.Node.width in
    let branch = c.match-place_of.self in
    let place = c.match-place_of.place in
    let positive = (g.met.S.Node.is_width c.requires.fits.1).0 in
    let ready : (c.args.line / width ≡ branch.first + place) × (place < vec_len branch.kept)
    × ((line : ℕ) → branch_tag tag_at width branch line ≡ branch_tag tag_at width c.args.self.now line) =
    elim c.match-place_of.branch [
      | in-Some w ↦ rw (w.self-is, w.place-is) (let found = rw c.width-width.ensures at w.in-Some.ensures.some in
          (found.0, found.1, λ line. refl {a = branch_tag tag_at width c.args.self.now line}))
      | in-None+in_ok-place-in-None w ↦ rw (w.self-is, w.place-is)
          (let kept = rw c.width-width.ensures at w.in_ok-place-in-None.ensures.ok in
          (kept.0, kept.1, w.keep.ensures.same))
    ] in
    let lt : place < length branch.kept.items = (let is = branch.kept.ok.0 in let less = ready.1 in omega arith) in
    let put = rw c.width-width.ensures at c.in-Ok.ensures.ok in
    λ index below.
    node_put tag_at width branch.first branch.kept.items place c.put.new.self lt c.args.line (Some c.args.tag)
    c.index_mut.result.now
    positive ready.0 c.index_mut.ensures.value put index ∙ rw (ready.2 index) refl

pub returns-in-Err-clause-err : goal.returns-in-Err-clause-err
returns-in-Err-clause-err g c =
    let tag_at = g.S.Node.tag_at in
    let width = g.S.Node.width in
    let branch = c.match-place_of.self in
    let place = c.match-place_of.place in
    let positive = (g.met.S.Node.is_width c.requires.fits.1).0 in
    let ready : (c.args.line / width ≡ branch.first + place) × (place < vec_len branch.kept)
    × ((line : ℕ) → branch_tag tag_at width branch line ≡ branch_tag tag_at width c.args.self.now line) =
    elim c.match-place_of.branch [
      | in-Some w ↦ rw (w.self-is, w.place-is) (let found = rw c.width-width.ensures at w.in-Some.ensures.some in
          (found.0, found.1, λ line. refl {a = branch_tag tag_at width c.args.self.now line}))
      | in-None+in_ok-place-in-None w ↦ rw (w.self-is, w.place-is)
          (let kept = rw c.width-width.ensures at w.in_ok-place-in-None.ensures.ok in
          (kept.0, kept.1, w.keep.ensures.same))
    ] in
    let lt : place < length branch.kept.items = (let is = branch.kept.ok.0 in let less = ready.1 in omega arith) in
    λ line.
    c.give_back.ensures line
    ∙ node_same tag_at width branch.first branch.kept.items place c.put.new.self lt c.index_mut.result.now
    c.index_mut.ensures.value c.in-Err.ensures.err line
    ∙ ready.2 line
