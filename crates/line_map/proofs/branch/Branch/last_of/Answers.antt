use Rattle.std.proofs.Common.{◌≡◌, ◌+◌, ◌-◌, ◌*◌, ◌/◌, ◌<◌, Some, length, arith, inl, inr}
use Rattle.std.proofs.Math.Nat.{mul-le-mul_right}
use Rattle.std.proofs.lemmas.Bool.{cases_lt}
use Rattle.line_map.specs.Branches.{branch_tag}
use Rattle.line_map.proofs.Branches.{below_tag, one_lower, reached, raised, none_below, last_below}
use Rattle.line_map.proofs.branch.Branch.last_of.Goals as goal

pub returns-in-Some : goal.returns-in-Some
returns-in-Some g c =
    let tag_at = g.S.Node.tag_at in
    let width = g.S.Node.width in
    let branch = c.args.self.now in
    let place = c.loop-place.place in
    let positive = (g.met.S.Node.is_width c.requires.fits).0 in
    let kept : place - 1 < length branch.kept.items =
    (let le = c.loop-place.invariant.kept in let lt = c.loop-place-test.true in omega arith) in
    let below = c.loop-place.invariant.below c.loop-place-test.true in
    let step = one_lower branch.first place width c.loop-place-test.true in
    let last = rw c.width-width.ensures at c.in-Some.ensures in
    rw c.width-width.ensures (
    raised (branch_tag tag_at width branch) ((branch.first + (place - 1)) * width + width) (c.args.end * width)
    (Some ((branch.first + (place - 1)) * width + c.in-Some.line)) (let more = mul-le-mul_right width below in
    omega arith)
    (λ line low high. c.loop-place.invariant.none line (omega arith) high)
    (last_below tag_at width branch.first branch.kept.items (place - 1) c.index-node.result.now positive kept
    c.index-node.ensures width c.in-Some.line (omega arith) last)
    )

pub loop-place-preserved-in-None : goal.loop-place-preserved-in-None
loop-place-preserved-in-None g c =
    let width = g.S.Node.width in
    let branch = c.args.self.now in
    let place = c.loop-place.place in
    let positive = (g.met.S.Node.is_width c.requires.fits).0 in
    let step = one_lower branch.first place width c.loop-place-test.true in
    let kept : place - 1 < length branch.kept.items =
    (let le = c.loop-place.invariant.kept in let lt = c.loop-place-test.true in omega arith) in
    let last = rw c.width-width.ensures at c.in-None.ensures in
    record {
      width = c.width-width.ensures;
      below = λ _. (let le = c.loop-place.invariant.below c.loop-place-test.true in omega arith);
      kept = (let le = c.loop-place.invariant.kept in omega arith);
      none = λ line low high.
          elim (cases_lt line ((branch.first + place) * width)) [
            | inl lt ↦ none_below g.S.Node.tag_at width branch.first branch.kept.items (place - 1)
                c.index-node.result.now positive kept c.index-node.ensures width (omega arith) last line low
                (omega arith)
            | inr ge ↦ c.loop-place.invariant.none line ge high
          ];
    }

pub loop-place-preserved : goal.loop-place-preserved
loop-place-preserved g c =
    let width = g.S.Node.width in
    let branch = c.args.self.now in
    let place = c.loop-place.place in
    let positive = (g.met.S.Node.is_width c.requires.fits).0 in
    let step = one_lower branch.first place width c.loop-place-test.true in
    let kept : place - 1 < length branch.kept.items =
    (let le = c.loop-place.invariant.kept in let lt = c.loop-place-test.true in omega arith) in
    record {
      width = c.width-width.ensures;
      below = λ _. (let le = c.loop-place.invariant.below c.loop-place-test.true in omega arith);
      kept = (let le = c.loop-place.invariant.kept in omega arith);
      none = λ line low high.
          elim (cases_lt line ((branch.first + place) * width)) [
            | inl lt ↦ none_below g.S.Node.tag_at width branch.first branch.kept.items (place - 1)
                c.index-node.result.now positive kept c.index-node.ensures width (omega arith)
                (λ line lt. c.is_empty.ensures c.if-not-is_empty.false line) line low (omega arith)
            | inr ge ↦ c.loop-place.invariant.none line ge high
          ];
    }

pub returns : goal.returns
returns g c = λ line lt.
    let width = g.S.Node.width in
    let branch = c.args.self.now in
    elim (cases_lt (line / width) branch.first) [
      | inl below ↦ below_tag g.S.Node.tag_at width branch.first branch.kept.items line below
      | inr above ↦
          let done = c.loop-place-test.false in
          let zero : branch.first + c.loop-place.place ≡ branch.first = omega arith in
          c.loop-place.invariant.none line (rw zero (reached branch.first width line above)) lt
    ]
