use Rattle.std.proofs.Common.{rules, arith, ◌<◌, ◌≤◌, ◌+◌, ◌*◌, ◌/◌}
use Rattle.std.specs.Vec.{vec_capacity}
use Rattle.std.proofs.Math.Nat.{mul-le-mul_left, lt-mul-div-succ}
use Rattle.asan_senders.proofs.Dealing.{empty_push}
use Rattle.asan_senders.proofs.lanes.no_shares.Goals as goal

pub loop-preserved : goal.loop-preserved
loop-preserved g c =
    let inv = c.loop.invariant in
    let w = c.args.workers in
    let least : 256 < w * (256 / w + 1) = lt-mul-div-succ 256 c.requires.some in
    let room : 256 / w + 1 ≤ vec_capacity c.in_ok-share.share = search rules in
    let more = mul-le-mul_left w room in
    record {
      count = omega (arith, c.push_reserved.ensures.len);
      room = omega (arith, c.push_reserved.ensures.capacity);
      empty = rw c.push_reserved.ensures.items
          (empty_push w c.loop.shares.items c.in_ok-share.share inv.empty c.in_ok-share.ensures.items (omega arith));
    }

pub push_reserved-requires : goal.push_reserved-requires
push_reserved-requires g c =
    let count = c.loop.invariant.count in
    let room = c.loop.invariant.room in
    let turns = c.loop-test.true in
    omega arith
