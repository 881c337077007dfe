-- The first item of the buffer's part is taken.
use Rattle.std.proofs.Common.{◌++◌, [], ap, arith, cond}
use Rattle.rtrb.specs.Ring.{known_items}
use Rattle.trace_lane.specs.Lanes.{taken_list, waiting}
use Rattle.trace_lane.proofs.Pieces.{first, taken, still_last}
use Rattle.trace_lane.proofs.lane_out.LaneOut.take.Goals as goal

pub invariant_of-self-clause-last_received : goal.invariant_of-self-clause-last_received
invariant_of-self-clause-last_received g c =
    let old = c.args.self.now in
    still_last _ _ old.buffer.items old.from old.to c.index-item.result.now old.last_received c.if-self.true
    (omega (arith, old.in_buffer.1, old.buffer.ok.0)) c.index-item.ensures

pub returns-then-self-clause-some : goal.returns-then-self-clause-some
unfolding taken_list
returns-then-self-clause-some g c =
    let old = c.args.self.now in
    taken _ _ old.buffer.items old.from old.to c.index-item.result.now old.last_received c.if-self.true
    (omega (arith, old.in_buffer.1, old.buffer.ok.0)) c.index-item.ensures

pub returns-then-self-clause-known : goal.returns-then-self-clause-known
unfolding waiting
returns-then-self-clause-known g c = λ some.
    let old = c.args.self.now in
    ap (λ l. l ++ cond old.settled (known_items old.ring) [])
    (first old.buffer.items old.from old.to c.index-item.result.now c.if-self.true
    (omega (arith, old.in_buffer.1, old.buffer.ok.0)) c.index-item.ensures)
