use Rattle.std.proofs.Common.{length, sym, ap, ◌∙◌}
use Rattle.std.proofs.Math.Nat.{eq-zero-or-pos}
use Rattle.std.proofs.lemmas.List.{length-append}
use Rattle.trace_lane.specs.Lanes.{known_room}
use Rattle.trace_lane.proofs.Pieces.{all_put}
use Rattle.trace_lane.proofs.lane_in.LaneIn.put_some.Goals as goal

pub returns-clause-room : goal.returns-clause-room
unfolding known_room
returns-clause-room g c = c.push_partial_slice.ensures.known

pub returns-clause-all : goal.returns-clause-all
unfolding known_room
returns-clause-all g c enough =
    let parts = c.push_partial_slice.result in
    let is = c.push_partial_slice.ensures in
    all_put (eq-zero-or-pos (length parts.1.now))
    (sym (length-append parts.0.now parts.1.now) ∙ ap length is.parts) is.known is.most enough
