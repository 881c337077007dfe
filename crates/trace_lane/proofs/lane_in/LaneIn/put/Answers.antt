use Rattle.trace_lane.specs.Lanes.{known_room}
use Rattle.trace_lane.proofs.lane_in.LaneIn.put.Goals as goal

pub returns-in-Ok-clause-room : goal.returns-in-Ok-clause-room
unfolding known_room
returns-in-Ok-clause-room g c = c.in-Ok.ensures.ok.1

pub returns-in-Err-Full-clause-succeeds : goal.returns-in-Err-Full-clause-succeeds
unfolding known_room
returns-in-Err-Full-clause-succeeds g c = c.in-Err-Full.ensures.succeeds
