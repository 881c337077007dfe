use Rattle.trace_lane.specs.Lanes.{known_room}
use Rattle.trace_lane.proofs.lane_in.LaneIn.is_left.Goals as goal

pub returns-clause-room : goal.returns-clause-room
unfolding known_room
returns-clause-room g c = c.is_abandoned.ensures.2
