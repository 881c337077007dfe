use Rattle.trace_lane.specs.Lanes.{known_room}
use Rattle.trace_lane.proofs.make.lane.Goals as goal

pub returns-clause-room : goal.returns-clause-room
unfolding known_room
returns-clause-room g c = c.in-Ok-new.ensures.producer.1
