use Rattle.asan_laws.proofs.NewSegment.{can_be_recorded}
use Rattle.asan_laws.proofs.lean_recording.each_event_can_be_recorded_in_a_new_segment.Goals as goal

pub returns : goal.returns
returns c = can_be_recorded
