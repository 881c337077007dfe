use Rattle.asan_laws.proofs.Faults.{cut_alike}
use Rattle.asan_laws.proofs.recording.a_segment_may_leave_out_the_oldest_held_blocks.Goals as goal

pub returns : goal.returns
returns c = cut_alike
