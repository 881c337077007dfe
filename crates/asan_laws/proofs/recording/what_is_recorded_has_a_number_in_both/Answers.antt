use Rattle.asan_laws.proofs.Numbers.{numbered_event, in_order}
use Rattle.asan_laws.proofs.recording.what_is_recorded_has_a_number_in_both.Goals as goal

pub returns-clause-event : goal.returns-clause-event
returns-clause-event c = numbered_event

pub returns-clause-order : goal.returns-clause-order
returns-clause-order c = in_order
