use Rattle.asan_laws.proofs.LeanNumbers.{lean_event, lean_order}
use Rattle.asan_laws.proofs.lean_recording.what_is_recorded_leanly_has_a_number_in_both.Goals as goal

pub returns-clause-event : goal.returns-clause-event
returns-clause-event c = lean_event

pub returns-clause-order : goal.returns-clause-order
returns-clause-order c = lean_order
