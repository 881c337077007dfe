use Rattle.asan_laws.proofs.Anew.{verdicts_begun, fault_begun}
use Rattle.asan_laws.proofs.traces.a_history_that_begins_anew_is_judged_by_itself.Goals as goal

pub returns-clause-verdicts : goal.returns-clause-verdicts
returns-clause-verdicts c = verdicts_begun

pub returns-clause-fault : goal.returns-clause-fault
returns-clause-fault c = fault_begun
