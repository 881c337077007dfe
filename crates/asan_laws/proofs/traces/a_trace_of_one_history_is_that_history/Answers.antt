use Rattle.asan_laws.proofs.Anew.{verdicts_whole, fault_whole}
use Rattle.asan_laws.proofs.traces.a_trace_of_one_history_is_that_history.Goals as goal

pub returns-clause-verdicts : goal.returns-clause-verdicts
returns-clause-verdicts c = verdicts_whole

pub returns-clause-fault : goal.returns-clause-fault
returns-clause-fault c = fault_whole
