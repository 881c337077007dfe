use Rattle.asan_laws.proofs.Thinned.{no_trace, same_fault}
use Rattle.asan_laws.proofs.laws.accesses_leave_no_trace.Goals as goal

pub returns-clause-trace : goal.returns-clause-trace
returns-clause-trace c = no_trace

pub returns-clause-verdict : goal.returns-clause-verdict
returns-clause-verdict c = λ bound thin full event way. same_fault bound thin full (no_trace bound thin full way) event
