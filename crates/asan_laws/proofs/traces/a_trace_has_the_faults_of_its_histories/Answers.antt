use Rattle.asan_laws.proofs.Anew.{faults_of_histories}
use Rattle.asan_laws.proofs.traces.a_trace_has_the_faults_of_its_histories.Goals as goal

pub returns : goal.returns
returns c = faults_of_histories
