use Rattle.asan_laws.proofs.Alike.{faults_alike, reports_alike}
use Rattle.asan_laws.proofs.laws.later_reports_are_the_same.Goals as goal

pub returns-clause-faults : goal.returns-clause-faults
returns-clause-faults c = faults_alike

pub returns-clause-reports : goal.returns-clause-reports
returns-clause-reports c = reports_alike
