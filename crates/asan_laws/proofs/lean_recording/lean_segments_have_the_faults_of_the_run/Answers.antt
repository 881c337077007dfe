use Rattle.asan_laws.proofs.LeanFaults.{segments_faults, segments_reports, segments_classes}
use Rattle.asan_laws.proofs.lean_recording.lean_segments_have_the_faults_of_the_run.Goals as goal

pub returns-clause-faults : goal.returns-clause-faults
returns-clause-faults c = segments_faults

pub returns-clause-reports : goal.returns-clause-reports
returns-clause-reports c = segments_reports

pub returns-clause-classes : goal.returns-clause-classes
returns-clause-classes c = segments_classes
