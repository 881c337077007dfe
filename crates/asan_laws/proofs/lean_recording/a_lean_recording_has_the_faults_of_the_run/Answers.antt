use Rattle.asan_laws.proofs.LeanFaults.{lean_faults, lean_reports, lean_whole, lean_classes}
use Rattle.asan_laws.proofs.lean_recording.a_lean_recording_has_the_faults_of_the_run.Goals as goal

pub returns-clause-faults : goal.returns-clause-faults
returns-clause-faults c = lean_faults

pub returns-clause-reports : goal.returns-clause-reports
returns-clause-reports c = lean_reports

pub returns-clause-whole : goal.returns-clause-whole
returns-clause-whole c = lean_whole

pub returns-clause-classes : goal.returns-clause-classes
returns-clause-classes c = lean_classes
