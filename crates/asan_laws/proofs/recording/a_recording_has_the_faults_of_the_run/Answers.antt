use Rattle.asan_laws.proofs.Faults.{recorded_faults, recorded_alike, recorded_classes, whole_alike}
use Rattle.asan_laws.proofs.recording.a_recording_has_the_faults_of_the_run.Goals as goal

pub returns-clause-faults : goal.returns-clause-faults
returns-clause-faults c = recorded_faults

pub returns-clause-reports : goal.returns-clause-reports
returns-clause-reports c = recorded_alike

pub returns-clause-classes : goal.returns-clause-classes
returns-clause-classes c = recorded_classes

pub returns-clause-whole : goal.returns-clause-whole
returns-clause-whole c = whole_alike
