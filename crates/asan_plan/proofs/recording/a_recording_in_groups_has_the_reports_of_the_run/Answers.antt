use Rattle.asan_plan.proofs.Groups.{reports_of_groups, faults_of_groups}
use Rattle.asan_plan.proofs.recording.a_recording_in_groups_has_the_reports_of_the_run.Goals as goal

pub returns-clause-reports : goal.returns-clause-reports
returns-clause-reports c = reports_of_groups

pub returns-clause-faults : goal.returns-clause-faults
returns-clause-faults c = faults_of_groups
