use Rattle.asan_program.proofs.Carrying.{files_printed, status_of_door}
use Rattle.asan_program.proofs.program.check_files.Goals as goal

pub returns-clause-files : goal.returns-clause-files
returns-clause-files g c =
    let door = c.in_ok-door.ensures in
    files_printed _ _ c.args.files.now _ _ _ c.in_ok-door.door c.report_each.new.door c.report_each.result
    (rw c.deref.ensures.value at door.names) (rw c.deref.ensures.value at door.place) door.bytes door.none_refused
    c.report_each.ensures.ok

pub returns-clause-status : goal.returns-clause-status
returns-clause-status g c = status_of_door _ _ _ _ _ _ _ c.report_each.result c.report_each.ensures.ok
