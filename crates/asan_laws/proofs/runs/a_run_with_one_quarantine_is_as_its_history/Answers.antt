use Rattle.asan_laws.proofs.Quarantine.{as_history, events_are, since_is, fault_is, verdicts_are, each_fits, goes_on}
use Rattle.asan_laws.proofs.runs.a_run_with_one_quarantine_is_as_its_history.Goals as goal

pub returns-clause-events : goal.returns-clause-events
returns-clause-events c = events_are

pub returns-clause-blocks : goal.returns-clause-blocks
returns-clause-blocks c bound past = let is = as_history bound past in (is.live_is, is.held_is)

pub returns-clause-marks : goal.returns-clause-marks
returns-clause-marks c bound past = (as_history bound past).marks_are

pub returns-clause-since : goal.returns-clause-since
returns-clause-since c = since_is

pub returns-clause-fault : goal.returns-clause-fault
returns-clause-fault c = fault_is

pub returns-clause-verdicts : goal.returns-clause-verdicts
returns-clause-verdicts c = verdicts_are

pub returns-clause-fits : goal.returns-clause-fits
returns-clause-fits c = each_fits

pub returns-clause-recorded : goal.returns-clause-recorded
returns-clause-recorded c = goes_on
