use Rattle.trace_record.proofs.Readings.{stands}
use Rattle.trace_record.proofs.Ends.{end_stands}
use Rattle.trace_record.proofs.laws.decisions_stand.Goals as goal

pub returns-clause-decided : goal.returns-clause-decided
returns-clause-decided c = stands

pub returns-clause-end : goal.returns-clause-end
returns-clause-end c = end_stands
