use Rattle.trace_record.proofs.Readings.{same_first}
use Rattle.trace_record.proofs.laws.events_stand.Goals as goal

pub returns : goal.returns
returns c = same_first
