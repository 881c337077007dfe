use Rattle.trace_record.proofs.Readings.{one_reading}
use Rattle.trace_record.proofs.Existence.{reading}
use Rattle.trace_record.proofs.laws.texts_have_one_reading.Goals as goal

pub returns-clause-some : goal.returns-clause-some
returns-clause-some c limit text bytes = let r = reading limit text bytes in (r.events, r.end, r.reads)

pub returns-clause-one : goal.returns-clause-one
returns-clause-one c = one_reading
