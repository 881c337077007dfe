use Rattle.trace_record.proofs.Ends.{one_end}
use Rattle.trace_record.proofs.laws.texts_spell_one_end.Goals as goal

pub returns : goal.returns
returns c = one_end
