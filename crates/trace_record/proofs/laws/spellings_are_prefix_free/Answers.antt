use Rattle.trace_record.proofs.Same.{no_prefix}
use Rattle.trace_record.proofs.laws.spellings_are_prefix_free.Goals as goal

pub returns : goal.returns
returns c = no_prefix
