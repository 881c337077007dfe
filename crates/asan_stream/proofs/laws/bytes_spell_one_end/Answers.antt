use Rattle.asan_stream.proofs.Agreeing.{one_spelled, first_spelled}
use Rattle.asan_stream.proofs.laws.bytes_spell_one_end.Goals as goal

pub returns-clause-same : goal.returns-clause-same
returns-clause-same c = one_spelled

pub returns-clause-first : goal.returns-clause-first
returns-clause-first c = first_spelled
