use Rattle.asan_laws.proofs.Accesses.{overflow_said, overflow}
use Rattle.asan_laws.proofs.laws.overflow_is_reported.Goals as goal

pub returns-clause-reported : goal.returns-clause-reported
returns-clause-reported c = overflow_said

pub returns-clause-overflow : goal.returns-clause-overflow
returns-clause-overflow c = overflow
