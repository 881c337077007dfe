use Rattle.asan_laws.proofs.Poisons as poisons
use Rattle.asan_laws.proofs.laws.marks_are_only_added.Goals as goal

pub returns : goal.returns
returns c = poisons.only_added
