use Rattle.asan_laws.proofs.Poisons as poisons
use Rattle.asan_laws.proofs.laws.poison_is_reported.Goals as goal

pub returns : goal.returns
returns c bound past s is_store a since = poisons.reported bound past s a since is_store
