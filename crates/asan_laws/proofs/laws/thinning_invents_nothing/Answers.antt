use Rattle.asan_laws.proofs.Thinned.{invents_nothing}
use Rattle.asan_laws.proofs.laws.thinning_invents_nothing.Goals as goal

pub returns : goal.returns
returns c = invents_nothing
