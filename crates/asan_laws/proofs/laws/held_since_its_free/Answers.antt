use Rattle.asan_laws.proofs.Histories as histories
use Rattle.asan_laws.proofs.laws.held_since_its_free.Goals as goal

pub returns-clause-found : goal.returns-clause-found
returns-clause-found c = histories.held_found

pub returns-clause-only : goal.returns-clause-only
returns-clause-only c = histories.held_since
