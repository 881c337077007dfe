use Rattle.asan_laws.proofs.Histories as histories
use Rattle.asan_laws.proofs.laws.live_since_its_malloc.Goals as goal

pub returns-clause-found : goal.returns-clause-found
returns-clause-found c = histories.live_found

pub returns-clause-only : goal.returns-clause-only
returns-clause-only c = histories.live_since
