use Rattle.asan_laws.proofs.Finding.{two_granules, found_fault}
use Rattle.asan_laws.proofs.recording.an_access_looks_at_two_granules.Goals as goal

pub returns-clause-two : goal.returns-clause-two
returns-clause-two c = two_granules

pub returns-clause-found : goal.returns-clause-found
returns-clause-found c = found_fault
