use Rattle.asan_laws.proofs.Accesses as accesses
use Rattle.asan_laws.proofs.laws.quiet_inside_live_block.Goals as goal

pub returns : goal.returns
returns c = accesses.quiet
