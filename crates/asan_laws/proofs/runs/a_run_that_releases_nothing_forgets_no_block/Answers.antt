use Rattle.asan_laws.proofs.HeldBlocks.{still_held}
use Rattle.asan_laws.proofs.runs.a_run_that_releases_nothing_forgets_no_block.Goals as goal

pub returns : goal.returns
returns c = still_held
