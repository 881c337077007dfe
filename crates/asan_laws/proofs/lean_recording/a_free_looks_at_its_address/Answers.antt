use Rattle.asan_laws.proofs.LeanReported.{block_same}
use Rattle.asan_laws.proofs.lean_recording.a_free_looks_at_its_address.Goals as goal

pub returns : goal.returns
returns c = block_same
