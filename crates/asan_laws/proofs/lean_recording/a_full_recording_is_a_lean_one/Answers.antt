use Rattle.asan_laws.proofs.LeanFaults.{full_is_lean}
use Rattle.asan_laws.proofs.lean_recording.a_full_recording_is_a_lean_one.Goals as goal

pub returns : goal.returns
returns c bound first past recorded run start way = full_is_lean bound first past start recorded run way
