use Rattle.asan_laws.proofs.Finding.{counted_fault}
use Rattle.asan_laws.proofs.recording.an_access_is_as_bad_but_for_its_class.Goals as goal

pub returns : goal.returns
returns c = counted_fault
