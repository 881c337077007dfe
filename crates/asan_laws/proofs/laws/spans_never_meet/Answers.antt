use Rattle.asan_check.proofs.Steps as steps
use Rattle.asan_laws.proofs.laws.spans_never_meet.Goals as goal

pub returns : goal.returns
returns c = steps.spans_apart
