use Rattle.std.proofs.Crossing.{frees as of_global}
use Rattle.collect_tests.proofs.tests.missing.lanes_missing.Goals as goal

-- an allocator that refuses one request gives its memory back to the allocator that it passes requests on to
pub collect_counting-requires-frees-A-Allocator : goal.collect_counting-requires-frees-A-Allocator
collect_counting-requires-frees-A-Allocator g c κs bounds =
    record { frees = λ heap τ p. of_global.frees heap.now.inner τ p }

pub collect_live_counting-requires-frees-A-Allocator : goal.collect_live_counting-requires-frees-A-Allocator
collect_live_counting-requires-frees-A-Allocator g c κs bounds =
    record { frees = λ heap τ p. of_global.frees heap.now.inner τ p }
