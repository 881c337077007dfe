use Rattle.std.proofs.Crossing.{frees as of_global}
use Rattle.collect_tests.proofs.tests.own_memory.printed_openly.Goals as goal

-- an allocator that counts or has a bound gives its memory back to the one that it passes requests on to
pub collect_live_openly-requires-frees-A-Allocator :
    goal.collect_live_openly-requires-frees-A-Allocator
collect_live_openly-requires-frees-A-Allocator g c κs within =
    record { frees = λ heap τ p. of_global.frees heap.now.inner τ p }
