use Rattle.std.proofs.Crossing.{frees as of_global}
use Rattle.asan_session.proofs.session.Session.print_within.Goals as goal

-- an allocator with a bound gives its memory back to the allocator that it passes requests on to
pub print_senders-requires-frees-A-Allocator : goal.print_senders-requires-frees-A-Allocator
print_senders-requires-frees-A-Allocator g c κs bounds =
    record { frees = λ heap τ p. of_global.frees heap.now.inner τ p }
