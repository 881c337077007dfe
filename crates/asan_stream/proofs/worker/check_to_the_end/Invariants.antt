use Rattle.asan_stream.specs.Benches.{EachLater}
use Rattle.asan_stream.proofs.worker.check_to_the_end.Given as goal

abbrev pub invariant-loop : goal.invariant-loop
invariant-loop g l = EachLater l.initial.benches.items l.benches.items
