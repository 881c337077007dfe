use Rattle.std.specs.Prelude.{IsTrue}
use Rattle.asan_stream.specs.Benches.{EachLater}
use Rattle.asan_stream.proofs.Later.{FirstReported, FirstTakeNoMore}
use Rattle.asan_stream.proofs.worker.go_round.Given as goal

abbrev pub invariant-loop-i : goal.invariant-loop-i
invariant-loop-i g l =
    EachLater l.initial.benches.items l.benches.items
    × (IsTrue l.round.ended → FirstReported l.i l.benches.items)
    × (IsTrue l.round.ended → FirstTakeNoMore l.i l.benches.items)
