use Rattle.std.proofs.Common.{◌≡◌, ◌++◌, List, vec_len, ℕ, Option}
use Rattle.std.specs.Prelude.{All}
use Rattle.asan_stream.specs.declared.bench.Bench.{Bench}
use Rattle.trace_lane.specs.Lanes.{Lane}
use Rattle.asan_senders.specs.ReportLanes.{AllFit, AllHave}
use Rattle.asan_senders.specs.Senders.{AreAt, Each, IsBack, Rejoins, StaysOrJoins}
use Rattle.asan_senders.proofs.returns.place.Given as goal

abbrev pub invariant-loop-bench : goal.invariant-loop-bench
invariant-loop-bench g l =
    Each (Rejoins g.F.Feed.seen l.bound) l.initial.senders.items l.senders.items
    × AreAt l.bound l.initial.senders.items l.benches.items
    × ((lanes : ℕ → Option (Lane g.row.A.Denot)) → AllFit lanes l.initial.senders.items
    → AllHave lanes l.initial.benches.items →
    AllFit lanes l.senders.items × AllHave lanes l.benches.items)
    × ((placed : List (Bench g.row.A.Denot)) × (l.initial.benches.items ≡ l.benches.items ++ placed)
    × All (IsBack l.senders.items) placed)
    × ((bench : Bench g.row.A.Denot) → IsBack l.initial.senders.items bench → IsBack l.senders.items bench)
    × Each StaysOrJoins l.initial.senders.items l.senders.items

abbrev pub decreases-loop-bench : goal.decreases-loop-bench
decreases-loop-bench g l = vec_len l.benches
