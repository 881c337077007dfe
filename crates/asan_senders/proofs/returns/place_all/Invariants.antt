use Rattle.std.proofs.Common.{◌≡◌, ◌++◌, List, vec_len, ℕ, Option}
use Rattle.trace_lane.specs.Lanes.{Lane}
use Rattle.asan_senders.specs.ReportLanes.{AllFit, SharesHave}
use Rattle.asan_senders.specs.Shares.{AreBack, Share, SharesAt}
use Rattle.asan_senders.specs.Senders.{Each, Rejoins, StaysOrJoins}
use Rattle.asan_senders.proofs.returns.place_all.Given as goal

abbrev pub invariant-loop-share : goal.invariant-loop-share
invariant-loop-share g l =
    Each (Rejoins g.F.Feed.seen l.bound) l.initial.senders.items l.senders.items
    × SharesAt l.bound l.initial.senders.items l.shares.items
    × ((lanes : ℕ → Option (Lane g.row.A.Denot)) → AllFit lanes l.initial.senders.items
    → SharesHave lanes l.initial.shares.items →
    AllFit lanes l.senders.items × SharesHave lanes l.shares.items)
    × ((placed : List (Share g.row.A.Denot)) × (l.initial.shares.items ≡ l.shares.items ++ placed)
    × AreBack l.senders.items placed)
    × Each StaysOrJoins l.initial.senders.items l.senders.items

abbrev pub decreases-loop-share : goal.decreases-loop-share
decreases-loop-share g l = vec_len l.shares
