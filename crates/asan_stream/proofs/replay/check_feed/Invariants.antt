use Rattle.asan_stream.specs.Replays.{IsUnderWay, left_in}
use Rattle.asan_stream.proofs.replay.check_feed.Given as goal

abbrev pub invariant-loop : goal.invariant-loop
invariant-loop g l = IsUnderWay g.F.Feed.seen l.fn.options l.fn.feed l.replay

abbrev pub decreases-loop : goal.decreases-loop
decreases-loop g l = left_in l.replay
