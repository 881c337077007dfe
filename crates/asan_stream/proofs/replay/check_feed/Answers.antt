use Rattle.std.proofs.Common.{arith}
use Rattle.asan_stream.specs.Replays.{IsThrough}
use Rattle.asan_stream.proofs.Consequences.{few_reports}
use Rattle.asan_stream.proofs.replay.check_feed.Goals as goal

pub returns-clause-outcome : goal.returns-clause-outcome
returns-clause-outcome g c =
    let options = c.args.options in
    let feed = c.args.feed in
    let through : IsThrough g.F.Feed.seen options feed c.check_more.new.self =
    rw c.loop-test.false at (c.check_more.ensures.then options feed c.loop.invariant) in
    c.into_outcome.ensures.outcome options feed through

pub returns-clause-soon : goal.returns-clause-soon
returns-clause-soon g c =
    let options = c.args.options in
    let feed = c.args.feed in
    let through : IsThrough g.F.Feed.seen options feed c.check_more.new.self =
    rw c.loop-test.false at (c.check_more.ensures.then options feed c.loop.invariant) in
    c.into_outcome.ensures.soon options feed through

pub returns-clause-few : goal.returns-clause-few
returns-clause-few g c =
    let few = few_reports _ c.args.options _ _ (returns-clause-outcome g c) in
    let most = c.args.options.limit_in_range in
    omega arith
