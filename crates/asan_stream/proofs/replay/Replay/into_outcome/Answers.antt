use Rattle.std.proofs.Common.{subst}
use Rattle.asan_stream.proofs.Consequences.{stops_soon}
use Rattle.asan_stream.specs.Outcomes.{HasCount}
use Rattle.asan_stream.specs.Replays.{checked_by}
use Rattle.asan_stream.proofs.replay.Replay.into_outcome.Goals as goal

pub returns-clause-outcome : goal.returns-clause-outcome
returns-clause-outcome g c options first through =
    let is_end = c.into_end-feed.ensures options.limit first through.events through.ended in (
      c.into_end-feed.result.0,
      through.events,
      c.into_end-feed.result.1,
      is_end.spelled,
      c.outcome_of.ensures.results options.quarantine through.events ∣ through.stands ∣₁ is_end.spelled.spells.count,
    )

pub returns-clause-soon : goal.returns-clause-soon
unfolding returns-clause-outcome
returns-clause-soon g c options first through =
    let feed = c.into_end-feed.result.0 in
    let end = c.into_end-feed.result.1 in
    let is_end = c.into_end-feed.ensures options.limit first through.events through.ended in
    stops_soon g.F.Feed.seen options first feed through.events end c.outcome_of.result
    (returns-clause-outcome g c options first through).4 is_end.soon

pub returns-clause-counted : goal.returns-clause-counted
returns-clause-counted g c options first through =
    let is_end = c.into_end-feed.ensures options.limit first through.events through.ended in
    subst (λ count. HasCount count (checked_by c.args.self) c.outcome_of.result) is_end.spelled.spells.count
    c.outcome_of.ensures.counted
