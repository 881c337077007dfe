use Rattle.std.proofs.Common.{ap, length}
use Rattle.asan_stream.specs.Replays.{IsThrough, found_by}
use Rattle.asan_senders.proofs.Only.{batch_shown}
use Rattle.asan_senders.proofs.alone.check_showing.Goals as goal

pub returns-then-not-is_more-clause-outcome : goal.returns-then-not-is_more-clause-outcome
returns-then-not-is_more-clause-outcome g c =
    let options = c.args.options in
    let feed = c.args.feed in
    let through : IsThrough g.F.Feed.seen options feed c.check_more-is_more.new.self =
    rw c.if-not-is_more.true at (c.check_more-is_more.ensures.then options feed c.loop-replay.invariant.under_way) in
    c.into_outcome.ensures.outcome options feed through

pub returns-then-not-is_more-clause-shown : goal.returns-then-not-is_more-clause-shown
returns-then-not-is_more-clause-shown g c start printed =
    rw c.into_outcome.ensures.reports
    (batch_shown start _ _ _ _ (found_by c.loop-replay.replay) (found_by c.check_more-is_more.new.self)
    c.reports-reports.result.now c.loop-replay.shown c.check_more-is_more.ensures.front c.loop-replay.invariant.shown
    c.reports-reports.ensures (c.show.ensures.adds start) (c.loop-replay.invariant.lines start printed))

pub loop-replay-preserved : goal.loop-replay-preserved
loop-replay-preserved g c = record {
  under_way = rw c.if-not-is_more.false
      at (c.check_more-is_more.ensures.then c.args.options c.args.feed c.loop-replay.invariant.under_way);
  shown = ap length c.reports-reports.ensures;
  lines = λ start printed.
      batch_shown start _ _ _ _ (found_by c.loop-replay.replay) (found_by c.check_more-is_more.new.self)
      c.reports-reports.result.now c.loop-replay.shown c.check_more-is_more.ensures.front
      c.loop-replay.invariant.shown c.reports-reports.ensures (c.show.ensures.adds start)
      (c.loop-replay.invariant.lines start printed);
}
