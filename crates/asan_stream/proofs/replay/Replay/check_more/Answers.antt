use Rattle.std.proofs.Common.{rules, ◌≡◌, ◌≤◌, ◌++◌, length, take, arith}
use Rattle.std.specs.Prelude.{reverse}
use Rattle.std.proofs.lemmas.List.{length-take-le}
use Rattle.asan_stream.proofs.Stepping.{checked_within, open_within, room_for_batch}
use Rattle.asan_stream.proofs.Replays.{then_after, less_after}
use Rattle.asan_stream.proofs.replay.Replay.check_more.Goals as goal

pub check_each-requires : goal.check_each-requires
check_each-requires g c =
    let options = c.requires.under_way.0 in
    let at = c.requires.under_way.2 in
    let batch = c.next_batch-batch in
    let count = batch.ensures.count in
    let same = batch.ensures.room in
    let whole : length c.args.self.now.events ≡ 64 = search rules in
    let few : length (take batch.result.count batch.new.events) ≤ 64 =
    omega (arith, length-take-le batch.result.count batch.new.events (omega arith)) in
    record {
      room = room_for_batch _ _ at.events (take batch.result.count batch.new.events)
          (checked_within options.quarantine c.args.self.now.checker (reverse at.events) at.stands)
          (rw at.read.limit_is at (open_within _ _ _ _ at.read.decoder.reads)) options.limit_in_range few;
    }

pub returns-clause-then : goal.returns-clause-then
returns-clause-then g c options first at =
    let batch = c.next_batch-batch in
    then_after g.F.Feed.seen options first at.text at.events (take batch.result.count batch.new.events)
    batch.result.is_last batch.new.self c.check_each.new.checker _
    (batch.ensures.read options.limit first at.text at.events at.read)
    (c.check_each.ensures.stands options.quarantine (reverse at.events) at.stands)

pub returns-clause-less : goal.returns-clause-less
returns-clause-less g c more =
    let options = c.requires.under_way.0 in
    let first = c.requires.under_way.1 in
    let at = c.requires.under_way.2 in
    let batch = c.next_batch-batch in
    less_after g.F.Feed.seen options.limit first c.args.self.now.source batch.new.self at.text at.events
    (at.events ++ take batch.result.count batch.new.events) batch.result.is_last more at.read
    (batch.ensures.read options.limit first at.text at.events at.read)
