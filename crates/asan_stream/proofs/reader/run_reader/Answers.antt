use Rattle.std.proofs.Common.{◌++◌, take, sym, ◌∙◌}
use Rattle.trace_lane.specs.Lanes.{put_list}
use Rattle.asan_stream.specs.Sources.{HasEnded, IsEndOf}
use Rattle.asan_stream.proofs.Lengths.{fewer_left}
use Rattle.asan_stream.proofs.Readers.{reader_done}
use Rattle.asan_stream.proofs.Sending.{batch_put}
use Rattle.asan_stream.proofs.reader.run_reader.Goals as goal

pub returns-then-batch : goal.returns-then-batch
returns-then-batch g c =
    let seen = g.F.Feed.seen in
    let was = c.loop-events.invariant in
    let read = was.read in
    let batch = c.next_batch-batch in
    let more = take batch.result.count batch.new.events in
    let events = read.1 ++ more in
    let feed = c.into_end-feed-then-batch.result.0 in
    let end = c.into_end-feed-then-batch.result.1 in
    let ended : HasEnded seen c.args.limit c.args.feed batch.new.self events =
    rw c.if-batch.true at (batch.ensures.read c.args.limit c.args.feed read.0 read.1 read.2) in
    let is_end : IsEndOf seen c.args.limit c.args.feed feed events end =
    c.into_end-feed-then-batch.ensures c.args.limit c.args.feed events ended in
    reader_done seen c.args.limit c.args.feed feed c.args.lane c.put_events.new.lane c.close-lane_end.result end events
    c.close-lane_end.ensures (c.put_events.ensures.lane ∙ was.lane)
    (batch_put (put_list c.args.lane) (put_list c.loop-events.lane) (put_list c.put_events.new.lane) read.1 more read.3
    (c.put_events.ensures.put c.if-not-put_events.false))
    is_end.spelled

pub loop-events-preserved : goal.loop-events-preserved
loop-events-preserved g c =
    let was = c.loop-events.invariant in
    let read = was.read in
    let batch = c.next_batch-batch in
    let more = take batch.result.count batch.new.events in
    let after = rw c.if-batch.false at (batch.ensures.read c.args.limit c.args.feed read.0 read.1 read.2) in
    record {
      fresh = after.2.fresh;
      running = after.2.decoder.running;
      room = batch.ensures.room ∙ was.room;
      item_room = c.put_events.ensures.same_room ∙ was.item_room;
      lane = c.put_events.ensures.lane ∙ was.lane;
      read = (
        read.0 ++ after.0,
        read.1 ++ more,
        after.2,
        batch_put (put_list c.args.lane) (put_list c.loop-events.lane) (put_list c.put_events.new.lane) read.1 more
            read.3 (c.put_events.ensures.put c.if-not-put_events.false),
      );
    }

pub loop-events-smaller : goal.loop-events-smaller
loop-events-smaller g c =
    let read = c.loop-events.invariant.read in
    let batch = c.next_batch-batch in
    let after = rw c.if-batch.false at (batch.ensures.read c.args.limit c.args.feed read.0 read.1 read.2) in
    fewer_left c.loop-events.source.decoder batch.new.self.decoder read.0 after.0 read.1
    (read.1 ++ take batch.result.count batch.new.events)
    (after.2.limit_is ∙ sym read.2.limit_is) after.1 read.2.decoder after.2.decoder
