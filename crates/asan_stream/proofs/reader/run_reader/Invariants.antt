use Rattle.std.proofs.Common.{◌≡◌, ◌++◌, ℕ, List, None, length}
use Rattle.trace_record.specs.declared.event.Event.{Event}
use Rattle.trace_lane.specs.Lanes.{in_lane, put_list}
use Rattle.asan_stream.specs.Items.{event_items}
use Rattle.asan_stream.specs.Ranges.{batch_size}
use Rattle.asan_stream.specs.Sources.{HasRead, left_of}
use Rattle.asan_stream.proofs.reader.run_reader.Given as goal

abbrev pub invariant-loop-events : goal.invariant-loop-events
invariant-loop-events g l = record {
  fresh : (g.F.Feed.seen l.source.feed).faults ≡ 0;
  running : l.source.decoder.stop ≡ None;
  room : length l.events ≡ batch_size;
  item_room : length l.items ≡ batch_size;
  lane : in_lane l.lane ≡ in_lane l.fn.lane;
  read : (text : List ℕ) × (before : List Event)
      × HasRead g.F.Feed.seen l.fn.limit l.fn.feed l.source text before
      × (put_list l.lane ≡ put_list l.fn.lane ++ event_items before);
}

abbrev pub decreases-loop-events : goal.decreases-loop-events
decreases-loop-events g l = left_of l.source.decoder
