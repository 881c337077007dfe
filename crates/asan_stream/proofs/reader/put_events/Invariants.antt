use Rattle.std.proofs.Common.{◌≡◌, length, take}
use Rattle.asan_stream.specs.Items.{event_items}
use Rattle.asan_stream.proofs.reader.put_events.Given as goal

abbrev pub invariant-loop-i : goal.invariant-loop-i
invariant-loop-i g l = record {
  room : length l.items ≡ length l.fn.items;
  filled : take l.i l.items ≡ event_items (take l.i l.events);
}
