use Rattle.std.proofs.Common.{◌≡◌, ◌≤◌, length, take}
use Rattle.asan_stream.specs.Items.{events_of, has_end}
use Rattle.asan_stream.proofs.room.pick_events.Given as goal

abbrev pub invariant-loop-i : goal.invariant-loop-i
invariant-loop-i l = record {
  room : length l.events ≡ length l.fn.events;
  few : l.count ≤ l.i;
  events : take l.count l.events ≡ events_of (take l.i l.items);
  ended : l.ended ≡ has_end (take l.i l.items);
}
