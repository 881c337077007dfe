use Rattle.std.proofs.Common.{◌≡◌, ◌≤◌, ◌++◌, length, take}
use Rattle.trace_lane.specs.Lanes.{put_list, in_lane}
use Rattle.asan_stream.proofs.reader.put_all.Given as goal

abbrev pub invariant-loop : goal.invariant-loop
invariant-loop g l = record {
  lane : in_lane l.lane ≡ in_lane l.initial.lane;
  within : l.done ≤ length l.items;
  put : put_list l.lane ≡ put_list l.initial.lane ++ take l.done l.items;
}
