use Rattle.std.proofs.Common.{◌≡◌, ◌++◌, length, take}
use Rattle.trace_lane.specs.Lanes.{out_lane, taken_list, waiting}
use Rattle.trace_lane.proofs.lane_out.LaneOut.take_some.Given as goal

abbrev pub invariant-loop-i : goal.invariant-loop-i
invariant-loop-i g l = record {
  lane : out_lane l.self ≡ out_lane l.fn.self;
  room : length l.room ≡ length l.fn.room;
  some : taken_list l.self ≡ taken_list l.fn.self ++ take l.i l.room;
  known : waiting l.fn.self ≡ take l.i l.room ++ waiting l.self;
}
