use Rattle.std.proofs.Common.{◌≡◌, ◌≤◌, ◌+◌, ◌^◌, All, length, vec_len}
use Rattle.std.specs.Vec.{vec_capacity}
use Rattle.asan_senders.specs.Counts.{refused_among}
use Rattle.asan_senders.specs.Arrivals.{Arrived, IsArrived}
use Rattle.asan_senders.proofs.Arriving.{IsLeft}
use Rattle.asan_senders.proofs.arrivals.ask.Given as goal

abbrev pub invariant-loop : goal.invariant-loop
invariant-loop g l = record {
  count : vec_len l.arrivals ≡ l.counter;
  room : 256 ≤ vec_capacity l.arrivals;
  refusals : (g.D.Door.seen l.door).refusals ≤ 2 ^ 32 + l.counter;
  refused : (g.D.Door.seen l.door).refusals ≡ refused_among l.arrivals.items + (g.D.Door.seen l.initial.door).refusals;
  arrived : Arrived (g.D.Door.seen l.initial.door).to_arrive (g.D.Door.seen l.door).to_arrive l.arrivals.items;
  left : IsLeft (g.D.Door.seen l.initial.door).left (g.D.Door.seen l.door).left (length l.arrivals.items);
  fresh : All (IsArrived g.D.Feed.Feed.seen) l.arrivals.items;
}
