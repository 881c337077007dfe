use Rattle.std.proofs.Common.{arith}
use Rattle.asan_collect.proofs.rooms.Rooms.new.Goals as goal

pub returns-clause-room : goal.returns-clause-room
returns-clause-room g c = record {
  seats = c.in_ok-seats.ensures.empty;
  no_outcomes = c.in_ok-outcomes.ensures.items;
  for_outcomes = c.in_ok-outcomes.ensures.capacity;
  no_workers = c.in_ok-workers.ensures.items;
  for_workers = omega (arith, c.len.ensures, c.in_ok-workers.ensures.capacity);
}
