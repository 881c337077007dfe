-- Room for a collection.
use Rattle.std.specs.Prelude.{◌≡◌, ◌≤◌, [], vec_capacity, vec_len}
use Rattle.asan_collect.specs.declared.rooms.Rooms.{Rooms}
use Rattle.asan_senders.specs.Ranges.{most_senders}
use Rattle.asan_senders.specs.ReportLanes.{AreEmptySeats}

-- there is no sender yet, and room for all, for their outcomes and for the handles of all workers
pub record AreEmptyRooms {F A : Type 0} (rooms : Rooms F A) : Type 0 where
  pub seats : AreEmptySeats rooms.seats
  pub no_outcomes : rooms.outcomes.items ≡ []
  pub for_outcomes : most_senders ≤ vec_capacity rooms.outcomes
  pub no_workers : rooms.workers.items ≡ []
  pub for_workers : vec_len rooms.seats.shares ≤ vec_capacity rooms.workers
