-- Who came through a door in one call.
use Rattle.std.specs.Prelude.{◌≡◌, ◌+◌, ◌≤◌, ◌⊎◌, All, IsTrue, List, length}
use Rattle.trace_feed.specs.declared.door.Arrival.{Arrival}
use Rattle.trace_feed.specs.Doors.{DoorState}
use Rattle.trace_feed.specs.Feeds.{FeedState}
use Rattle.asan_senders.specs.Arrivals.{Arrived, IsAllThatCame, IsArrived}
use Rattle.asan_senders.specs.Counts.{refused_among}
use Rattle.asan_senders.specs.Ranges.{most_senders}

-- these arrived between two states of a door: all that it had, or as many as one call takes
pub record HaveCome
    {F : Type 0} (seen : F → FeedState) (old new : DoorState F) (arrivals : List (Arrival F))
    : Type 0 where
  pub arrived : Arrived old.to_arrive new.to_arrive arrivals
  pub fresh : All (IsArrived seen) arrivals
  pub refused : new.refusals ≡ refused_among arrivals + old.refusals
  pub all : IsTrue new.is_shut ⊎ (length arrivals ≡ most_senders)
  pub count : IsAllThatCame old.left (length arrivals)
  pub few : length arrivals ≤ most_senders
