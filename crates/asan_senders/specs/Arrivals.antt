-- Who arrived at a door.
use Rattle.std.specs.Prelude.{◌≡◌, ℕ, ◌<◌, List, ◌++◌, Option, None, Some, length, min}
use Rattle.std.specs.Prelude.{slice_index_or, IsTrue, ◌⊎◌, All}
use Rattle.trace_feed.specs.declared.door.Arrival.{Arrival}
use Rattle.trace_feed.specs.declared.door.Arrival.TheVariants as arrival
use Rattle.trace_feed.specs.Doors.{DoorState}
use Rattle.trace_feed.specs.Feeds.{FeedState}
use Rattle.asan_stream.specs.declared.options.Options.{Options}
use Rattle.asan_stream.specs.declared.outcome.Outcome.{Outcome}
use Rattle.asan_stream.specs.declared.outcome.Outcome.TheVariants as outcome
use Rattle.asan_stream.specs.Outcomes.{IsOutcomeOf}
use Rattle.asan_senders.specs.Ranges.{most_senders}

-- these arrived, in order, from a door that says what is still to arrive
abbrev pub Arrived :
    {F : Type 0} → Option (List (Arrival F)) → Option (List (Arrival F)) → List (Arrival F) → Type 0
Arrived None after arrivals = Unit {0}
Arrived (Some xs) None arrivals = ⊥
Arrived (Some xs) (Some ys) arrivals = xs ≡ arrivals ++ ys

-- of a known number of arrivals that were left all came, or as many as one call takes
abbrev pub IsAllThatCame : Option ℕ → ℕ → Type 0
IsAllThatCame None came = Unit {0}
IsAllThatCame (Some left) came = came ≡ min left most_senders

-- a sender arrived, and no read of its feed has failed
abbrev pub IsArrived : {F : Type 0} → (F → FeedState) → Arrival F → Type 0
IsArrived seen (arrival.Came feed) = (seen feed).faults ≡ 0
IsArrived seen arrival.Refused = Unit {0}
IsArrived seen arrival.Over = ⊥

-- two lists, element by element
pub record Pairwise {X Y : Type 0} (R : X → Y → Type 0) (xs : List X) (ys : List Y) : Type 0 where
  pub same_length : length ys ≡ length xs
  pub each :
      (i : ℕ) (d : X) (e : Y) → i < length xs → R (slice_index_or xs i d) (slice_index_or ys i e)

module _ {F A : Type 0} (seen : F → FeedState) (options : Options) where
  -- the outcome of a sender whose feed came: what its feed's bytes spell was checked; or a worker,
  -- a lane or the end of its lane was missing
  abbrev pub IsAnswerToFeed : F → Outcome F A → Type 0
  IsAnswerToFeed feed (outcome.Settled f end reports) =
      IsOutcomeOf seen options feed (outcome.Settled f end reports)
  IsAnswerToFeed feed (outcome.NoMemory f end checked reports) =
      IsOutcomeOf seen options feed (outcome.NoMemory f end checked reports)
  IsAnswerToFeed feed outcome.NotOpened = ⊥
  IsAnswerToFeed feed outcome.NotStarted = Unit {0}
  IsAnswerToFeed feed outcome.Unsettled = Unit {0}

  -- the outcome of an arrival
  abbrev pub IsAnswerTo : Arrival F → Outcome F A → Type 0
  IsAnswerTo (arrival.Came feed) result = IsAnswerToFeed feed result
  IsAnswerTo arrival.Refused result = result ≡ outcome.NotOpened
  IsAnswerTo arrival.Over result = ⊥

  -- these are the outcomes of all that arrived between two states of a door, in order: of all that
  -- it had, or of as many as one call takes
  abbrev pub AreAnswers : DoorState F → DoorState F → List (Outcome F A) → Type 0
  AreAnswers before after outcomes =
      (arrivals : List (Arrival F))
      × Arrived before.to_arrive after.to_arrive arrivals
      × (IsTrue after.is_shut ⊎ (length arrivals ≡ most_senders))
      × Pairwise IsAnswerTo arrivals outcomes × All (IsArrived seen) arrivals
