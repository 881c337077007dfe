-- What a collection promises.
use Rattle.std.specs.Prelude.{◌≡◌, ◌+◌, ◌≤◌, ◌⊎◌, [], ◌∷◌, All, IsTrue, List, length}
use Rattle.trace_feed.specs.Doors.{DoorState}
use Rattle.trace_feed.specs.Feeds.{FeedState}
use Rattle.asan_stream.specs.declared.options.Options.{Options}
use Rattle.asan_stream.specs.declared.outcome.Outcome.{Outcome}
use Rattle.asan_stream.specs.declared.outcome.Outcome.TheVariants as outcome
use Rattle.asan_stream.specs.Outcomes.{is_read, reports_of}
use Rattle.asan_stream.specs.Ranges.{most_reports}
use Rattle.asan_senders.specs.Arrivals.{AreAnswers, IsAllThatCame}
use Rattle.asan_senders.specs.Counts.{not_opened_among}
use Rattle.asan_senders.specs.Ranges.{most_senders}

-- an outcome that is the only one is that of a sender that was refused, or that was read
abbrev pub IsReadIfAlone : {F A : Type 0} → List (Outcome F A) → Type 0
IsReadIfAlone (result ∷ []) = (result ≡ outcome.NotOpened) ⊎ IsTrue (is_read result)
IsReadIfAlone _ = Unit {0}

-- these are the outcomes of the senders that came between two states of a door
pub record AreCollected
    {F A : Type 0} (seen : F → FeedState) (options : Options) (old new : DoorState F)
    (outcomes : List (Outcome F A)) : Type 0 where
  -- the senders that arrived have an outcome each, in order
  pub answers : AreAnswers seen options old new outcomes
  -- of a known number of arrivals that were left all came, or as many as one call takes
  pub count : IsAllThatCame old.left (length outcomes)
  -- the door counts one refusal more for each outcome of a sender that was not opened
  pub refused : new.refusals ≡ not_opened_among outcomes + old.refusals
  pub few : length outcomes ≤ most_senders
  pub few_reports : All (λ o. length (reports_of o) ≤ most_reports) outcomes
