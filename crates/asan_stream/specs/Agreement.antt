-- Outcomes of the same bytes: the words of the laws on them.
use Rattle.std.specs.Prelude.{◌≡◌, ◌≢◌, ℕ, List, Option, Some, None, Bool, true, false}
use Rattle.trace_record.specs.declared.event.Event.{Event}
use Rattle.trace_record.specs.declared.end.End.{End}
use Rattle.trace_record.specs.declared.end.Fate.TheVariants as fate
use Rattle.trace_feed.specs.Feeds.{FeedState}
use Rattle.asan_stream.specs.declared.outcome.Outcome.{Outcome}
use Rattle.asan_stream.specs.declared.outcome.Outcome.TheVariants as outcome
use Rattle.asan_stream.specs.Outcomes.{IsSpelled, HasResults}

-- the end of a stream of which no read failed
abbrev pub NoReadFailed : End → Type 0
NoReadFailed end = end.fate ≢ fate.ReadFailed

module _ {F A : Type 0} where
  -- the end of the stream, where it was read
  abbrev pub end_of : Outcome F A → Option End
  end_of (outcome.Settled feed end reports) = Some end
  end_of (outcome.NoMemory feed end checked reports) = Some end
  end_of outcome.NotOpened = None
  end_of outcome.NotStarted = None
  end_of outcome.Unsettled = None

  -- whether all events were checked
  abbrev pub is_settled : Outcome F A → Bool
  is_settled (outcome.Settled feed end reports) = true
  is_settled (outcome.NoMemory feed end checked reports) = false
  is_settled outcome.NotOpened = false
  is_settled outcome.NotStarted = false
  is_settled outcome.Unsettled = false

  -- the outcome of some feed that gave these bytes, under this event limit and this bound on the
  -- quarantine: the bytes spell some events and an end, and the outcome has these
  pub record IsOutcomeOfBytes
      (limit bound : ℕ) (bytes : List ℕ) (result : Outcome F A) : Type 0 where
    pub before : FeedState
    pub after : FeedState
    pub feed : F
    pub events : List Event
    pub end : End
    pub bytes_are : before.to_come ≡ Some bytes
    pub spelled : IsSpelled limit before after events end
    pub results : HasResults bound events feed end result
