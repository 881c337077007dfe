-- How far a feed was read and checked, on one thread.
use Rattle.std.specs.Prelude.{ℕ, Bool, true, false, List, reverse}
use Rattle.trace_record.specs.declared.event.Event.{Event}
use Rattle.trace_feed.specs.Feeds.{FeedState}
use Rattle.asan_check.specs.declared.report.Report.{Report}
use Rattle.asan_check.specs.Standing.{StandsOrFailed, checked_of, reports_of}
use Rattle.asan_stream.specs.declared.options.Options.{Options}
use Rattle.asan_stream.specs.declared.replay.Replay.{Replay}
use Rattle.asan_stream.specs.Sources.{HasRead, HasEnded, left_of}

module _ {F A : Type 0} where
  -- the reports on the events that were checked
  abbrev pub found_by : Replay F A → List Report
  found_by r = reports_of r.checker

  -- how many events were checked
  abbrev pub checked_by : Replay F A → ℕ
  checked_by r = checked_of r.checker

  -- how many bytes more decide its stream at the latest
  abbrev pub left_in : Replay F A → ℕ
  left_in r = left_of r.source.decoder

-- The function says what is seen of a feed. The feed was `first` before it was read.
module _ {F A : Type 0} (seen : F → FeedState) (options : Options) (first : F) where
  -- some of the feed was read, its stream has not ended, and the events were handed to the checker
  pub record IsUnderWay (r : Replay F A) : Type 0 where
    pub text : List ℕ
    pub events : List Event
    pub read : HasRead seen options.limit first r.source text events
    pub stands : StandsOrFailed options.quarantine r.checker (reverse events)

  -- the feed was read to the end of its stream, and the events were handed to the checker
  pub record IsThrough (r : Replay F A) : Type 0 where
    pub events : List Event
    pub ended : HasEnded seen options.limit first r.source events
    pub stands : StandsOrFailed options.quarantine r.checker (reverse events)

  -- if there is more to check, or else none
  abbrev pub IsThen : Bool → Replay F A → Type 0
  IsThen true r = IsUnderWay r
  IsThen false r = IsThrough r
