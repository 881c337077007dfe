-- What an outcome says of a sender's bytes.
use Rattle.std.specs.Prelude.{◌≡◌, ℕ, Bool, true, false, ◌<◌, ◌≤◌, List, [], ◌++◌, length, take}
use Rattle.std.specs.Io.KnownBytes.{Consumes, IsAtEnd}
use Rattle.trace_record.specs.declared.event.Event.{Event}
use Rattle.trace_record.specs.declared.end.End.{End}
use Rattle.trace_record.specs.declared.end.Fate.{Fate}
use Rattle.trace_record.specs.declared.end.Fate.TheVariants as fate
use Rattle.trace_record.specs.Stream.{Spells, IsDecidedFate, IsDecidedByLast}
use Rattle.trace_feed.specs.Feeds.{FeedState}
use Rattle.asan_check.specs.declared.report.Report.{Report}
use Rattle.asan_check.specs.declared.ending.Ending.{Ending}
use Rattle.asan_check.specs.declared.ending.Ending.TheVariants as ending
use Rattle.asan_check.specs.Traces.{verdicts}
use Rattle.asan_stream.specs.declared.options.Options.{Options}
use Rattle.asan_stream.specs.declared.outcome.Outcome.{Outcome}
use Rattle.asan_stream.specs.declared.outcome.Outcome.TheVariants as outcome
use Rattle.asan_stream.specs.Ranges.{read_size}

-- how many failed reads a fate speaks of
abbrev pub faults_of : Fate → ℕ
faults_of fate.ReadFailed = 1
faults_of _ = 0

-- the fates that say that no more bytes came
abbrev pub SaysNoMore : Fate → Type 0
SaysNoMore fate.Truncated = Unit {0}
SaysNoMore fate.NoClose = Unit {0}
SaysNoMore _ = ⊥

-- what was taken of a feed between these two states is a text that spells these events and this end
-- under the limit; no more bytes are to come where the end says so, and as many reads have failed
-- as it speaks of
pub record IsSpelled
    (limit : ℕ) (before after : FeedState) (events : List Event) (end : End) : Type 0 where
  pub text : List ℕ
  pub taken : Consumes before.to_come after.to_come text
  pub spells : Spells limit text events end
  pub no_more : SaysNoMore end.fate → IsAtEnd after.to_come
  pub faults_are : after.faults ≡ faults_of end.fate

-- what was taken of a feed between these two states is a text whose last byte decided this end, and
-- after it fewer bytes than one read asks for
pub record IsDecidedSoon (limit : ℕ) (before after : FeedState) (end : End) : Type 0 where
  pub text : List ℕ
  pub events : List Event
  pub rest : List ℕ
  pub taken : Consumes before.to_come after.to_come (text ++ rest)
  pub spells : Spells limit text events end
  pub by_last : IsDecidedByLast limit text events
  pub few : length rest < read_size

module _ {F A : Type 0} where
  -- whether a stream was read to its end: the outcome is settled, or memory ran out
  abbrev pub is_read : Outcome F A → Bool
  is_read (outcome.Settled feed end reports) = true
  is_read (outcome.NoMemory feed end checked reports) = true
  is_read outcome.NotOpened = false
  is_read outcome.NotStarted = false
  is_read outcome.Unsettled = false

  -- the reports of an outcome, which are none where nothing was read
  abbrev pub reports_of : Outcome F A → List Report
  reports_of (outcome.Settled feed end reports) = reports.items
  reports_of (outcome.NoMemory feed end checked reports) = reports.items
  reports_of outcome.NotOpened = []
  reports_of outcome.NotStarted = []
  reports_of outcome.Unsettled = []

  -- how an outcome's end is printed
  abbrev pub ending_of : Outcome F A → Ending
  ending_of (outcome.Settled feed end reports) = ending.Ran end (length reports.items)
  ending_of (outcome.NoMemory feed end checked reports) =
      ending.NoMemory checked (length reports.items)
  ending_of outcome.NotOpened = ending.NotOpened
  ending_of outcome.NotStarted = ending.NotStarted
  ending_of outcome.Unsettled = ending.Unsettled

  -- the outcome has this feed and end, and the verdicts on these events; or on the first of them,
  -- where memory ran out
  abbrev pub HasResults : ℕ → List Event → F → End → Outcome F A → Type 0
  HasResults bound events feed end (outcome.Settled f n reports) =
      (f ≡ feed) × (n ≡ end) × (reports.items ≡ verdicts bound events)
  HasResults bound events feed end (outcome.NoMemory f n checked reports) =
      (f ≡ feed) × (n ≡ end) × (checked < length events)
      × (reports.items ≡ verdicts bound (take checked events))
  HasResults bound events feed end outcome.NotOpened = ⊥
  HasResults bound events feed end outcome.NotStarted = ⊥
  HasResults bound events feed end outcome.Unsettled = ⊥

  -- of so many events a checker has checked these: the outcome is settled if that is all of them,
  -- and else it says that memory ran out, and how many were checked
  abbrev pub HasCount : ℕ → ℕ → Outcome F A → Type 0
  HasCount events checked (outcome.Settled feed end reports) = events ≤ checked
  HasCount events checked (outcome.NoMemory feed end n reports) =
      (n ≡ checked) × (checked < events)
  HasCount events checked outcome.NotOpened = ⊥
  HasCount events checked outcome.NotStarted = ⊥
  HasCount events checked outcome.Unsettled = ⊥

  -- the outcome of a feed that was read to the end of its stream, where the function says what is
  -- seen of a feed: its bytes spell some events and an end, and the outcome has these
  abbrev pub IsOutcomeOf : (F → FeedState) → Options → F → Outcome F A → Type 0
  IsOutcomeOf seen options before result =
      (feed : F) × (events : List Event) × (end : End)
      × IsSpelled options.limit (seen before) (seen feed) events end
      × HasResults options.quarantine events feed end result

  -- where a byte decided the end of an outcome, its feed was read no further than IsDecidedSoon
  -- says
  abbrev pub StopsSoon : (F → FeedState) → Options → F → Outcome F A → Type 0
  StopsSoon seen options before (outcome.Settled feed end reports) =
      IsDecidedFate end.fate → IsDecidedSoon options.limit (seen before) (seen feed) end
  StopsSoon seen options before (outcome.NoMemory feed end checked reports) =
      IsDecidedFate end.fate → IsDecidedSoon options.limit (seen before) (seen feed) end
  StopsSoon seen options before outcome.NotOpened = Unit {0}
  StopsSoon seen options before outcome.NotStarted = Unit {0}
  StopsSoon seen options before outcome.Unsettled = Unit {0}
