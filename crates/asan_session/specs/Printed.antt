-- What the program prints, and the status that it ends with.
use Rattle.std.specs.Prelude.{◌≡◌, ◌≢◌, ℕ, ◌⊎◌, Bool, true, false, Option, None, Some}
use Rattle.std.specs.Prelude.{List, [], ◌∷◌, take}
use Rattle.std.specs.Borrow.{Bor}
use Rattle.std.specs.Io.KnownBytes.{Appends}
use Rattle.std.specs.declared.alloc.Global.{Global}
use Rattle.refusing_allocator.specs.declared.RefusingAllocator.{RefusingAllocator}
use Rattle.asan_print.specs.Logs.{Line, joined}
use Rattle.trace_feed.specs.Doors.{DoorState}
use Rattle.trace_feed.specs.Feeds.{FeedState}
use Rattle.asan_stream.specs.declared.options.Options.{Options}
use Rattle.asan_stream.specs.declared.outcome.Outcome.{Outcome}
use Rattle.asan_senders.specs.Collected.{AreCollected, IsReadIfAlone}
use Rattle.asan_senders.specs.Live.{AreLinesOf}
use Rattle.asan_stream.specs.Outcomes.{IsOutcomeOf}
use Rattle.asan_senders.specs.Statuses.{status_of, unwritten}
use Rattle.asan_senders.specs.Texts.{texts_from}
use Rattle.asan_session.specs.declared.session.Checking.{Checking}
use Rattle.asan_session.specs.Usual.{AreUsual}

-- a `&` to an allocator that refuses: one that may have a bound
abbrev pub BoundedMemory : Type 0
BoundedMemory = Bor (RefusingAllocator Global)

-- where the checkers of a run take their memory: from allocators with a bound, if there is one
abbrev pub CheckersMemory : Option ℕ → Type 0
CheckersMemory None = Global
CheckersMemory (Some bytes) = BoundedMemory

-- A writer holds some bytes before and after.
module _ {F A : Type 0} where
  -- a text of these outcomes was printed: some first part of it went out, and all of it unless the
  -- status is that of a print that failed; any other status is the outcomes' own
  pub record HasGoneOut (before after : Option (List ℕ)) (text : List ℕ)
      (outcomes : List (Outcome F A)) (status : ℕ) : Type 0 where
    pub part : (written : ℕ) × Appends before after (take written text)
    pub whole : status ≢ unwritten → Appends before after text
    pub status_is : (status ≡ unwritten) ⊎ (status ≡ status_of outcomes true)

  -- these outcomes were printed, text after text
  abbrev pub IsPrinted : (before after : Option (List ℕ)) → List (Outcome F A) → ℕ → Type 0
  IsPrinted before after outcomes status =
      HasGoneOut before after (texts_from 0 outcomes) outcomes status

  -- these outcomes were printed as their reports came: lines of all of them, mixed in some order
  abbrev pub IsPrintedLive : (before after : Option (List ℕ)) → List (Outcome F A) → ℕ → Type 0
  IsPrintedLive before after outcomes status =
      (log : List Line) × AreLinesOf outcomes log
      × HasGoneOut before after (joined log) outcomes status

  -- these outcomes were printed, as their reports came or else text after text
  abbrev pub IsPrintedAs :
      Bool → (before after : Option (List ℕ)) → List (Outcome F A) → ℕ → Type 0
  IsPrintedAs true before after outcomes status = IsPrintedLive before after outcomes status
  IsPrintedAs false before after outcomes status = IsPrinted before after outcomes status

-- The function says what is seen of a feed.
module _ {F : Type 0} (seen : F → FeedState) where
  -- a feed was read to the end of its stream with the usual options, and its outcome was printed as
  -- process 0
  abbrev pub IsFeedPrinted : F → Option (List ℕ) → Option (List ℕ) → ℕ → Type 0
  IsFeedPrinted feed before after status =
      (options : Options) × (outcome : Outcome F Global)
      × AreUsual options × IsOutcomeOf seen options feed outcome
      × IsPrinted before after (outcome ∷ []) status

  -- the same of a feed that had these bytes to come, and no read of which had failed
  abbrev pub IsInputPrinted : Option (List ℕ) → Option (List ℕ) → Option (List ℕ) → ℕ → Type 0
  IsInputPrinted bytes before after status =
      (feed : F) × ((seen feed).to_come ≡ bytes) × ((seen feed).faults ≡ 0)
      × IsFeedPrinted feed before after status

-- The reports of the outcomes lie in memory of this kind.
module _ {F : Type 0} (seen : F → FeedState) (A : Type 0) where
  -- these outcomes of the senders that came through a door were printed
  pub record AreOutcomesPrinted
      (checking : Checking) (old new : DoorState F) (before after : Option (List ℕ))
      (outcomes : List (Outcome F A)) (status : ℕ) : Type 0 where
    pub collected : AreCollected seen checking.options old new outcomes
    pub alone : IsReadIfAlone outcomes
    pub printed : IsPrintedAs checking.is_live before after outcomes status

  -- the senders that came through a door have such outcomes
  abbrev pub AreSendersPrinted :
      Checking → (old new : DoorState F) → (before after : Option (List ℕ)) → ℕ → Type 0
  AreSendersPrinted checking old new before after status =
      (outcomes : List (Outcome F A))
      × AreOutcomesPrinted checking old new before after outcomes status
