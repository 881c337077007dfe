-- What a recorder may write of a run, and when the same is reported of both.
--
-- A run is all that a process does: each of its events, in its place. A recording is what a
-- recorder writes of it, where it leaves some events out, and puts others in. Both are histories.
use Rattle.std.specs.Prelude.{ℕ, ◌≡◌, ◌+◌, ◌<◌, Bool, true, false, IsTrue, IsSome, List, [], ◌∷◌}
use Rattle.std.specs.Prelude.{◌++◌, length, filter, not, None, Contains}
use Rattle.std.specs.List.{AllZip}
use Rattle.std.specs.List.Sorted.{IsPermutation}
use Rattle.trace_record.specs.declared.event.Event.{Event}
use Rattle.trace_record.specs.declared.event.Event.TheVariants as event
use Rattle.trace_record.specs.declared.event.Access.{Access}
use Rattle.trace_record.specs.declared.event.Region.{Region}
use Rattle.shadow_map.specs.States.{Mark, state_of, lift, bad_byte_of}
use Rattle.shadow_map.specs.Granules.{front_of}
use Rattle.shadow_map.specs.Causes.{deciding_granule}
use Rattle.heap_book.specs.Spans.{Extent, meets}
use Rattle.asan_units.specs.Units.{granule_of}
use Rattle.asan_check.specs.declared.report.Class.TheVariants as class
use Rattle.asan_check.specs.declared.report.Fault.{Fault}
use Rattle.asan_check.specs.declared.report.Fault.TheVariants as fault
use Rattle.asan_check.specs.declared.report.Report.{Report}
use Rattle.asan_check.specs.History.{block_of, live, held, marks}
use Rattle.asan_check.specs.Verdicts.{fault_of, is_access, marks_none, verdicts_of}
use Rattle.asan_laws.specs.Laws.{access_event}
use Rattle.asan_laws.specs.Snapshots.{LaysOut, is_shade}

-- ---- what a recording and a run have in common

-- both have the same blocks, but for some that the run holds: the same live ones, in whatever
-- order, and the same held ones, in the same order, but for these, which are the run's oldest
pub record HaveBlocksBut (bound : ℕ) (cut : List Extent) (recorded run : List Event) : Type 0 where
  pub same_live : IsPermutation (live bound recorded) (live bound run)
  pub oldest_cut : held bound run ≡ cut ++ held bound recorded

-- both have the same blocks
abbrev pub HaveSameBlocks : ℕ → List Event → List Event → Type 0
HaveSameBlocks bound recorded run = HaveBlocksBut bound [] recorded run

-- a granule has the same shadow byte after these marks, of a recording and of its run
abbrev pub AreSameAt : List Mark → List Mark → ℕ → Type 0
AreSameAt recorded run granule = lift (state_of recorded) granule ≡ lift (state_of run) granule

-- an access finds the same after both: the same shadow byte in the granule of its first byte and,
-- if it is bad in the run, in the granule that says the class
pub record ShowTheSame (recorded run : List Mark) (a : Access) : Type 0 where
  pub here : AreSameAt recorded run (granule_of a.at)
  pub class_there : IsSome (bad_byte_of (state_of run) a.at a.width)
      → AreSameAt recorded run (deciding_granule (state_of run) a.at)

-- an access finds as many addressable bytes after both, in the granule of its first byte
abbrev pub ShowAsMany : List Mark → List Mark → Access → Type 0
ShowAsMany recorded run a =
    front_of (lift (state_of recorded) (granule_of a.at))
    ≡ front_of (lift (state_of run) (granule_of a.at))

-- how much of what a recorded access finds is as in the run: all shadow bytes that it looks at, or
-- only how many bytes are addressable
pub data Detail : Type 0 where
  shadow_bytes : Detail
  addressable_bytes : Detail

-- an access finds as much after both
abbrev pub ShowAsMuch : Detail → List Mark → List Mark → Access → Type 0
ShowAsMuch shadow_bytes recorded run a = ShowTheSame recorded run a
ShowAsMuch addressable_bytes recorded run a = ShowAsMany recorded run a

-- the same of two histories
abbrev pub IsSameAt : ℕ → List Event → List Event → ℕ → Type 0
IsSameAt bound recorded run granule = AreSameAt (marks bound recorded) (marks bound run) granule

abbrev pub FindsTheSame : ℕ → List Event → List Event → Access → Type 0
FindsTheSame bound recorded run a = ShowTheSame (marks bound recorded) (marks bound run) a

abbrev pub FindsAsMany : ℕ → List Event → List Event → Access → Type 0
FindsAsMany bound recorded run a = ShowAsMany (marks bound recorded) (marks bound run) a

abbrev pub Finds : ℕ → Detail → List Event → List Event → Access → Type 0
Finds bound detail recorded run a = ShowAsMuch detail (marks bound recorded) (marks bound run) a

-- ---- what a recorder may write

-- a malloc or a free
abbrev pub is_of_block : Event → Bool
is_of_block (event.Malloc r) = true
is_of_block (event.Free p) = true
is_of_block e = false

-- a recording of a run: each event of either came to its place in one of these ways
pub data Records (bound : ℕ) (first past : List Event)
    : List Event → List Event → Type 0 where
  -- the recording begins with these first events, when this is what the run has done
  begins : Records bound first past first past
  -- a malloc or a free is recorded
  block : (e : Event) (recorded run : List Event) → IsTrue (is_of_block e)
      → Records bound first past recorded run
      → Records bound first past (e ∷ recorded) (e ∷ run)
  -- a load or a store is recorded, which finds in the recording what it finds in the run, as far as
  -- this detail says
  access : (detail : Detail) (is_store : Bool) (a : Access) (recorded run : List Event)
      → Finds bound detail recorded run a → Records bound first past recorded run
      → Records bound first past (access_event is_store a ∷ recorded)
      (access_event is_store a ∷ run)
  -- a load or a store is left out, which is good in the run
  leaves_out_access : (e : Event) (recorded run : List Event) → IsTrue (is_access e)
      → fault_of bound run e ≡ None → Records bound first past recorded run
      → Records bound first past recorded (e ∷ run)
  -- an event is put in that changes nothing, as a load does, and is good in the recording
  says_nothing : (e : Event) (recorded run : List Event) → IsTrue (marks_none e)
      → fault_of bound recorded e ≡ None → Records bound first past recorded run
      → Records bound first past (e ∷ recorded) run
  -- a poison or an unpoison is left out; one that is recorded in its place is also put in
  leaves_out_shade : (e : Event) (recorded run : List Event) → IsTrue (is_shade e)
      → Records bound first past recorded run
      → Records bound first past recorded (e ∷ run)
  -- a poison or an unpoison is put in, which states what some memory is
  states : (e : Event) (recorded run : List Event) → IsTrue (is_shade e)
      → Records bound first past recorded run
      → Records bound first past (e ∷ recorded) run

-- of each event that stands in both, and has since the recording began, its number in the
-- recording, its number in the run, and how much it finds as in the run, in their order; a malloc
-- or a free looks at no shadow byte that is not
abbrev pub numbers_in_both : {bound : ℕ} {first past recorded run : List Event}
    → Records bound first past recorded run → List (ℕ × ℕ × Detail)
numbers_in_both begins = []
numbers_in_both (block e recorded run is way) =
    numbers_in_both way ++ (length recorded + 1, length run + 1, shadow_bytes) ∷ []
numbers_in_both (access detail is_store a recorded run finds way) =
    numbers_in_both way ++ (length recorded + 1, length run + 1, detail) ∷ []
numbers_in_both (leaves_out_access e recorded run is good way) = numbers_in_both way
numbers_in_both (says_nothing e recorded run is good way) = numbers_in_both way
numbers_in_both (leaves_out_shade e recorded run is way) = numbers_in_both way
numbers_in_both (states e recorded run is way) = numbers_in_both way

-- each of such events finds all shadow bytes that it looks at
abbrev pub FindAllBytes : List (ℕ × ℕ × Detail) → Type 0
FindAllBytes numbers =
    (found : ℕ × ℕ × Detail) → Contains numbers found → found.2 ≡ shadow_bytes

-- such numbers come before others, in the recording and in the run
abbrev pub IsBefore : ℕ × ℕ × Detail → ℕ × ℕ × Detail → Type 0
IsBefore these others = (these.0 < others.0) × (these.1 < others.1)

-- an event has this number in a history, whose events count from 1
pub record HasNumber (history : List Event) (e : Event) (number : ℕ) : Type 0 where
  pub later : List Event
  pub before : List Event
  pub split : history ≡ later ++ e ∷ before
  pub counted : number ≡ length before + 1

-- ---- what is reported

-- a fault, but for the class and the shadow byte of an access
abbrev pub without_class : Fault → Fault
without_class (fault.Access is_store width at bad c shadow) =
    fault.Access is_store width at bad class.UnknownCrash 0
without_class f = f

-- faults are the same but for class and shadow byte
abbrev pub IsSameButForClass : Fault → Fault → Type 0
IsSameButForClass one other = without_class one ≡ without_class other

-- faults are the same, of an event that finds this much as in the run
abbrev pub IsSameInDetail : Detail → Fault → Fault → Type 0
IsSameInDetail shadow_bytes one other = one ≡ other
IsSameInDetail addressable_bytes one other = IsSameButForClass one other

-- they are; or one of these blocks was freed again, which is a bad free in the recording and a
-- double free in the run
pub data IsSameButForCut (cut : List Extent) (detail : Detail) : Fault → Fault → Type 0 where
  same : (one other : Fault) → IsSameInDetail detail one other
      → IsSameButForCut cut detail one other
  freed_again : (b : Extent) → Contains cut b
      → IsSameButForCut cut detail (fault.BadFree b.at) (fault.DoubleFree b.at)

-- a report on a recording and one on the run are on one event, by its numbers, and on the same
-- fault, where `Same` says when faults are, of an event that finds this much as in the run
abbrev pub IsReportedOfOne : List (ℕ × ℕ × Detail) → (Detail → Fault → Fault → Type 0)
    → Report → Report → Type 0
IsReportedOfOne numbers Same one other =
    (detail : Detail) × Contains numbers (one.number, other.number, detail)
    × Same detail one.fault other.fault

-- to the reports on a recording and to those on its run the same is added: such reports, one by one
pub record AddTheSame (numbers : List (ℕ × ℕ × Detail)) (Same : Detail → Fault → Fault → Type 0)
    (first recorded past run : List Report) : Type 0 where
  pub of_recording : List Report
  pub of_run : List Report
  pub recording_adds : recorded ≡ first ++ of_recording
  pub run_adds : run ≡ past ++ of_run
  pub one_by_one : AllZip (IsReportedOfOne numbers Same) of_recording of_run

-- since the recording began, the same is reported of it as of the run
abbrev pub AreReportedAlike : ℕ → List (ℕ × ℕ × Detail) → (Detail → Fault → Fault → Type 0)
    → List Event → List Event → List Event → List Event → Type 0
AreReportedAlike bound numbers Same first past recorded run =
    AddTheSame numbers Same (verdicts_of bound first) (verdicts_of bound recorded)
    (verdicts_of bound past) (verdicts_of bound run)

-- ---- the recording goes on in a new segment

-- a history without its poisons and unpoisons
abbrev pub without_shades : List Event → List Event
without_shades past = filter (λ e. not (is_shade e)) past

-- a history begins a segment, with what another has left but for some of its held blocks: without
-- its poisons and unpoisons it lays out the other's live blocks, in whatever order, and its held
-- blocks, in the order of their frees, but for these, which are the oldest
pub record IsSnapshotBut (bound : ℕ) (cut : List Extent) (snapshot past : List Event) : Type 0 where
  pub lives : List Extent
  pub newest : List Extent
  pub lays_out : LaysOut (without_shades snapshot) lives newest
  pub same_live : IsPermutation lives (live bound past)
  pub oldest_cut : held bound past ≡ cut ++ newest

-- since this past, no malloc of a run meets the span of one of these blocks while that is held
abbrev pub NoMallocMeets : ℕ → List Extent → List Event → List Event → Type 0
NoMallocMeets bound blocks past run =
    (later before : List Event) (r : Region) (b : Extent) →
    run ≡ later ++ event.Malloc r ∷ (before ++ past) → Contains blocks b →
    Contains (held bound (before ++ past)) b → meets (block_of r) b ≡ false
