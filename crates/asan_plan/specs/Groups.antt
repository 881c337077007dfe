-- Recordings in groups: each bad event of a run is recorded after what states the memory there, in
-- a history of its own.
use Rattle.std.specs.Prelude.{◌≡◌, ℕ, ◌+◌, false, Bool, List, [], ◌∷◌, ◌++◌, length, None}
use Rattle.std.specs.List.{list_any}
use Rattle.trace_record.specs.declared.event.Event.{Event}
use Rattle.trace_record.specs.declared.event.Event.TheVariants as event
use Rattle.trace_record.specs.declared.event.Access.{Access}
use Rattle.trace_record.specs.declared.event.Place.{Place}
use Rattle.heap_book.specs.Spans.{starts_at}
use Rattle.asan_check.specs.declared.report.Fault.{Fault}
use Rattle.asan_check.specs.History.{live}
use Rattle.asan_check.specs.Verdicts.{fault_of, verdicts_of}
use Rattle.asan_check.specs.Traces.{since_anew}
use Rattle.asan_check.specs.Traces as trace
use Rattle.asan_laws.specs.Laws.{access_event}
use Rattle.asan_laws.specs.Recording.{Detail, shadow_bytes, AddTheSame}
use Rattle.asan_laws.specs.Runs.{Step, Does, Releases, events_of, fault_in, verdicts_in}
use Rattle.asan_laws.specs.Traces.{IsOneHistory}

-- a history goes on from what it has stated with loads, stores and bad frees alone, which change
-- nothing
pub data GoesOn (bound : ℕ) (stated : List Event) : List Event → Type 0 where
  just_stated : GoesOn bound stated stated
  with_access : (is_store : Bool) (a : Access) (history : List Event)
      → GoesOn bound stated history → GoesOn bound stated (access_event is_store a ∷ history)
  with_bad_free : (p : Place) (history : List Event)
      → list_any (starts_at p.at) (live bound history) ≡ false
      → GoesOn bound stated history → GoesOn bound stated (event.Free p ∷ history)

-- a recording of a run in groups: each event of either came to its place in one of these ways
pub data RecordsInGroups (bound : ℕ) (before : List Event) (past : List Step)
    : List Event → List Step → Type 0 where
  -- the recording begins after these events, when this is what the run has done
  begins : RecordsInGroups bound before past before past
  -- an event is left out, which is good in the run
  leaves_out : (e : Event) (recorded : List Event) (run : List Step) → fault_in run e ≡ None
      → RecordsInGroups bound before past recorded run
      → RecordsInGroups bound before past recorded (Does e ∷ run)
  -- the run releases a block, and the recording stays as it is
  releases : (at : ℕ) (recorded : List Event) (run : List Step)
      → RecordsInGroups bound before past recorded run
      → RecordsInGroups bound before past recorded (Releases at ∷ run)
  -- an event is recorded in a history that begins anew: after what states what it finds in the run,
  -- in which nothing is wrong
  group : (e : Event) (stated recorded : List Event) (run : List Step)
      → IsOneHistory stated → verdicts_of bound stated ≡ []
      → fault_of bound stated e ≡ fault_in run e
      → RecordsInGroups bound before past recorded run
      → RecordsInGroups bound before past (e ∷ (stated ++ event.Anew ∷ recorded)) (Does e ∷ run)
  -- or in a history that has stated this already
  again : (e : Event) (stated recorded : List Event) (run : List Step)
      → GoesOn bound stated (since_anew recorded) → fault_of bound stated e ≡ fault_in run e
      → RecordsInGroups bound before past recorded run
      → RecordsInGroups bound before past (e ∷ recorded) (Does e ∷ run)

-- of each event that stands in both, its number in the recording and its number in the run
abbrev pub group_numbers : {bound : ℕ} {before : List Event} {past : List Step}
    {recorded : List Event} {run : List Step}
    → RecordsInGroups bound before past recorded run → List (ℕ × ℕ × Detail)
group_numbers begins = []
group_numbers (leaves_out e recorded run good way) = group_numbers way
group_numbers (releases at recorded run way) = group_numbers way
group_numbers (group e stated recorded run one quiet same way) =
    group_numbers way
    ++ (length (stated ++ event.Anew ∷ recorded) + 1, length (events_of run) + 1, shadow_bytes) ∷ []
group_numbers (again e stated recorded run on same way) =
    group_numbers way ++ (length recorded + 1, length (events_of run) + 1, shadow_bytes) ∷ []

-- the same fault
abbrev pub IsSame : Detail → Fault → Fault → Type 0
IsSame detail one other = one ≡ other

-- since a recording began, the same is reported of its events as of the run: the same faults, in
-- the same order, and each report on the same event
abbrev pub HasReportsOfRun : ℕ → List (ℕ × ℕ × Detail)
    → List Event → List Step → List Event → List Step → Type 0
HasReportsOfRun bound numbers before past recorded run =
    AddTheSame numbers IsSame (trace.verdicts_of bound before) (trace.verdicts_of bound recorded)
    (verdicts_in past) (verdicts_in run)
