-- What is reported of a lean recording is what is reported of the run.
use Rattle.std.proofs.Common.{◌≡◌, ℕ, ◌+◌, Bool, true, false, cond, eqb, List, [], ◌∷◌, ◌++◌, length, refl, sym, ap}
use Rattle.std.proofs.Common.{Some, None, Option}
use Rattle.std.specs.Prelude.{◌||◌, option_to_list}
use Rattle.std.specs.List.{list_any}
use Rattle.std.proofs.lemmas.Bool.{false≢true}
use Rattle.std.proofs.lemmas.List.{append-nil}
use Rattle.std.proofs.lemmas.List.Elements.{Contains-push}
use Rattle.trace_record.specs.declared.event.Event.{Event}
use Rattle.trace_record.specs.declared.event.Event.TheVariants as event
use Rattle.trace_record.specs.declared.event.Access.{Access}
use Rattle.trace_record.specs.declared.event.Place.{Place}
use Rattle.heap_book.specs.Spans.{starts_at}
use Rattle.asan_check.specs.declared.report.Fault.{Fault}
use Rattle.asan_check.specs.declared.report.Fault.TheVariants as fault
use Rattle.asan_check.specs.History.{held}
use Rattle.asan_check.specs.Verdicts.{fault_of, verdict, verdicts_of}
use Rattle.asan_laws.specs.Laws.{access_event}
use Rattle.asan_laws.specs.Snapshots.{is_shade}
use Rattle.asan_laws.specs.Recording.{Detail, shadow_bytes}
use Rattle.asan_laws.specs.Runs.{Step, Does, events_of, live_in, held_in, fault_in, verdict_in, verdicts_in}
use Rattle.asan_laws.specs.LeanRecording.{HaveSameStart, FindsItsBlock, FindsInRun, MayBeStated, RecordsLeanly}
use Rattle.asan_laws.specs.LeanRecording.{lean_numbers, AreReportedInRun}
use Rattle.asan_laws.specs.LeanRecording.{begins, block, access, leaves_out_block, states_block, releases}
use Rattle.asan_laws.specs.LeanRecording.{leaves_out_access, says_nothing, leaves_out_shade, states}
use Rattle.asan_laws.proofs.SameBlocks.{SayAlike, say_the_same, shade_is_good}
use Rattle.asan_laws.proofs.Reported.{both_say, none_said, added_to_both, none_added}

-- ---- a malloc or a free

-- an answer that is the first of two choices in any case
first_in_any_case : (t : Bool) (one other : Option Fault) → cond (t || true) None one ≡ cond (t || true) None other
first_in_any_case true one other = refl
first_in_any_case false one other = refl

none_in_any_case : (t : Bool) (one : Option Fault) → cond (t || true) None one ≡ None
none_in_any_case true one = refl
none_in_any_case false one = refl

module _ (bound : ℕ) (recorded : List Event) (run : List Step) where
  free_same : (p : Place) → HaveSameStart bound recorded run p.at
      → fault_of bound recorded (event.Free p) ≡ fault_in run (event.Free p)
  free_same p same = rw same.live_there (go (list_any (starts_at p.at) (live_in run)) refl)
    where
      again : Bool → Option Fault
      again is_held = cond is_held (Some (fault.DoubleFree p.at)) (Some (fault.BadFree p.at))

      go : (any : Bool) → list_any (starts_at p.at) (live_in run) ≡ any →
          cond (eqb p.at 0 || any) None (again (list_any (starts_at p.at) (held bound recorded)))
          ≡ cond (eqb p.at 0 || any) None (again (list_any (starts_at p.at) (held_in run)))
      go true is = first_in_any_case (eqb p.at 0) _ _
      go false is = ap (λ h. cond (eqb p.at 0 || false) None (again h)) (same.held_there is)

  -- it is as good or as bad in both
  pub block_same : (e : Event) → FindsItsBlock bound recorded run e → fault_of bound recorded e ≡ fault_in run e
  block_same (event.Malloc r) finds = rw finds refl
  block_same (event.Free p) finds = free_same p finds
  block_same e finds = absurd finds

-- one that may be stated is good
stated_good : (bound : ℕ) (recorded : List Event) (e : Event) → MayBeStated bound recorded e
    → fault_of bound recorded e ≡ None
stated_good bound recorded (event.Malloc r) may = rw may (none_in_any_case (eqb r.at 0) _)
stated_good bound recorded (event.Free p) may = rw may (none_in_any_case (eqb p.at 0) _)
stated_good bound recorded e may = absurd may

-- a poison or an unpoison is good
shade_is_good_in : (run : List Step) (e : Event) → is_shade e ≡ true → fault_in run e ≡ None
shade_is_good_in run (event.Poison s) is = refl
shade_is_good_in run (event.Unpoison r) is = refl
shade_is_good_in run e is = absurd (false≢true is)

-- ---- one more event

module _ (bound : ℕ) (Same : Detail → Fault → Fault → Type 0) (first : List Event) (past : List Step)
    (recorded : List Event) (run : List Step) (numbers : List (ℕ × ℕ × Detail))
    (alike : AreReportedInRun bound numbers Same first past recorded run) where
  in_both : (e : Event) (detail : Detail) → SayAlike (Same detail) (fault_of bound recorded e) (fault_in run e) →
      AreReportedInRun bound (numbers ++ (length recorded + 1, length (events_of run) + 1, detail) ∷ []) Same first past
      (e ∷ recorded) (Does e ∷ run)
  in_both e detail says =
      let last : ℕ × ℕ × Detail = (length recorded + 1, length (events_of run) + 1, detail) in
      added_to_both Same (verdicts_of bound first) (verdicts_of bound recorded) (verdicts_in past) (verdicts_in run)
      numbers alike last (option_to_list (verdict bound recorded e)) (option_to_list (verdict_in run e))
      (both_say Same (numbers ++ last ∷ []) (length recorded + 1) (length (events_of run) + 1) detail
      (Contains-push numbers last) (fault_of bound recorded e) (fault_in run e) says)

  in_run : (e : Event) → fault_in run e ≡ None
      → AreReportedInRun bound numbers Same first past recorded (Does e ∷ run)
  in_run e good = none_added Same (verdicts_of bound first) (verdicts_of bound recorded) (verdicts_in past)
      (verdicts_in run) numbers alike (verdicts_of bound recorded) (verdicts_in (Does e ∷ run)) refl
      (none_said (length (events_of run) + 1) (verdicts_in run) (fault_in run e) good)

  in_recording : (e : Event) → fault_of bound recorded e ≡ None
      → AreReportedInRun bound numbers Same first past (e ∷ recorded) run
  in_recording e good = none_added Same (verdicts_of bound first) (verdicts_of bound recorded) (verdicts_in past)
      (verdicts_in run) numbers alike (verdicts_of bound (e ∷ recorded)) (verdicts_in run)
      (none_said (length recorded + 1) (verdicts_of bound recorded) (fault_of bound recorded e) good) refl

-- ---- the whole

-- a load or a store that finds this much has the same fault in both, or none in either
abbrev pub SaysAlike : ℕ → (Detail → Fault → Fault → Type 0) → Type 0
SaysAlike bound Same =
    (detail : Detail) (recorded : List Event) (run : List Step) (is_store : Bool) (a : Access)
    → FindsInRun bound detail recorded run a →
    SayAlike (Same detail) (fault_of bound recorded (access_event is_store a)) (fault_in run (access_event is_store a))

-- if that is so of the faults that count as the same
module _ (bound : ℕ) (first : List Event) (past : List Step) (Same : Detail → Fault → Fault → Type 0)
    (self : (f : Fault) → Same shadow_bytes f f) (says : SaysAlike bound Same) where
  pub lean_alike : (recorded : List Event) (run : List Step)
      (way : RecordsLeanly bound first past recorded run)
      → AreReportedInRun bound (lean_numbers way) Same first past recorded run
  lean_alike recorded run begins = record {
    of_recording = [];
    of_run = [];
    recording_adds = sym (append-nil (verdicts_of bound first));
    run_adds = sym (append-nil (verdicts_in past));
    one_by_one = tt;
  }
  lean_alike recorded run (block e t f finds way) =
      in_both bound Same first past t f (lean_numbers way) (lean_alike t f way) e shadow_bytes
      (say_the_same (Same shadow_bytes) self _ _ (block_same bound t f e finds))
  lean_alike recorded run (access detail is_store a t f finds way) =
      in_both bound Same first past t f (lean_numbers way) (lean_alike t f way) (access_event is_store a) detail
      (says detail t f is_store a finds)
  lean_alike recorded run (leaves_out_block e t f is good way) =
      in_run bound Same first past t f (lean_numbers way) (lean_alike t f way) e good
  lean_alike recorded run (states_block e t f may way) =
      in_recording bound Same first past t f (lean_numbers way) (lean_alike t f way) e (stated_good bound t e may)
  lean_alike recorded run (releases at t f way) = lean_alike t f way
  lean_alike recorded run (leaves_out_access e t f is good way) =
      in_run bound Same first past t f (lean_numbers way) (lean_alike t f way) e good
  lean_alike recorded run (says_nothing e t f is good way) =
      in_recording bound Same first past t f (lean_numbers way) (lean_alike t f way) e good
  lean_alike recorded run (leaves_out_shade e t f is way) =
      in_run bound Same first past t f (lean_numbers way) (lean_alike t f way) e (shade_is_good_in f e is)
  lean_alike recorded run (states e t f is way) =
      in_recording bound Same first past t f (lean_numbers way) (lean_alike t f way) e (shade_is_good bound t e is)
