-- A recording in groups has the reports of its run.
use Rattle.std.proofs.Common.{◌≡◌, ℕ, ◌+◌, true, false, List, [], ◌∷◌, ◌++◌, length, map, None, refl, sym, ap}
use Rattle.std.proofs.Common.{◌∙◌}
use Rattle.std.specs.Prelude.{option_to_list}
use Rattle.std.specs.Option.{option_map}
use Rattle.std.specs.List.{AllZip}
use Rattle.std.proofs.lemmas.List.{append-nil, map-append}
use Rattle.std.proofs.lemmas.List.Elements.{Contains-push}
use Rattle.trace_record.specs.declared.event.Event.{Event}
use Rattle.trace_record.specs.declared.event.Event.TheVariants as event
use Rattle.asan_check.specs.declared.report.Fault.{Fault}
use Rattle.asan_check.specs.declared.report.Report.{Report}
use Rattle.asan_check.specs.Verdicts.{verdicts_of}
use Rattle.asan_check.specs.Traces.{since_anew}
use Rattle.asan_check.specs.Traces as trace
use Rattle.asan_check.proofs.Frees as frees
use Rattle.asan_laws.specs.Thinning.{LeaveTheSame}
use Rattle.asan_laws.specs.Recording.{Detail, shadow_bytes, IsReportedOfOne}
use Rattle.asan_laws.specs.Runs.{Step, Does, events_of, fault_in, verdicts_in, faults_in}
use Rattle.asan_laws.specs.Traces.{IsOneHistory, numbered_on}
use Rattle.asan_laws.proofs.Anew.{fault_begun, verdicts_begun}
use Rattle.asan_laws.proofs.Reported.{added_to_both, none_added, none_said, both_say}
use Rattle.asan_laws.proofs.SameBlocks.{say_the_same}
use Rattle.asan_laws.proofs.Thinned.{same_fault}
use Rattle.asan_plan.specs.Groups.{GoesOn, just_stated, with_access, with_bad_free, RecordsInGroups, begins}
use Rattle.asan_plan.specs.Groups.{leaves_out, releases, group, again, group_numbers, IsSame, HasReportsOfRun}

-- what was recorded since changes nothing
goes_on : (bound : ℕ) (stated history : List Event) → GoesOn bound stated history → LeaveTheSame bound history stated
goes_on bound stated history just_stated = record { same_marks = refl; same_live = refl; same_held = refl }
goes_on bound stated history (with_access false a past h) =
    let same = goes_on bound stated past h in
    record { same_marks = same.same_marks; same_live = same.same_live; same_held = same.same_held }
goes_on bound stated history (with_access true a past h) =
    let same = goes_on bound stated past h in
    record { same_marks = same.same_marks; same_live = same.same_live; same_held = same.same_held }
goes_on bound stated history (with_bad_free p past none h) =
    let same = goes_on bound stated past h in
    record {
      same_marks = frees.marks_stay bound past p none ∙ same.same_marks;
      same_live = frees.live_stays bound past p none ∙ same.same_live;
      same_held = frees.held_stays bound past p none ∙ same.same_held;
    }

-- one event more in both, by its fault in the recording
module _ (bound : ℕ) (before recorded : List Event) (past run : List Step) (numbers : List (ℕ × ℕ × Detail))
    (alike : HasReportsOfRun bound numbers before past recorded run) (e : Event) where
  in_both : trace.fault_of bound recorded e ≡ fault_in run e →
      HasReportsOfRun bound (numbers ++ (length recorded + 1, length (events_of run) + 1, shadow_bytes) ∷ []) before
      past (e ∷ recorded) (Does e ∷ run)
  in_both same =
      let last : ℕ × ℕ × Detail = (length recorded + 1, length (events_of run) + 1, shadow_bytes) in
      added_to_both IsSame (trace.verdicts_of bound before) (trace.verdicts_of bound recorded) (verdicts_in past)
      (verdicts_in run) numbers alike last
      (option_to_list (trace.verdict bound recorded e))
      (option_to_list (option_map
      (λ f. let r : Report = record { number = length (events_of run) + 1; fault = f } in r) (fault_in run e)))
      (both_say IsSame (numbers ++ last ∷ []) (length recorded + 1) (length (events_of run) + 1) shadow_bytes
      (Contains-push numbers last) (trace.fault_of bound recorded e) (fault_in run e)
      (say_the_same (IsSame shadow_bytes) (λ f. refl) _ _ same))

  -- one that is left out
  in_run : fault_in run e ≡ None → HasReportsOfRun bound numbers before past recorded (Does e ∷ run)
  in_run good = none_added IsSame (trace.verdicts_of bound before) (trace.verdicts_of bound recorded) (verdicts_in past)
      (verdicts_in run) numbers alike (trace.verdicts_of bound recorded) (verdicts_in (Does e ∷ run)) refl
      (none_said (length (events_of run) + 1) (verdicts_in run) (fault_in run e) good)

-- what is stated adds no report
module _ (bound : ℕ) (before recorded : List Event) (past run : List Step) (numbers : List (ℕ × ℕ × Detail))
    (alike : HasReportsOfRun bound numbers before past recorded run) (stated : List Event) where
  begun : IsOneHistory stated → verdicts_of bound stated ≡ []
      → HasReportsOfRun bound numbers before past (stated ++ event.Anew ∷ recorded) run
  begun one quiet =
      let none : trace.verdicts_of bound (stated ++ event.Anew ∷ recorded) ≡ trace.verdicts_of bound recorded =
      verdicts_begun bound recorded stated one
      ∙ ap (λ rs. trace.verdicts_of bound recorded ++ map (numbered_on (length recorded + 1)) rs) quiet
      ∙ append-nil (trace.verdicts_of bound recorded) in
      none_added IsSame (trace.verdicts_of bound before) (trace.verdicts_of bound recorded) (verdicts_in past)
      (verdicts_in run) numbers alike (trace.verdicts_of bound (stated ++ event.Anew ∷ recorded)) (verdicts_in run) none
      refl

pub reports_of_groups : (bound : ℕ) (before : List Event) (past : List Step) (recorded : List Event) (run : List Step)
    (w : RecordsInGroups bound before past recorded run)
    → HasReportsOfRun bound (group_numbers w) before past recorded run
reports_of_groups bound before past recorded run begins = record {
  of_recording = [];
  of_run = [];
  recording_adds = sym (append-nil (trace.verdicts_of bound before));
  run_adds = sym (append-nil (verdicts_in past));
  one_by_one = tt;
}
reports_of_groups bound before past recorded run (leaves_out e t r good w) =
    in_run bound before t past r (group_numbers w) (reports_of_groups bound before past t r w) e good
reports_of_groups bound before past recorded run (releases at t r w) = reports_of_groups bound before past t r w
reports_of_groups bound before past recorded run (group e stated t r one quiet same w) =
    in_both bound before (stated ++ event.Anew ∷ t) past r (group_numbers w)
    (begun bound before t past r (group_numbers w) (reports_of_groups bound before past t r w) stated one quiet) e
    (fault_begun bound t stated e one ∙ same)
reports_of_groups bound before past recorded run (again e stated t r h same w) =
    in_both bound before t past r (group_numbers w) (reports_of_groups bound before past t r w) e
    (same_fault bound (since_anew t) stated (goes_on bound stated (since_anew t) h) e ∙ same)

-- so the same faults are added to both
same_faults : (numbers : List (ℕ × ℕ × Detail)) (one other : List Report)
    → AllZip (IsReportedOfOne numbers IsSame) one other → map (λ r. r.fault) one ≡ map (λ r. r.fault) other
same_faults numbers [] [] h = refl
same_faults numbers [] (s ∷ other) h = absurd h
same_faults numbers (r ∷ one) [] h = absurd h
same_faults numbers (r ∷ one) (s ∷ other) h =
    ap (λ f. f ∷ map (λ r. r.fault) one) h.0.2 ∙ ap (λ fs. s.fault ∷ fs) (same_faults numbers one other h.1)

pub faults_of_groups : (bound : ℕ) (before : List Event) (past : List Step) (recorded : List Event) (run : List Step)
    → RecordsInGroups bound before past recorded run → (added : List Fault)
    × (map (λ r. r.fault) (trace.verdicts_of bound recorded)
    ≡ map (λ r. r.fault) (trace.verdicts_of bound before) ++ added)
    × (faults_in run ≡ faults_in past ++ added)
faults_of_groups bound before past recorded run w =
    let alike = reports_of_groups bound before past recorded run w in (
      map (λ r. r.fault) alike.of_recording,
      ap (map (λ r. r.fault)) alike.recording_adds
          ∙ map-append (λ r. r.fault) (trace.verdicts_of bound before) alike.of_recording,
      ap (map (λ r. r.fault)) alike.run_adds ∙ map-append (λ r. r.fault) (verdicts_in past) alike.of_run
          ∙ ap (λ fs. faults_in past ++ fs)
          (sym (same_faults (group_numbers w) alike.of_recording alike.of_run alike.one_by_one)),
    )
