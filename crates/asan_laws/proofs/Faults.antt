-- A recording has the faults of the run, and so has a segment that leaves out the oldest held blocks.
use Rattle.std.proofs.Common.{◌≡◌, ℕ, List, [], ◌++◌, Some, None, Option, map, refl, sym, ap, ◌∙◌}
use Rattle.std.specs.Prelude.{reverse}
use Rattle.std.specs.List.{AllZip}
use Rattle.std.proofs.lemmas.List.{map-append}
use Rattle.trace_record.specs.declared.event.Event.{Event}
use Rattle.heap_book.specs.Spans.{Extent}
use Rattle.asan_check.specs.declared.report.Fault.{Fault}
use Rattle.asan_check.specs.declared.report.Report.{Report}
use Rattle.asan_check.specs.Verdicts.{verdicts, verdicts_of}
use Rattle.asan_check.proofs.Members.{in_none}
use Rattle.asan_laws.specs.Thinning.{faults_of, faults_on}
use Rattle.asan_laws.specs.Recording.{HaveSameBlocks, Detail, Records, numbers_in_both, FindAllBytes}
use Rattle.asan_laws.specs.Recording.{without_class, IsSameInDetail, IsSameButForCut, same, freed_again}
use Rattle.asan_laws.specs.Recording.{IsReportedOfOne, AreReportedAlike, IsSnapshotBut, NoMallocMeets}
use Rattle.asan_laws.proofs.Beginning.{at_start, none_cut, begins_with_blocks}
use Rattle.asan_laws.proofs.Reported.{reported_alike}
use Rattle.asan_laws.proofs.Said.{says_in_detail, seen_alike, same_if_all, same_but_for_class, map_itself}
use Rattle.asan_laws.proofs.SameBlocks.{SayAlike}

say_by_cut : (cut : List Extent) (detail : Detail) (one other : Option Fault)
    → SayAlike (IsSameInDetail detail) one other → SayAlike (IsSameButForCut cut detail) one other
say_by_cut cut detail None None h = tt
say_by_cut cut detail None (Some g) h = absurd h
say_by_cut cut detail (Some f) None h = absurd h
say_by_cut cut detail (Some f) (Some g) h = (same f g h.0, tt)

module _ (bound : ℕ) where
  pub recorded_alike : (first past recorded run : List Event) → HaveSameBlocks bound first past
      → (way : Records bound first past recorded run)
      → AreReportedAlike bound (numbers_in_both way) IsSameInDetail first past recorded run
  recorded_alike first past recorded run start =
      reported_alike bound first past [] start IsSameInDetail (λ f. refl) (λ b has. absurd (in_none b has))
      (says_in_detail bound) recorded run (none_cut bound past run)

  pub recorded_faults : (first past recorded run : List Event) → HaveSameBlocks bound first past
      → (way : Records bound first past recorded run) → FindAllBytes (numbers_in_both way) → (added : List Fault)
      × (faults_of bound recorded ≡ faults_of bound first ++ added)
      × (faults_of bound run ≡ faults_of bound past ++ added)
  recorded_faults first past recorded run start way all =
      let numbers = numbers_in_both way in
      let alike = recorded_alike first past recorded run start way in
      let faults : map (λ (r : Report). r.fault) alike.of_recording ≡ map (λ r. r.fault) alike.of_run =
      sym (map_itself (map (λ r. r.fault) alike.of_recording))
      ∙ seen_alike (λ f. f) numbers (same_if_all numbers all) alike.of_recording alike.of_run alike.one_by_one
      ∙ map_itself (map (λ r. r.fault) alike.of_run) in (
        map (λ r. r.fault) alike.of_run,
        ap (map (λ r. r.fault)) alike.recording_adds
            ∙ map-append (λ r. r.fault) (verdicts_of bound first) alike.of_recording
            ∙ ap (λ fs. faults_of bound first ++ fs) faults,
        ap (map (λ r. r.fault)) alike.run_adds
            ∙ map-append (λ r. r.fault) (verdicts_of bound past) alike.of_run,
      )

  pub recorded_classes : (first past recorded run : List Event) → HaveSameBlocks bound first past
      → Records bound first past recorded run → (added : List Fault)
      × (map without_class (faults_of bound recorded) ≡ map without_class (faults_of bound first) ++ added)
      × (map without_class (faults_of bound run) ≡ map without_class (faults_of bound past) ++ added)
  recorded_classes first past recorded run start way =
      let numbers = numbers_in_both way in
      let alike = recorded_alike first past recorded run start way in (
        map without_class (map (λ r. r.fault) alike.of_run),
        ap (λ (rs : List Report). map without_class (map (λ r. r.fault) rs)) alike.recording_adds
            ∙ ap (map without_class) (map-append (λ r. r.fault) (verdicts_of bound first) alike.of_recording)
            ∙ map-append without_class (faults_of bound first) (map (λ r. r.fault) alike.of_recording)
            ∙ ap (λ fs. map without_class (faults_of bound first) ++ fs)
            (seen_alike without_class numbers (same_but_for_class numbers) alike.of_recording alike.of_run
            alike.one_by_one),
        ap (λ (rs : List Report). map without_class (map (λ r. r.fault) rs)) alike.run_adds
            ∙ ap (map without_class) (map-append (λ r. r.fault) (verdicts_of bound past) alike.of_run)
            ∙ map-append without_class (faults_of bound past) (map (λ r. r.fault) alike.of_run),
      )

  pub whole_alike : (recorded run : List Event) (way : Records bound [] [] (reverse recorded) (reverse run)) →
      (FindAllBytes (numbers_in_both way) → faults_on bound recorded ≡ faults_on bound run)
      × AllZip (IsReportedOfOne (numbers_in_both way) IsSameInDetail) (verdicts bound recorded) (verdicts bound run)
  whole_alike recorded run way =
      let alike = recorded_alike [] [] (reverse recorded) (reverse run) (at_start bound) way in (
        λ all. let faults = recorded_faults [] [] (reverse recorded) (reverse run) (at_start bound) way all in
            faults.1 ∙ sym faults.2,
        rw (alike.recording_adds, alike.run_adds) alike.one_by_one,
      )

  -- ---- a segment

  pub cut_alike : (cut : List Extent) (snapshot past recorded run : List Event) → IsSnapshotBut bound cut snapshot past
      → NoMallocMeets bound cut past run → (way : Records bound snapshot past recorded run)
      → AreReportedAlike bound (numbers_in_both way) (IsSameButForCut cut) snapshot past recorded run
  cut_alike cut snapshot past recorded run is none =
      reported_alike bound snapshot past cut (begins_with_blocks bound cut snapshot past is)
      (IsSameButForCut cut) (λ f. same f f refl) freed_again (λ detail thin full is_store a finds.
      say_by_cut cut detail _ _ (says_in_detail bound detail thin full is_store a finds)) recorded run none
