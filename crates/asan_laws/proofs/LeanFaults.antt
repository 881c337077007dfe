-- A lean recording has the faults of the run, in one segment and in several, and a full one is lean.
use Rattle.std.proofs.Common.{◌≡◌, ℕ, ◌+◌, Bool, true, false, List, [], ◌∷◌, ◌++◌, map, length, refl, sym, ap, ◌∙◌}
use Rattle.std.proofs.Common.{append_assoc, subst}
use Rattle.std.specs.Prelude.{reverse, Contains}
use Rattle.std.specs.Option.{option_map}
use Rattle.std.specs.List.{AllZip, flat_map, list_any}
use Rattle.std.proofs.lemmas.List.{map-append, append-nil}
use Rattle.std.proofs.lemmas.List.Elements.{Contains-append_left, Contains-append_right}
use Rattle.std.proofs.lemmas.Bool.{false≢true}
use Rattle.std.proofs.lemmas.Grind.{flat_map-append}
use Rattle.trace_record.specs.declared.event.Event.{Event}
use Rattle.trace_record.specs.declared.event.Event.TheVariants as event
use Rattle.trace_record.specs.declared.event.Access.{Access}
use Rattle.trace_record.specs.declared.event.Region.{Region}
use Rattle.heap_book.specs.Spans.{Extent, meets, starts_at}
use Rattle.asan_check.specs.declared.report.Fault.{Fault}
use Rattle.asan_check.specs.declared.report.Report.{Report}
use Rattle.asan_check.specs.History.{block_of, marks}
use Rattle.asan_check.specs.Verdicts.{fault_of, verdicts, verdicts_of}
use Rattle.asan_check.proofs.Members.{in_none}
use Rattle.asan_laws.specs.Laws.{access_event}
use Rattle.asan_laws.specs.Thinning.{faults_of, faults_on}
use Rattle.asan_laws.specs.Recording.{HaveBlocksBut, HaveSameBlocks, Detail, shadow_bytes, addressable_bytes}
use Rattle.asan_laws.specs.Recording.{Records, numbers_in_both, FindAllBytes, Finds, without_class, IsSameInDetail}
use Rattle.asan_laws.specs.Recording.{IsReportedOfOne, is_of_block, ShowAsMuch}
use Rattle.asan_laws.specs.Recording as full
use Rattle.asan_laws.specs.Runs.{Step, Does, events_of, marks_in, fault_in, verdicts_in, faults_in, with_quarantine}
use Rattle.asan_laws.specs.LeanRecording.{RecordsLeanly, lean_numbers, RecordsInSegments, segment_numbers, no_segment}
use Rattle.asan_laws.specs.LeanRecording.{one_more, FindsItsBlock, FindsInRun, AreReportedInRun}
use Rattle.asan_laws.specs.LeanRecording as lean
use Rattle.asan_laws.proofs.Beginning.{none_cut, none_left}
use Rattle.asan_laws.proofs.Finding.{found_same, found_as_many}
use Rattle.asan_laws.proofs.LeanReported.{SaysAlike, lean_alike}
use Rattle.asan_laws.proofs.Marks.{are_marks}
use Rattle.asan_laws.proofs.Quarantine.{as_history, admits_same, fault_is, events_are, goes_on}
use Rattle.asan_laws.proofs.Reported.{keeps, zip_append, zip_weaker}
use Rattle.asan_laws.proofs.RunBlocks.{are_marks_in}
use Rattle.asan_laws.proofs.Said.{SeesAlike, say_by_class, seen_alike, same_if_all, same_but_for_class, map_itself}
use Rattle.asan_laws.proofs.SameBlocks.{say_the_same, same_admits, same_any}

-- ---- one recording

-- what is seen of the faults, if reports are alike
module _ (bound : ℕ) (see : Fault → Fault) (numbers : List (ℕ × ℕ × Detail)) (sees : SeesAlike numbers see)
    (first : List Event) (past : List Step) (recorded : List Event) (run : List Step)
    (alike : AreReportedInRun bound numbers IsSameInDetail first past recorded run) where
  abbrev added : List Fault
  added = map see (map (λ (r : Report). r.fault) alike.of_run)

  pub seen_of_recording : map see (faults_of bound recorded) ≡ map see (faults_of bound first) ++ added
  seen_of_recording =
      ap (λ (rs : List Report). map see (map (λ r. r.fault) rs)) alike.recording_adds
      ∙ ap (map see) (map-append (λ r. r.fault) (verdicts_of bound first) alike.of_recording)
      ∙ map-append see (faults_of bound first) (map (λ r. r.fault) alike.of_recording)
      ∙ ap (λ fs. map see (faults_of bound first) ++ fs)
      (seen_alike see numbers sees alike.of_recording alike.of_run alike.one_by_one)

  pub seen_of_run : map see (faults_in run) ≡ map see (faults_in past) ++ added
  seen_of_run =
      ap (λ (rs : List Report). map see (map (λ r. r.fault) rs)) alike.run_adds
      ∙ ap (map see) (map-append (λ r. r.fault) (verdicts_in past) alike.of_run)
      ∙ map-append see (faults_in past) (map (λ r. r.fault) alike.of_run)

module _ (bound : ℕ) where
  -- what is wrong with an access that finds the same, or as many addressable bytes
  found_in_run : (recorded : List Event) (run : List Step) (is_store : Bool) (a : Access)
      → FindsInRun bound shadow_bytes recorded run a
      → fault_of bound recorded (access_event is_store a) ≡ fault_in run (access_event is_store a)
  found_in_run recorded run false a finds = found_same (marks bound recorded) (marks_in run) (are_marks bound recorded)
      (are_marks_in run) false a finds.here finds.class_there
  found_in_run recorded run true a finds = found_same (marks bound recorded) (marks_in run) (are_marks bound recorded)
      (are_marks_in run) true a finds.here finds.class_there

  counted_in_run : (recorded : List Event) (run : List Step) (is_store : Bool) (a : Access)
      → FindsInRun bound addressable_bytes recorded run a →
      option_map without_class (fault_of bound recorded (access_event is_store a))
      ≡ option_map without_class (fault_in run (access_event is_store a))
  counted_in_run recorded run false a finds = found_as_many (marks bound recorded) (marks_in run)
      (are_marks bound recorded) (are_marks_in run) false a finds
  counted_in_run recorded run true a finds = found_as_many (marks bound recorded) (marks_in run)
      (are_marks bound recorded) (are_marks_in run) true a finds

  says_alike : SaysAlike bound IsSameInDetail
  says_alike shadow_bytes recorded run is_store a finds =
      say_the_same ◌≡◌ (λ f. refl) _ _ (found_in_run recorded run is_store a finds)
  says_alike addressable_bytes recorded run is_store a finds =
      say_by_class _ _ (counted_in_run recorded run is_store a finds)

  pub lean_reports : (first : List Event) (past : List Step) (recorded : List Event) (run : List Step)
      → (way : RecordsLeanly bound first past recorded run)
      → AreReportedInRun bound (lean_numbers way) IsSameInDetail first past recorded run
  lean_reports first past recorded run =
      lean_alike bound first past IsSameInDetail (λ f. refl) says_alike recorded run

  pub lean_faults : (first : List Event) (past : List Step) (recorded : List Event) (run : List Step)
      → (way : RecordsLeanly bound first past recorded run) → FindAllBytes (lean_numbers way) → (added : List Fault)
      × (faults_of bound recorded ≡ faults_of bound first ++ added) × (faults_in run ≡ faults_in past ++ added)
  lean_faults first past recorded run way all =
      let numbers = lean_numbers way in
      let alike = lean_reports first past recorded run way in
      let sees = same_if_all numbers all in
      let more = map (λ f. f) (map (λ (r : Report). r.fault) alike.of_run) in (
        more,
        sym (map_itself (faults_of bound recorded))
            ∙ seen_of_recording bound (λ f. f) numbers sees first past recorded run alike
            ∙ ap (λ fs. fs ++ more) (map_itself (faults_of bound first)),
        sym (map_itself (faults_in run)) ∙ seen_of_run bound (λ f. f) numbers sees first past recorded run alike
            ∙ ap (λ fs. fs ++ more) (map_itself (faults_in past)),
      )

  pub lean_classes : (first : List Event) (past : List Step) (recorded : List Event) (run : List Step)
      → RecordsLeanly bound first past recorded run → (added : List Fault)
      × (map without_class (faults_of bound recorded) ≡ map without_class (faults_of bound first) ++ added)
      × (map without_class (faults_in run) ≡ map without_class (faults_in past) ++ added)
  lean_classes first past recorded run way =
      let numbers = lean_numbers way in
      let alike = lean_reports first past recorded run way in
      let sees = same_but_for_class numbers in (
        map without_class (map (λ (r : Report). r.fault) alike.of_run),
        seen_of_recording bound without_class numbers sees first past recorded run alike,
        seen_of_run bound without_class numbers sees first past recorded run alike,
      )

  pub lean_whole : (recorded : List Event) (run : List Step)
      (way : RecordsLeanly bound [] [] (reverse recorded) (reverse run)) →
      (FindAllBytes (lean_numbers way) → faults_on bound recorded ≡ faults_in (reverse run))
      × AllZip (IsReportedOfOne (lean_numbers way) IsSameInDetail) (verdicts bound recorded)
      (verdicts_in (reverse run))
  lean_whole recorded run way =
      let alike = lean_reports [] [] (reverse recorded) (reverse run) way in (
        λ all. let faults = lean_faults [] [] (reverse recorded) (reverse run) way all in faults.1 ∙ sym faults.2,
        rw (alike.recording_adds, alike.run_adds) alike.one_by_one,
      )

  -- ---- segments

  -- each event of one list of numbers is one of a longer one
  wider : (Same : Detail → Fault → Fault → Type 0) (numbers all : List (ℕ × ℕ × Detail))
      → ((found : ℕ × ℕ × Detail) → Contains numbers found → Contains all found) → (rs ss : List Report)
      → AllZip (IsReportedOfOne numbers Same) rs ss → AllZip (IsReportedOfOne all Same) rs ss
  wider Same numbers all more rs ss alike =
      zip_weaker (IsReportedOfOne numbers Same) (IsReportedOfOne all Same)
      (λ r s h. (h.0, more (r.number, s.number, h.0) h.1, h.2)) rs ss alike

  pub segments_reports : (past : List Step) (segments : List (List Event)) (run : List Step)
      (way : RecordsInSegments bound past segments run) → (added : List Report)
      × (verdicts_in run ≡ verdicts_in past ++ added)
      × AllZip (IsReportedOfOne (segment_numbers way) IsSameInDetail) (flat_map (verdicts_of bound) segments) added
  segments_reports past segments run no_segment = ([], sym (append-nil (verdicts_in past)), tt)
  segments_reports past segments run (one_more others first recorded before later quiet rest way) =
      let so_far = segments_reports past others before rest in
      let earlier = segment_numbers rest in
      let numbers = lean_numbers way in
      let last = lean_reports first before recorded later way in
      let own : verdicts_of bound recorded ≡ last.of_recording =
      last.recording_adds ∙ ap (λ rs. rs ++ last.of_recording) quiet in
      let pushed : flat_map (verdicts_of bound) (others ++ recorded ∷ [])
      ≡ flat_map (verdicts_of bound) others ++ last.of_recording =
      flat_map-append (verdicts_of bound) others (recorded ∷ [])
      ∙ ap (λ rs. flat_map (verdicts_of bound) others ++ rs) (append-nil (verdicts_of bound recorded) ∙ own) in (
        so_far.0 ++ last.of_run,
        last.run_adds ∙ ap (λ rs. rs ++ last.of_run) so_far.1 ∙ append_assoc (verdicts_in past) so_far.0 last.of_run,
        subst (λ rs. AllZip (IsReportedOfOne (earlier ++ numbers) IsSameInDetail) rs (so_far.0 ++ last.of_run))
            (sym pushed)
            (zip_append (IsReportedOfOne (earlier ++ numbers) IsSameInDetail) (flat_map (verdicts_of bound) others)
            last.of_recording so_far.0 last.of_run
            (wider IsSameInDetail earlier (earlier ++ numbers)
            (λ found has. Contains-append_left earlier numbers found has) _ _ so_far.2)
            (wider IsSameInDetail numbers (earlier ++ numbers)
            (λ found has. Contains-append_right earlier numbers found has) _ _ last.one_by_one)),
      )

  -- the faults of all segments
  faults_flat : (segments : List (List Event)) →
      map (λ (r : Report). r.fault) (flat_map (verdicts_of bound) segments) ≡ flat_map (faults_of bound) segments
  faults_flat [] = refl
  faults_flat (one ∷ segments) =
      map-append (λ r. r.fault) (verdicts_of bound one) (flat_map (verdicts_of bound) segments)
      ∙ ap (λ fs. faults_of bound one ++ fs) (faults_flat segments)

  segments_seen : (see : Fault → Fault) (past : List Step) (segments : List (List Event)) (run : List Step)
      (way : RecordsInSegments bound past segments run) → SeesAlike (segment_numbers way) see
      → map see (faults_in run) ≡ map see (faults_in past) ++ map see (flat_map (faults_of bound) segments)
  segments_seen see past segments run way sees =
      let reports = segments_reports past segments run way in
      ap (λ (rs : List Report). map see (map (λ r. r.fault) rs)) reports.1
      ∙ ap (map see) (map-append (λ r. r.fault) (verdicts_in past) reports.0)
      ∙ map-append see (faults_in past) (map (λ r. r.fault) reports.0)
      ∙ ap (λ fs. map see (faults_in past) ++ fs)
      (sym (seen_alike see (segment_numbers way) sees (flat_map (verdicts_of bound) segments) reports.0 reports.2)
      ∙ ap (map see) (faults_flat segments))

  pub segments_faults : (past : List Step) (segments : List (List Event)) (run : List Step)
      (way : RecordsInSegments bound past segments run) → FindAllBytes (segment_numbers way)
      → faults_in run ≡ faults_in past ++ flat_map (faults_of bound) segments
  segments_faults past segments run way all =
      sym (map_itself (faults_in run))
      ∙ segments_seen (λ f. f) past segments run way (same_if_all (segment_numbers way) all)
      ∙ ap (λ fs. fs ++ map (λ f. f) (flat_map (faults_of bound) segments)) (map_itself (faults_in past))
      ∙ ap (λ fs. faults_in past ++ fs) (map_itself (flat_map (faults_of bound) segments))

  pub segments_classes : (past : List Step) (segments : List (List Event)) (run : List Step)
      → RecordsInSegments bound past segments run →
      map without_class (faults_in run)
      ≡ map without_class (faults_in past) ++ map without_class (flat_map (faults_of bound) segments)
  segments_classes past segments run way =
      segments_seen without_class past segments run way (same_but_for_class (segment_numbers way))

-- ---- a full recording

module _ (bound : ℕ) (first past : List Event) (start : HaveSameBlocks bound first past) where
  blocks : (recorded run : List Event) → Records bound first past recorded run
      → HaveSameBlocks bound recorded run
  blocks recorded run way =
      let still = keeps bound first past [] start recorded run (none_cut bound past run) way in
      subst (λ cut. HaveBlocksBut bound cut recorded run) (none_left bound still.left still.part) still.blocks

  none_meets : (r : Region) (b : Extent) → Contains [] b → meets (block_of r) b ≡ false
  none_meets r b has = absurd (in_none b has)

  finds_block : (recorded run : List Event) → HaveSameBlocks bound recorded run → (e : Event) → is_of_block e ≡ true
      → FindsItsBlock bound recorded (with_quarantine bound run) e
  finds_block recorded run same (event.Malloc r) is =
      same_admits bound [] recorded run same r (none_meets r)
      ∙ sym (admits_same bound run (as_history bound run) (block_of r))
  finds_block recorded run same (event.Free p) is =
      let as_it_was = as_history bound run in record {
        live_there = same_any bound [] recorded run same p ∙ ap (list_any (starts_at p.at)) (sym as_it_was.live_is);
        held_there = λ none. ap (list_any (starts_at p.at)) (sym same.oldest_cut ∙ sym as_it_was.held_is);
      }
  finds_block recorded run same e is = absurd (false≢true is)

  finds_as_much : (detail : Detail) (recorded run : List Event) (a : Access) → Finds bound detail recorded run a
      → FindsInRun bound detail recorded (with_quarantine bound run) a
  finds_as_much detail recorded run a finds =
      subst (λ ms. ShowAsMuch detail (marks bound recorded) ms a) (sym (as_history bound run).marks_are) finds

  -- a lean recording of the run with a quarantine, with the same numbers
  abbrev IsLean : (recorded run : List Event) → Records bound first past recorded run → Type 0
  IsLean recorded run way =
      (leanly : RecordsLeanly bound first (with_quarantine bound past) recorded (with_quarantine bound run))
      × (lean_numbers leanly ≡ numbers_in_both way)

  -- one more event of the run
  next : (e : Event) (recorded run : List Event) (numbers : List (ℕ × ℕ × Detail))
      (way : RecordsLeanly bound first (with_quarantine bound past) recorded (Does e ∷ with_quarantine bound run))
      → lean_numbers way ≡ numbers →
      (leanly : RecordsLeanly bound first (with_quarantine bound past) recorded (with_quarantine bound (e ∷ run)))
      × (lean_numbers leanly ≡ numbers)
  next e recorded run numbers way are =
      let on = goes_on bound first (with_quarantine bound past) recorded run e way in (on.0, on.1 ∙ are)

  one_number : (run : List Event) (older numbers : List (ℕ × ℕ × Detail)) (m : ℕ) (detail : Detail)
      → older ≡ numbers → older ++ (m, length (events_of (with_quarantine bound run)) + 1, detail) ∷ []
      ≡ numbers ++ (m, length run + 1, detail) ∷ []
  one_number run older numbers m detail same = rw (same, events_are bound run) refl

  pub full_is_lean : (recorded run : List Event) (way : Records bound first past recorded run)
      → IsLean recorded run way
  full_is_lean recorded run full.begins = (lean.begins, refl)
  full_is_lean recorded run (full.block e t f is way) =
      let rest = full_is_lean t f way in
      next e (e ∷ t) f _ (lean.block e t (with_quarantine bound f) (finds_block t f (blocks t f way) e is) rest.0)
      (one_number f (lean_numbers rest.0) (numbers_in_both way) (length t + 1) shadow_bytes rest.1)
  full_is_lean recorded run (full.access detail is_store a t f finds way) =
      let rest = full_is_lean t f way in
      next (access_event is_store a) (access_event is_store a ∷ t) f _
      (lean.access detail is_store a t (with_quarantine bound f) (finds_as_much detail t f a finds) rest.0)
      (one_number f (lean_numbers rest.0) (numbers_in_both way) (length t + 1) detail rest.1)
  full_is_lean recorded run (full.leaves_out_access e t f is good way) =
      let rest = full_is_lean t f way in
      next e t f _ (lean.leaves_out_access e t (with_quarantine bound f) is (fault_is bound f e ∙ good) rest.0) rest.1
  full_is_lean recorded run (full.says_nothing e t f is good way) =
      let rest = full_is_lean t f way in
      (lean.says_nothing e t (with_quarantine bound f) is good rest.0, rest.1)
  full_is_lean recorded run (full.leaves_out_shade e t f is way) =
      let rest = full_is_lean t f way in
      next e t f _ (lean.leaves_out_shade e t (with_quarantine bound f) is rest.0) rest.1
  full_is_lean recorded run (full.states e t f is way) =
      let rest = full_is_lean t f way in
      (lean.states e t (with_quarantine bound f) is rest.0, rest.1)
