-- Worked values of the words of the laws, computed by the definitions.
use Rattle.std.proofs.Common.{◌≡◌, true, false, [], ◌∷◌, refl, arith}
use Rattle.std.specs.Prelude.{List, reverse}
use Rattle.std.proofs.lemmas.Bool.Decides.{nat_tests}
use Rattle.std.proofs.lemmas.List.Sorted.{IsPermutation-refl}
use Rattle.trace_record.specs.declared.event.Event.{Event}
use Rattle.trace_record.specs.declared.shade.Kind.TheVariants as kind
use Rattle.shadow_map.specs.States.{Block, lies_in}
use Rattle.asan_check.specs.declared.report.Class.TheVariants as class
use Rattle.asan_check.specs.declared.report.Fault.TheVariants as fault
use Rattle.asan_laws.specs.Laws.{since_malloc, since_free, IsPoisonedSince}
use Rattle.asan_laws.specs.Thinning.{faults_of, LeavesOut, ends, keeps, leaves_out}
use Rattle.asan_laws.specs.Snapshots.{lays_none, lays_held}
use Rattle.asan_laws.specs.Recording.{Records, shadow_bytes, addressable_bytes, numbers_in_both, IsSnapshotBut}
use Rattle.asan_laws.specs.Recording as recording
use Rattle.asan_laws.specs.LeanRecording.{RecordsLeanly, lean_numbers, RecordsInSegments, shadow_after}
use Rattle.asan_laws.specs.LeanRecording as lean
use Rattle.asan_laws.specs.Runs.{Step, Does, Releases, live_in, held_in, verdicts_in, faults_in, with_quarantine}
use Rattle.asan_check.proofs.Examples.{access as the_access}
use Rattle.asan_check.proofs.Examples.{load, store, malloc, free, packed, shade, poison, poison_of, usual}

-- ---- since when

-- a block that was handed out twice, and then asked for once more in vain: since the second malloc
since_the_malloc_that_was_admitted :
    since_malloc 71 (reverse ((malloc 0x1000 8 refl) ∷ (poison 0x1000 8 refl) ∷ (free 0x1000 refl)
    ∷ (malloc 0x1000 8 refl) ∷ (malloc 0x1000 8 refl) ∷ (load 0x1000 1 refl)
    ∷ [])) (record { at = 0x1000; size = 8 })
    ≡ (load 0x1000 1 refl) ∷ (malloc 0x1000 8 refl) ∷ []
since_the_malloc_that_was_admitted = refl

-- a block that was freed twice: since the first free
since_the_free_of_the_live_block :
    since_free usual (reverse ((malloc 0x1000 8 refl) ∷ (poison 0x1000 8 refl) ∷ (free 0x1000 refl)
    ∷ (poison 0x2000 8 refl) ∷ (free 0x1000 refl) ∷ [])) (record { at = 0x1000; size = 8 })
    ≡ (free 0x1000 refl) ∷ (poison 0x2000 8 refl) ∷ []
since_the_free_of_the_live_block = refl

-- a granule that was poisoned, and no byte of which a malloc elsewhere covers
poisoned_beside_a_block :
    IsPoisonedSince usual ((malloc 0x3000 8 refl) ∷ (poison_of kind.Stack 0x1004 12 refl) ∷ [])
    (shade 0x1004 (packed kind.Stack 12) refl) 0x201
poisoned_beside_a_block = record {
  before = [];
  since = malloc 0x3000 8 refl ∷ [];
  split = refl;
  whole = (omega arith, omega arith);
  laid = Block 0x3000 8 ∷ [];
  laid_since = refl;
  uncovered = (
    λ byte here. (let off : lies_in 0x2fe0 0x3028 byte ≡ false = grind (arith, nat_tests) in rw off refl),
    tt,
  );
}

-- ---- loads and stores that are left out

-- a bad store after a malloc, and its fault
abbrev bad_store : List Event
bad_store = (store 0x1004 4 refl) ∷ (malloc 0x1000 5 refl) ∷ []

fault_of_the_store :
    faults_of usual bad_store ≡ fault.Access true 4 0x1004 0x1005 class.HeapBufferOverflow 5 ∷ []
fault_of_the_store = refl

-- where it is left out its fault is lost, so a recorder leaves out good ones alone
without_the_store : LeavesOut ((malloc 0x1000 5 refl) ∷ []) bad_store
without_the_store = leaves_out (store 0x1004 4 refl) _ _ refl (keeps (malloc 0x1000 5 refl) _ _ ends)

fault_that_is_lost : faults_of usual ((malloc 0x1000 5 refl) ∷ []) ≡ []
fault_that_is_lost = refl

-- ---- a recording and its run

-- a run with a good load, a redzone on the stack that no access comes to, and a bad store
abbrev whole : List Event
whole =
    (store 0x1004 4 refl) ∷ (poison_of kind.Stack 0x2000 32 refl) ∷ (load 0x1000 1 refl) ∷ (malloc 0x1000 5 refl) ∷ []

-- what is recorded of it, with a load that says nothing
abbrev written : List Event
written = (store 0x1004 4 refl) ∷ (load 0 1 refl) ∷ (malloc 0x1000 5 refl) ∷ []

written_of_whole : Records usual [] [] written whole
written_of_whole =
    recording.access shadow_bytes true (the_access 0x1004 4 refl) _ _
    (record { here = refl; class_there = λ bad. refl })
    (recording.says_nothing (load 0 1 refl) _ _ refl refl
    (recording.leaves_out_shade (poison_of kind.Stack 0x2000 32 refl) _ _ refl
    (recording.leaves_out_access (load 0x1000 1 refl) _ _ refl refl
    (recording.block (malloc 0x1000 5 refl) _ _ refl recording.begins))))

-- the malloc is the first event of both, and the store the third of the one and the fourth of the other
numbers_of_written : numbers_in_both written_of_whole ≡ (1, 1, shadow_bytes) ∷ (3, 4, shadow_bytes) ∷ []
unfolding written_of_whole
numbers_of_written = refl

-- where the granule after a block's end has another state, the class of a bad store there is another
class_by_the_next_granule :
    faults_of usual ((store 0x1004 4 refl) ∷ (poison_of kind.Stack 0x1008 8 refl) ∷ (malloc 0x1000 5 refl) ∷ [])
    ≡ fault.Access true 4 0x1004 0x1005 class.StackBufferOverflow 5 ∷ []
class_by_the_next_granule = refl

-- where a free is left out, its fault is lost, so each is recorded
fault_after_the_free :
    faults_of usual ((load 0x1000 1 refl) ∷ (free 0x1000 refl) ∷ (malloc 0x1000 8 refl) ∷ [])
    ≡ fault.Access false 1 0x1000 0x1000 class.HeapUseAfterFree 0xfd ∷ []
fault_after_the_free = refl

fault_without_the_free : faults_of usual ((load 0x1000 1 refl) ∷ (malloc 0x1000 8 refl) ∷ []) ≡ []
fault_without_the_free = refl

-- ---- a segment that leaves out the oldest held block

-- two blocks that were freed, which is as many as this bound holds, and a snapshot of the newer one
abbrev two_held : List Event
two_held = (free 0x2000 refl) ∷ (malloc 0x2000 8 refl) ∷ (free 0x1000 refl) ∷ (malloc 0x1000 8 refl) ∷ []

abbrev newer_snapshot : List Event
newer_snapshot = (poison 0x3000 8 refl) ∷ (free 0x2000 refl) ∷ (malloc 0x2000 8 refl) ∷ []

older_is_cut : IsSnapshotBut 144 ((record { at = 0x1000; size = 8 }) ∷ []) newer_snapshot two_held
older_is_cut = record {
  lives = [];
  newest = (record { at = 0x2000; size = 8 }) ∷ [];
  lays_out = lays_held _ _ [] [] [] refl lays_none;
  same_live = IsPermutation-refl [];
  oldest_cut = refl;
}

-- a second free of the older one is no double free in the segment
freed_again_in_the_run : faults_of 144 ((free 0x1000 refl) ∷ two_held) ≡ fault.DoubleFree 0x1000 ∷ []
freed_again_in_the_run = refl

freed_again_in_the_segment : faults_of 144 ((free 0x1000 refl) ∷ newer_snapshot) ≡ fault.BadFree 0x1000 ∷ []
freed_again_in_the_segment = refl

-- and a malloc that meets it is bad in the run alone
met_in_the_run : faults_of 144 ((malloc 0x1000 8 refl) ∷ two_held) ≡ fault.BadMalloc 0x1000 8 ∷ []
met_in_the_run = refl

met_in_the_segment : faults_of 144 ((malloc 0x1000 8 refl) ∷ newer_snapshot) ≡ []
met_in_the_segment = refl

-- ---- a lean recording

-- a run with a block that is used after its free, and one with which nothing is wrong
abbrev lean_run : List Step
lean_run =
    Does (store 0x1004 1 refl) ∷ Does (load 0x2000 1 refl) ∷ Does (free 0x1000 refl) ∷ Does (malloc 0x2000 8 refl)
    ∷ Does (malloc 0x1000 5 refl) ∷ []

-- at the fault the freed block is stated, and then the store is recorded
abbrev lean_written : List Event
lean_written = (store 0x1004 1 refl) ∷ (free 0x1000 refl) ∷ (malloc 0x1000 5 refl) ∷ []

lean_written_of_run : RecordsLeanly usual [] [] lean_written lean_run
lean_written_of_run =
    lean.access shadow_bytes true (the_access 0x1004 1 refl) _ _ (record { here = refl; class_there = λ bad. refl })
    (lean.states_block (free 0x1000 refl) _ _ refl
    (lean.states_block (malloc 0x1000 5 refl) _ _ refl
    (lean.leaves_out_access (load 0x2000 1 refl) _ _ refl refl
    (lean.leaves_out_block (free 0x1000 refl) _ _ refl refl
    (lean.leaves_out_block (malloc 0x2000 8 refl) _ _ refl refl
    (lean.leaves_out_block (malloc 0x1000 5 refl) _ _ refl refl lean.begins))))))

-- the store is the third event of the one and the fifth of the other
numbers_of_lean_written : lean_numbers lean_written_of_run ≡ (3, 5, shadow_bytes) ∷ []
unfolding lean_written_of_run
numbers_of_lean_written = refl

-- a double free: the held block is stated, and then the second free is recorded
lean_double_free :
    RecordsLeanly usual [] []
    ((free 0x1000 refl) ∷ (free 0x1000 refl) ∷ (malloc 0x1000 8 refl) ∷ [])
    (Does (free 0x1000 refl) ∷ Releases 0x2000 ∷ Does (free 0x2000 refl) ∷ Does (free 0x1000 refl)
    ∷ Does (malloc 0x2000 8 refl) ∷ Does (malloc 0x1000 8 refl) ∷ [])
lean_double_free =
    lean.block (free 0x1000 refl) _ _ (record { live_there = refl; held_there = λ none. refl })
    (lean.releases 0x2000 _ _
    (lean.leaves_out_block (free 0x2000 refl) _ _ refl refl
    (lean.states_block (free 0x1000 refl) _ _ refl
    (lean.states_block (malloc 0x1000 8 refl) _ _ refl
    (lean.leaves_out_block (free 0x1000 refl) _ _ refl refl
    (lean.leaves_out_block (malloc 0x2000 8 refl) _ _ refl refl
    (lean.leaves_out_block (malloc 0x1000 8 refl) _ _ refl refl lean.begins)))))))

-- ---- a block that the run has released and the recording still holds

-- two frees, with a quarantine that holds one block: right after the second free the first block is released
quarantine_of_one :
    with_quarantine 80 ((free 0x2000 refl) ∷ (malloc 0x2000 8 refl) ∷ (free 0x1000 refl) ∷ (malloc 0x1000 8 refl) ∷ [])
    ≡ Releases 0x1000 ∷ Does (free 0x2000 refl) ∷ Does (malloc 0x2000 8 refl) ∷ Does (free 0x1000 refl)
    ∷ Does (malloc 0x1000 8 refl) ∷ []
quarantine_of_one = refl

-- the newest block may be released first, and the oldest never
released_in_any_order :
    held_in (Releases 0x2000 ∷ Does (free 0x2000 refl) ∷ Does (free 0x1000 refl) ∷ Does (malloc 0x2000 8 refl)
    ∷ Does (malloc 0x1000 8 refl) ∷ []) ≡ (record { at = 0x1000; size = 8 }) ∷ []
released_in_any_order = refl

-- where nothing is held, and where a block is live, a release is nothing
released_nothing :
    live_in (Releases 0x1000 ∷ Does (malloc 0x1000 8 refl) ∷ []) ≡ (record { at = 0x1000; size = 8 }) ∷ []
released_nothing = refl

-- a release is no event: the load after it is the third one
release_has_no_number :
    verdicts_in (Does (load 0x1000 1 refl) ∷ Releases 0x1000 ∷ Does (free 0x1000 refl) ∷ Does (malloc 0x1000 8 refl)
    ∷ []) ≡ (record {
      number = 3;
      fault = fault.Access false 1 0x1000 0x1000 class.HeapBufferOverflow 0xfa;
    }) ∷ []
release_has_no_number = refl

abbrev used_after_free : List Event
used_after_free = (load 0x1000 1 refl) ∷ (free 0x1000 refl) ∷ (malloc 0x1000 8 refl) ∷ []

abbrev used_after_release : List Step
used_after_release =
    Does (load 0x1000 1 refl) ∷ Releases 0x1000 ∷ Does (free 0x2000 refl) ∷ Does (malloc 0x2000 8 refl)
    ∷ Does (load 0x1000 1 refl) ∷ Does (free 0x1000 refl) ∷ Does (malloc 0x1000 8 refl) ∷ []

fault_in_the_run :
    faults_in used_after_release
    ≡ fault.Access false 1 0x1000 0x1000 class.HeapUseAfterFree 0xfd
    ∷ fault.Access false 1 0x1000 0x1000 class.HeapBufferOverflow 0xfa ∷ []
fault_in_the_run = refl

-- in a recording that has not seen the second one it would be another fault
fault_in_a_stale_recording :
    faults_of 80 ((load 0x1000 1 refl) ∷ used_after_free)
    ≡ fault.Access false 1 0x1000 0x1000 class.HeapUseAfterFree 0xfd
    ∷ fault.Access false 1 0x1000 0x1000 class.HeapUseAfterFree 0xfd ∷ []
fault_in_a_stale_recording = refl

-- nor can what was released be stated there: the block that is held is in the way
in_the_way :
    faults_of 80 ((malloc 0x1000 0 refl) ∷ (free 0x1000 refl) ∷ (malloc 0x1000 8 refl) ∷ [])
    ≡ fault.BadMalloc 0x1000 0 ∷ []
in_the_way = refl

-- so a new segment begins, with a block of no bytes whose redzone has the granule
in_two_segments :
    RecordsInSegments 80 [] (used_after_free ∷ ((load 0x1000 1 refl) ∷ (malloc 0x1000 0 refl) ∷ []) ∷ [])
    used_after_release
in_two_segments =
    lean.one_more _ [] _ _ _ refl
    (lean.one_more _ [] _ _ _ refl lean.no_segment
    (lean.access shadow_bytes false (the_access 0x1000 1 refl) _ _ (record { here = refl; class_there = λ bad. refl })
    (lean.states_block (free 0x1000 refl) _ _ refl
    (lean.leaves_out_block (free 0x1000 refl) _ _ refl refl
    (lean.states_block (malloc 0x1000 8 refl) _ _ refl
    (lean.leaves_out_block (malloc 0x1000 8 refl) _ _ refl refl lean.begins))))))
    (lean.access shadow_bytes false (the_access 0x1000 1 refl) _ _ (record { here = refl; class_there = λ bad. refl })
    (lean.states_block (malloc 0x1000 0 refl) _ _ refl
    (lean.releases 0x1000 _ _
    (lean.leaves_out_block (free 0x2000 refl) _ _ refl refl
    (lean.leaves_out_block (malloc 0x2000 8 refl) _ _ refl refl lean.begins)))))

-- ---- a bad free where a stale block stands

-- the free of a block that the recording has live is no fault there, though the run has freed and released it
free_in_the_run :
    faults_of 80 ((free 0x1000 refl) ∷ (free 0x2000 refl) ∷ (malloc 0x2000 8 refl) ∷ (free 0x1000 refl)
    ∷ (malloc 0x1000 8 refl) ∷ [])
    ≡ fault.BadFree 0x1000 ∷ []
free_in_the_run = refl

free_in_a_stale_recording : faults_of 80 ((free 0x1000 refl) ∷ (malloc 0x1000 8 refl) ∷ []) ≡ []
free_in_a_stale_recording = refl

-- a double free of a block that the recording does not hold is a bad one there
double_free_in_the_run :
    faults_of usual ((free 0x1000 refl) ∷ (free 0x1000 refl) ∷ (malloc 0x1000 8 refl) ∷ [])
    ≡ fault.DoubleFree 0x1000 ∷ []
double_free_in_the_run = refl

double_free_in_an_empty_book : faults_of usual ((free 0x1000 refl) ∷ []) ≡ fault.BadFree 0x1000 ∷ []
double_free_in_an_empty_book = refl

-- poison in a live block is not what the block leaves there
poison_in_a_block :
    shadow_after usual ((poison 0x1000 8 refl) ∷ (malloc 0x1000 8 refl) ∷ []) 0x200 ≡ 0xf7
poison_in_a_block = refl

-- what is stated of one granule alone leaves the class of an access there to the next one
class_of_what_was_not_stated :
    faults_of usual ((store 0x1004 4 refl) ∷ (poison 0x1005 3 refl) ∷ [])
    ≡ fault.Access true 4 0x1004 0x1005 class.UnknownCrash 5 ∷ []
class_of_what_was_not_stated = refl

-- a recording of two accesses of which the first finds only as many addressable bytes, since the block was not stated
-- yet: in it the class of that one is unknown, and that of the other one is the run's
in_two_details :
    RecordsLeanly usual [] []
    ((load 0x1008 1 refl) ∷ (malloc 0x1000 5 refl) ∷ (store 0x1004 4 refl) ∷ (poison 0x1005 3 refl) ∷ [])
    (Does (load 0x1008 1 refl) ∷ Does (store 0x1004 4 refl) ∷ Does (malloc 0x1000 5 refl) ∷ [])
in_two_details =
    lean.access shadow_bytes false (the_access 0x1008 1 refl) _ _ (record { here = refl; class_there = λ bad. refl })
    (lean.states_block (malloc 0x1000 5 refl) _ _ refl
    (lean.access addressable_bytes true (the_access 0x1004 4 refl) _ _ refl
    (lean.states (poison 0x1005 3 refl) _ _ refl
    (lean.leaves_out_block (malloc 0x1000 5 refl) _ _ refl refl lean.begins))))

numbers_in_two_details : lean_numbers in_two_details ≡ (2, 2, addressable_bytes) ∷ (4, 3, shadow_bytes) ∷ []
unfolding in_two_details
numbers_in_two_details = refl

faults_in_two_details :
    faults_of usual
    ((load 0x1008 1 refl) ∷ (malloc 0x1000 5 refl) ∷ (store 0x1004 4 refl) ∷ (poison 0x1005 3 refl) ∷ [])
    ≡ fault.Access true 4 0x1004 0x1005 class.UnknownCrash 5
    ∷ fault.Access false 1 0x1008 0x1008 class.HeapBufferOverflow 0xfa ∷ []
faults_in_two_details = refl

faults_in_their_run :
    faults_in (Does (load 0x1008 1 refl) ∷ Does (store 0x1004 4 refl) ∷ Does (malloc 0x1000 5 refl) ∷ [])
    ≡ fault.Access true 4 0x1004 0x1005 class.HeapBufferOverflow 5
    ∷ fault.Access false 1 0x1008 0x1008 class.HeapBufferOverflow 0xfa ∷ []
faults_in_their_run = refl
