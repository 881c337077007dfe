-- Reports that no checker may give on worked histories.
-- Each lemma is named for what would have gone wrong.
use Rattle.std.proofs.Common.{◌≡◌, ℕ, ◌^◌, ◌≤◌, Bool, true, false, List, [], ◌∷◌, ◌++◌, length, refl}
use Rattle.std.proofs.Common.{sym, ap, ◌∙◌, arith}
use Rattle.std.specs.Prelude.{◌≢◌, ◌&&◌, ◌==◌}
use Rattle.std.proofs.lemmas.Bool.{false≢true}
use Rattle.asan_check.specs.declared.report.Class.{Class}
use Rattle.asan_check.specs.declared.report.Class.TheVariants as class
use Rattle.asan_check.specs.declared.report.Fault.{Fault}
use Rattle.asan_check.specs.declared.report.Fault.TheVariants as fault
use Rattle.asan_check.specs.declared.report.Report.{Report}
use Rattle.asan_check.specs.declared.checker.Checker.{Checker}
use Rattle.asan_check.specs.Standing.{bound_of, report_room, reports_of}
use Rattle.asan_check.specs.Verdicts.{verdicts}
use Rattle.asan_check.specs.Traces as trace
use Rattle.trace_record.specs.declared.event.Event.TheVariants as event
use Rattle.trace_record.specs.declared.shade.Kind.TheVariants as kind
use Rattle.asan_check.proofs.Examples.{load, store, malloc, poison, poison_of, free, report, usual}

-- ---- reports as numbers, which are easily compared

abbrev number_of : Class → ℕ
number_of class.HeapBufferOverflow = 1
number_of class.HeapUseAfterFree = 2
number_of class.UseAfterPoison = 3
number_of class.UnknownCrash = 4
number_of class.StackBufferOverflow = 5
number_of class.GlobalBufferOverflow = 6

abbrev numbers : Fault → List ℕ
numbers (fault.Access true width at bad class shadow) =
    1 ∷ width ∷ at ∷ bad ∷ number_of class ∷ shadow ∷ []
numbers (fault.Access false width at bad class shadow) =
    2 ∷ width ∷ at ∷ bad ∷ number_of class ∷ shadow ∷ []
numbers (fault.DoubleFree at) = 3 ∷ at ∷ []
numbers (fault.BadFree at) = 4 ∷ at ∷ []
numbers (fault.BadMalloc at size) = 5 ∷ at ∷ size ∷ []

abbrev all_numbers : List Report → List ℕ
all_numbers [] = []
all_numbers (r ∷ reports) = r.number ∷ numbers r.fault ++ all_numbers reports

abbrev same : List ℕ → List ℕ → Bool
same [] [] = true
same [] (n ∷ ns) = false
same (n ∷ ns) [] = false
same (m ∷ ms) (n ∷ ns) = m == n && same ms ns

abbrev alike : List Report → List Report → Bool
alike reports others = same (all_numbers reports) (all_numbers others)

pub differ :
    (reports others : List Report) →
    alike reports reports ≡ true → alike reports others ≡ false → reports ≢ others
differ reports others own apart is = false≢true (sym apart ∙ ap (alike reports) (sym is) ∙ own)

-- ---- accesses

-- a store is reported as a load
store_reported_as_load :
    verdicts usual (malloc 0x1000 5 refl ∷ store 0x1004 4 refl ∷ [])
    ≢ report 2 (fault.Access false 4 0x1004 0x1005 class.HeapBufferOverflow 5) ∷ []
store_reported_as_load = differ _ _ refl refl

-- the first byte of an access is given for the bad one
access_for_the_bad_byte :
    verdicts usual (malloc 0x1000 5 refl ∷ store 0x1004 4 refl ∷ [])
    ≢ report 2 (fault.Access true 4 0x1004 0x1004 class.HeapBufferOverflow 5) ∷ []
access_for_the_bad_byte = differ _ _ refl refl

-- the shadow byte is that of the next granule
shadow_of_next_granule :
    verdicts usual (malloc 0x1000 5 refl ∷ store 0x1004 4 refl ∷ [])
    ≢ report 2 (fault.Access true 4 0x1004 0x1005 class.HeapBufferOverflow 0xfa) ∷ []
shadow_of_next_granule = differ _ _ refl refl

-- the class is that of the next granule, where the access's own has no addressable byte
class_of_next_granule_always :
    verdicts usual (malloc 0x1000 8 refl ∷ free 0x1000 refl ∷ load 0x1000 1 refl ∷ [])
    ≢ report 3 (fault.Access false 1 0x1000 0x1000 class.HeapBufferOverflow 0xfd) ∷ []
class_of_next_granule_always = differ _ _ refl refl

-- events count from 0
number_is_one_less :
    verdicts usual (malloc 0x1000 5 refl ∷ store 0x1004 4 refl ∷ [])
    ≢ report 1 (fault.Access true 4 0x1004 0x1005 class.HeapBufferOverflow 5) ∷ []
number_is_one_less = differ _ _ refl refl

-- a bad access is passed over where its first byte is addressable
pub bad_access_is_passed_over :
    verdicts usual (malloc 0x1000 5 refl ∷ store 0x1004 4 refl ∷ []) ≢ []
bad_access_is_passed_over = differ _ _ refl refl

-- a fault that comes again is reported once
same_fault_is_reported_once :
    verdicts usual
    (load 0x1000 1 refl ∷ poison 0x1000 8 refl ∷ load 0x1000 1 refl ∷ load 0x1000 1 refl ∷ [])
    ≢ report 3 (fault.Access false 1 0x1000 0x1000 class.UseAfterPoison 0xf7) ∷ []
same_fault_is_reported_once = differ _ _ refl refl

-- nothing is checked after the first report
halts_at_the_first_report :
    verdicts usual (malloc 0x1000 5 refl ∷ store 0x1005 1 refl ∷ free 0x2000 refl ∷ [])
    ≢ report 2 (fault.Access true 1 0x1005 0x1005 class.HeapBufferOverflow 5) ∷ []
halts_at_the_first_report = differ _ _ refl refl

-- ---- blocks

-- an admitted block gets no redzones
admitted_block_is_not_marked :
    verdicts usual (malloc 0x1000 8 refl ∷ load 0x1008 1 refl ∷ []) ≢ []
admitted_block_is_not_marked = differ _ _ refl refl

-- the bytes after a block in its last granule stay addressable
last_granule_stays_addressable :
    verdicts usual (malloc 0x1000 5 refl ∷ load 0x1005 1 refl ∷ []) ≢ []
last_granule_stays_addressable = differ _ _ refl refl

-- a malloc that is refused is no fault
refused_malloc_is_passed_over :
    verdicts usual (malloc 0x1000 8 refl ∷ malloc 0x1000 8 refl ∷ []) ≢ []
refused_malloc_is_passed_over = differ _ _ refl refl

-- a malloc is admitted into the span of a block in quarantine
malloc_is_admitted_into_a_held_span :
    verdicts usual (malloc 0x1000 8 refl ∷ free 0x1000 refl ∷ malloc 0x1008 8 refl ∷ []) ≢ []
malloc_is_admitted_into_a_held_span = differ _ _ refl refl

-- ---- frees

-- freed bytes stay addressable
freed_bytes_stay_addressable :
    verdicts usual (malloc 0x1000 8 refl ∷ free 0x1000 refl ∷ load 0x1000 1 refl ∷ []) ≢ []
freed_bytes_stay_addressable = differ _ _ refl refl

-- freed memory is reported as poison
freed_memory_reported_as_poison :
    verdicts usual (malloc 0x1000 8 refl ∷ free 0x1000 refl ∷ load 0x1000 1 refl ∷ [])
    ≢ report 3 (fault.Access false 1 0x1000 0x1000 class.UseAfterPoison 0xfd) ∷ []
freed_memory_reported_as_poison = differ _ _ refl refl

-- a free marks the block's redzones as freed too
free_marks_the_whole_span :
    verdicts usual (malloc 0x1000 8 refl ∷ free 0x1000 refl ∷ load 0xfff 1 refl ∷ [])
    ≢ report 3 (fault.Access false 1 0xfff 0xfff class.HeapUseAfterFree 0xfd) ∷ []
free_marks_the_whole_span = differ _ _ refl refl

-- a second free is reported as a free of no block
double_free_reported_as_bad_free :
    verdicts usual (malloc 0x1000 8 refl ∷ free 0x1000 refl ∷ free 0x1000 refl ∷ [])
    ≢ report 3 (fault.BadFree 0x1000) ∷ []
double_free_reported_as_bad_free = differ _ _ refl refl

-- a free inside a block in quarantine is reported as a double free
free_inside_reported_as_double_free :
    verdicts usual (malloc 0x1000 8 refl ∷ free 0x1000 refl ∷ free 0x1004 refl ∷ [])
    ≢ report 3 (fault.DoubleFree 0x1004) ∷ []
free_inside_reported_as_double_free = differ _ _ refl refl

-- ---- releases

-- the block that was freed last is released first
releases_newest_first :
    verdicts 72
    (malloc 0x1000 8 refl ∷ malloc 0x2000 8 refl ∷ free 0x1000 refl ∷ free 0x2000 refl
    ∷ load 0x1000 1 refl ∷ [])
    ≢ report 5 (fault.Access false 1 0x1000 0x1000 class.HeapUseAfterFree 0xfd) ∷ []
releases_newest_first = differ _ _ refl refl

-- the span of a released block becomes addressable
released_becomes_addressable :
    verdicts 71 (malloc 0x1000 8 refl ∷ free 0x1000 refl ∷ load 0x1000 1 refl ∷ []) ≢ []
released_becomes_addressable = differ _ _ refl refl

-- a released span is marked only at the next event, after that event's malloc was marked there
released_span_marked_late :
    verdicts 71
    (malloc 0x1000 8 refl ∷ free 0x1000 refl ∷ malloc 0x1000 8 refl ∷ load 0x1000 1 refl ∷ [])
    ≢ report 4 (fault.Access false 1 0x1000 0x1000 class.HeapBufferOverflow 0xfa) ∷ []
released_span_marked_late = differ _ _ refl refl

-- a block that is released at once is marked as freed after its release
releases_before_the_freed_mark :
    verdicts 71 (malloc 0x1000 8 refl ∷ free 0x1000 refl ∷ load 0x1000 1 refl ∷ [])
    ≢ report 3 (fault.Access false 1 0x1000 0x1000 class.HeapUseAfterFree 0xfd) ∷ []
releases_before_the_freed_mark = differ _ _ refl refl

-- ---- poison

-- a poison makes memory addressable
poison_unpoisons :
    verdicts usual (poison 0x1000 8 refl ∷ load 0x1000 1 refl ∷ []) ≢ []
poison_unpoisons = differ _ _ refl refl

-- a poison of a granule's middle poisons the whole granule
poison_takes_whole_granule :
    verdicts usual (malloc 0x1000 8 refl ∷ poison 0x1002 3 refl ∷ load 0x1003 1 refl ∷ [])
    ≢ report 3 (fault.Access false 1 0x1003 0x1003 class.UseAfterPoison 0xf7) ∷ []
poison_takes_whole_granule = differ _ _ refl refl

-- a stack redzone is reported as poison of the user
stack_redzone_reported_as_user_poison :
    verdicts usual (poison_of kind.Stack 0x1000 8 refl ∷ load 0x1000 1 refl ∷ [])
    ≢ report 2 (fault.Access false 1 0x1000 0x1000 class.UseAfterPoison 0xf7) ∷ []
stack_redzone_reported_as_user_poison = differ _ _ refl refl

-- its class is that of poison of the user
stack_redzone_has_the_users_class :
    verdicts usual (poison_of kind.Stack 0x1000 8 refl ∷ load 0x1000 1 refl ∷ [])
    ≢ report 2 (fault.Access false 1 0x1000 0x1000 class.UseAfterPoison 0xf2) ∷ []
stack_redzone_has_the_users_class = differ _ _ refl refl

-- its shadow byte is that of poison of the user
stack_redzone_has_the_users_code :
    verdicts usual (poison_of kind.Stack 0x1000 8 refl ∷ load 0x1000 1 refl ∷ [])
    ≢ report 2 (fault.Access false 1 0x1000 0x1000 class.StackBufferOverflow 0xf7) ∷ []
stack_redzone_has_the_users_code = differ _ _ refl refl

-- kinds 1 and 2 are exchanged
kinds_are_exchanged :
    verdicts usual (poison_of kind.Stack 0x1000 8 refl ∷ load 0x1000 1 refl ∷ [])
    ≢ report 2 (fault.Access false 1 0x1000 0x1000 class.GlobalBufferOverflow 0xf9) ∷ []
kinds_are_exchanged = differ _ _ refl refl

-- poison of another kind leaves a granule its kind
poison_keeps_the_first_kind :
    verdicts usual
    (poison_of kind.Stack 0x1000 8 refl ∷ poison_of kind.Global 0x1000 8 refl
    ∷ load 0x1000 1 refl ∷ [])
    ≢ report 3 (fault.Access false 1 0x1000 0x1000 class.StackBufferOverflow 0xf2) ∷ []
poison_keeps_the_first_kind = differ _ _ refl refl

-- ---- histories that begin anew

-- a block stays freed
freed_block_stays_freed :
    trace.verdicts usual (malloc 0x1000 8 refl ∷ free 0x1000 refl ∷ event.Anew ∷ load 0x1000 1 refl ∷ [])
    ≢ report 4 (fault.Access false 1 0x1000 0x1000 class.HeapUseAfterFree 0xfd) ∷ []
freed_block_stays_freed = differ _ _ refl refl

-- a block stays in the way of another
block_stays_in_the_way :
    trace.verdicts usual (malloc 0x1000 8 refl ∷ event.Anew ∷ malloc 0x1000 16 refl ∷ [])
    ≢ report 3 (fault.BadMalloc 0x1000 16) ∷ []
block_stays_in_the_way = differ _ _ refl refl

-- the numbers of the events begin anew, too
numbers_begin_anew :
    trace.verdicts usual (load 0x1000 1 refl ∷ event.Anew ∷ free 0x1000 refl ∷ [])
    ≢ report 1 (fault.BadFree 0x1000) ∷ []
numbers_begin_anew = differ _ _ refl refl

-- the reports before it are dropped
earlier_reports_are_dropped :
    trace.verdicts usual (free 0x1000 refl ∷ event.Anew ∷ free 0x1000 refl ∷ [])
    ≢ report 3 (fault.BadFree 0x1000) ∷ []
earlier_reports_are_dropped = differ _ _ refl refl

-- ---- checkers, once a step has failed or not

module _ {A : Type 0} (before after : Checker A) where
  -- a step halves the bound of the quarantine
  step_halves_the_bound :
      bound_of before ≡ 2 ^ 28 → bound_of after ≡ 2 ^ 27 → ¬ (bound_of after ≡ bound_of before)
  step_halves_the_bound was is same =
      let halved : ◌≡◌ {A = ℕ} (2 ^ 27) (2 ^ 28) = sym is ∙ same ∙ was in absurd (omega arith)

  -- a report is refused memory though there is room for another ten
  report_is_refused_with_room :
      report_room before ≡ 16_394 → length (reports_of before) ≡ 16_384 →
      ¬ (report_room before ≤ length (reports_of before))
  report_is_refused_with_room room many full = absurd (omega arith)
