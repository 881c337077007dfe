-- Outcomes and lists that the contracts refuse.
-- Each lemma is named for what would have gone wrong.
use Rattle.std.proofs.Common.{◌≡◌, inl, inr, ℕ, false, List, [], ◌∷◌, Some, refl, sym, ap, subst, ◌∙◌, arith}
use Rattle.std.specs.Prelude.{◌≢◌, ◌≤◌, IsTrue, length, Vec}
use Rattle.std.specs.Coded.{le_prop}
use Rattle.std.proofs.Math.Logic.{∥∥₁_elim}
use Rattle.std.proofs.lemmas.Bool.{false≢true}
use Rattle.trace_record.specs.declared.event.Event.{Event}
use Rattle.trace_record.specs.declared.end.End.{End}
use Rattle.trace_record.specs.declared.end.Fate.{Fate}
use Rattle.trace_record.specs.declared.end.Fate.TheVariants as fate
use Rattle.trace_feed.specs.Feeds.{FeedState}
use Rattle.asan_check.specs.declared.checker.Checker.{Checker}
use Rattle.asan_check.specs.declared.report.Fault.TheVariants as fault
use Rattle.asan_check.specs.declared.report.Report.{Report}
use Rattle.asan_check.specs.Standing.{Stands}
use Rattle.asan_check.proofs.Examples.{malloc, store, free, report, usual}
use Rattle.asan_check.proofs.Refuted.{differ, bad_access_is_passed_over}
use Rattle.asan_stream.specs.declared.item.Item.{Item}
use Rattle.asan_stream.specs.declared.item.Item.TheVariants as item
use Rattle.asan_stream.specs.declared.bench.Bench.{Bench}
use Rattle.asan_stream.specs.declared.bench.Turn.TheVariants as turn
use Rattle.asan_stream.specs.declared.outcome.Outcome.TheVariants as outcome
use Rattle.asan_stream.specs.Benches.{Takes, TakesNoMore, is_dry, is_over, taken_of}
use Rattle.asan_stream.specs.Checking.{StandsAfter}
use Rattle.asan_stream.specs.Items.{items_of}
use Rattle.asan_stream.specs.Outcomes.{IsSpelled, HasResults, is_read}

abbrev pub end_as : Fate → ℕ → ℕ → End
end_as fate events offset = record { fate = fate; events = events; offset = offset }

-- ---- ends

-- the stream is said to end without its close, and bytes of the feed are left
says_no_close_unread :
    (limit n offset byte : ℕ) (left : List ℕ) (before : FeedState) (events : List Event) →
    ¬ IsSpelled limit before (record { to_come = Some (byte ∷ left); faults = 0 }) events
    (end_as fate.NoClose n offset)
says_no_close_unread limit n offset byte left before events spelled =
    let none_left : byte ∷ left ≡ [] = spelled.no_more tt in absurd cc

-- the end is a failed read, and no read of the feed failed
says_read_failed_unread :
    (limit n offset : ℕ) (before after : FeedState) (events : List Event) → after.faults ≡ 0 →
    ¬ IsSpelled limit before after events (end_as fate.ReadFailed n offset)
says_read_failed_unread limit n offset before after events none spelled =
    let none_is_one : ◌≡◌ {A = ℕ} 0 1 = sym none ∙ spelled.faults_are in absurd (omega arith)

module _ {F A : Type 0} (feed : F) (end : End) (reports : Vec Report A) where
  -- the last of the decoded events is not checked
  decoded_event_is_dropped :
      reports.items ≡ [] →
      ¬ HasResults usual (malloc 0x1000 5 refl ∷ store 0x1004 4 refl ∷ []) feed end
      (outcome.Settled feed end reports)
  decoded_event_is_dropped none results = bad_access_is_passed_over (sym results.2 ∙ none)

  -- an event is checked twice
  event_is_stepped_again :
      reports.items ≡ report 1 (fault.BadFree 0x1000) ∷ report 2 (fault.BadFree 0x1000) ∷ [] →
      ¬ HasResults usual (free 0x1000 refl ∷ []) feed end (outcome.Settled feed end reports)
  event_is_stepped_again twice results = differ _ _ refl refl (sym results.2 ∙ twice)

  -- an event is checked that no byte of the stream spells
  event_after_the_end_is_stepped :
      reports.items ≡ report 1 (fault.BadFree 0x1000) ∷ [] →
      ¬ HasResults usual [] feed end (outcome.Settled feed end reports)
  event_after_the_end_is_stepped one results = differ _ _ refl refl (sym results.2 ∙ one)

  -- memory was refused to the malloc, and the free after it is checked in its place
  skips_event_after_refusal :
      reports.items ≡ report 1 (fault.BadFree 0x1000) ∷ [] →
      ¬ HasResults usual (malloc 0x1000 8 refl ∷ free 0x1000 refl ∷ []) feed end
      (outcome.NoMemory feed end 1 reports)
  skips_event_after_refusal one results = differ _ _ refl refl (sym results.3 ∙ one)

-- an end came, and the outcome says that none did
unsettled_where_an_end_came : (F A : Type 0) → ¬ IsTrue (is_read {F = F} {A = A} outcome.Unsettled)
unsettled_where_an_end_came F A read = absurd cc

-- ---- lists

-- an item is put once more after it was put
item_put_twice_after_retry :
    (e : Event) (end : End) → item.Event e ∷ item.Event e ∷ item.End end ∷ []
    ≢ items_of (e ∷ []) end
item_put_twice_after_retry e end same =
    let three_is_two : ◌≡◌ {A = ℕ} 3 2 = ap length same in absurd (omega arith)

-- an event is not put
event_is_not_put : (e : Event) (end : End) → item.End end ∷ [] ≢ items_of (e ∷ []) end
event_is_not_put e end same =
    let one_is_two : ◌≡◌ {A = ℕ} 1 2 = ap length same in absurd (omega arith)

-- an event is put after the end
puts_record_after_close :
    (e : Event) (end other : End) (events : List Event) → item.End end ∷ item.Event e ∷ []
    ≢ items_of events other
puts_record_after_close e end other [] same =
    let two_is_one : ◌≡◌ {A = ℕ} 2 1 = ap length same in absurd (omega arith)
puts_record_after_close e end other (first ∷ events) same = absurd cc

-- a turn takes two items
turn_takes_two : (x y : Item) → ¬ Takes turn.Took [] (x ∷ y ∷ [])
turn_takes_two x y took =
    let two_is_one : ◌≡◌ {A = ℕ} 2 1 = ap length took.1 in absurd (omega arith)

-- ---- benches

-- a bench takes an item after the end
takes_on_after_the_end :
    {A : Type 0} (before after : Bench A) (end : End) (x : Item) →
    taken_of before ≡ item.End end ∷ [] → taken_of after ≡ item.End end ∷ x ∷ [] →
    ¬ (IsTrue (is_over (taken_of before)) → taken_of after ≡ taken_of before)
takes_on_after_the_end before after end x was is over =
    let ended : IsTrue (is_over (taken_of before)) =
    subst (λ items. IsTrue (is_over items)) (sym was) refl in
    let same : item.End end ∷ x ∷ [] ≡ item.End end ∷ [] = sym is ∙ over ended ∙ was in
    let two_is_one : ◌≡◌ {A = ℕ} 2 1 = ap length same in absurd (omega arith)

-- a bench ends whose lane was not seen to be empty after it was seen to be left
ends_without_a_second_look :
    {A : Type 0} (b : Bench A) → taken_of b ≡ [] → is_dry b ≡ false → ¬ TakesNoMore b
ends_without_a_second_look b none wet (inl over) =
    let no : IsTrue false = subst (λ items. IsTrue (is_over items)) none over in absurd cc
ends_without_a_second_look b none wet (inr dry) = absurd (false≢true (sym wet ∙ dry))

module _ {A : Type 0} (c : Checker A) (bound : ℕ) (e : Event) where
  other_number_was_checked :
      (past : List Event) → length past ≢ 1 → Stands bound c past →
      ¬ StandsAfter c (item.Event e ∷ [])
  other_number_was_checked past other stands after =
      let wrong : 2 ≤ 1 = ∥∥₁_elim after le_prop (λ s. elim s [
        | inl one ↦ absurd (other (sym stands.count ∙ one.count))
        | inr failed ↦ absurd (false≢true (sym stands.running ∙ failed.failed))
      ])
      in absurd (omega arith)

  -- the only event of a batch is checked twice
  batch_is_checked_twice :
      Stands bound c (e ∷ e ∷ []) → ¬ StandsAfter c (item.Event e ∷ [])
  batch_is_checked_twice =
      other_number_was_checked (e ∷ e ∷ [])
      (λ same. let two_is_one : ◌≡◌ {A = ℕ} 2 1 = same in absurd (omega arith))

  -- the last event of a batch is not handed on
  last_event_is_not_handed_on : Stands bound c [] → ¬ StandsAfter c (item.Event e ∷ [])
  last_event_is_not_handed_on =
      other_number_was_checked []
      (λ same. let none_is_one : ◌≡◌ {A = ℕ} 0 1 = same in absurd (omega arith))
