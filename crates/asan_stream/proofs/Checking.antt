-- What more items do to where a checker stands after the items of a lane.
use Rattle.std.proofs.Common.{◌≡◌, ℕ, ◌-◌, ◌<◌, ◌≤◌, List, [], ◌∷◌, ◌++◌, length, take, drop, Option, Result}
use Rattle.std.proofs.Common.{Ok, Err, refl, sym, ap, subst, ◌∙◌, inl, inr, arith, true}
use Rattle.std.specs.Prelude.{IfOk, OnErr, IsErr, reverse, option_to_list}
use Rattle.std.specs.Coded.{Coded-set, coded_list, le_prop}
use Rattle.std.proofs.Math.Logic.{∥∥₁_map, ∥∥₁_elim}
use Rattle.std.proofs.lemmas.List.{length-reverse, length-drop, take_all, take-append-le, length-take-le, append-nil}
use Rattle.std.proofs.lemmas.List.{reverse-append}
use Rattle.std.proofs.lemmas.Bool.{cases_lt, false≢true}
use Rattle.trace_record.specs.declared.event.Event.{Event}
use Rattle.trace_record.specs.declared.end.End.{End}
use Rattle.asan_check.specs.declared.checker.Checker.{Checker}
use Rattle.asan_check.specs.declared.checker.Failed.{Failed}
use Rattle.asan_check.specs.declared.report.Report.{Report}
use Rattle.asan_check.specs.contracts.report.Report as report
use Rattle.asan_check.specs.Traces.{verdict, verdicts}
use Rattle.asan_check.specs.Standing.{Stands, StandsOrFailed, checked_of, reports_of, has_failed, bound_of}
use Rattle.asan_stream.specs.declared.item.Item.{Item}
use Rattle.asan_stream.specs.declared.item.Item.TheVariants as item
use Rattle.asan_stream.specs.Items.{items_of, events_of, has_end}
use Rattle.asan_stream.specs.Ranges.{most_events}
use Rattle.asan_stream.specs.Checking.{StandsAfter, HasChecked}
use Rattle.asan_stream.specs.Outboxes.{IsFront}
use Rattle.asan_stream.proofs.Stepping.{reports_short, reports_whole}
use Rattle.asan_stream.proofs.Consequences.{few_of}

pub events_of-event : (items : List Item) (e : Event)
    → events_of (items ++ item.Event e ∷ []) ≡ events_of items ++ e ∷ []
events_of-event [] e = refl
events_of-event (item.Event first ∷ items) e = ap (λ events. first ∷ events) (events_of-event items e)
events_of-event (item.End end ∷ items) e = events_of-event items e

pub events_of-end : (items : List Item) (end : End) → events_of (items ++ item.End end ∷ []) ≡ events_of items
events_of-end [] end = refl
events_of-end (item.Event first ∷ items) end = ap (λ events. first ∷ events) (events_of-end items end)
events_of-end (item.End other ∷ items) end = events_of-end items end

pub events_of-items : (events : List Event) (end : End) → events_of (items_of events end) ≡ events
events_of-items [] end = refl
events_of-items (e ∷ events) end = ap (λ more. e ∷ more) (events_of-items events end)

pub has_end-event : (items : List Item) (e : Event) → has_end (items ++ item.Event e ∷ []) ≡ has_end items
has_end-event [] e = refl
has_end-event (item.Event first ∷ items) e = has_end-event items e
has_end-event (item.End end ∷ items) e = refl

pub has_end-end : (items : List Item) (end : End) → has_end (items ++ item.End end ∷ []) ≡ true
has_end-end [] end = refl
has_end-end (item.Event first ∷ items) end = has_end-end items end
has_end-end (item.End other ∷ items) end = refl

pub events_of-append : (items more : List Item) → events_of (items ++ more) ≡ events_of items ++ events_of more
events_of-append [] more = refl
events_of-append (item.Event first ∷ items) more = ap (λ events. first ∷ events) (events_of-append items more)
events_of-append (item.End end ∷ items) more = events_of-append items more

-- two lists of reports are equal in at most one way
reports-prop : (xs ys : List Report) → IsProp (xs ≡ ys)
reports-prop xs ys = Coded-set (coded_list (report.the_row).coded) xs ys

-- how many of the first 2^24 there are
few_first : (events : List Event) → length (take most_events events) ≤ most_events
few_first events = elim (cases_lt (length events) most_events) [
  | inl short ↦ omega (arith, ap length (take_all most_events events (omega arith)))
  | inr long ↦ omega (arith, length-take-le most_events events long)
]

-- what begins a list still begins it where more follows
pub begins_more : (first some rest : List Report) → take (length first) some ≡ first
    → take (length first) (some ++ rest) ≡ first
begins_more first some rest begins =
    let within : length first ≤ length some = elim (cases_lt (length some) (length first)) [
      | inl short ↦ absurd (let whole = ap length (take_all (length first) some (omega arith)) in
          let same = ap length begins in omega arith)
      | inr long ↦ long
    ] in
    take-append-le (length first) some rest within ∙ begins

module _ {A : Type 0} where
  -- a step adds to the reports at the end
  pub grown : (bound : ℕ) (c new : Checker A) (r : Result (Option Report) Failed) (e : Event) (past : List Event)
      → IfOk r (λ report. (b : ℕ) (p : List Event) → Stands b c p → (report ≡ verdict b p e) × Stands b new (e ∷ p))
      → OnErr r ((has_failed new ≡ true) × (checked_of new ≡ checked_of c) × (reports_of new ≡ reports_of c))
      → (has_failed c ≡ true → IsErr r × (new ≡ c))
      → StandsOrFailed bound c past → (rest : List Report) × (reports_of new ≡ reports_of c ++ rest)
  grown bound c new (Ok x) e past ok kept stays (inl s) = (
    option_to_list (verdict bound past e),
    (ok bound past s).1.reports
        ∙ ap (λ rs. rs ++ option_to_list (verdict bound past e)) (sym s.reports),
  )
  grown bound c new (Ok x) e past ok kept stays (inr f) = absurd (false≢true (stays f.failed).0)
  grown bound c new (Err x) e past ok kept stays s = ([], kept.2 ∙ sym (append-nil (reports_of c)))

  -- a batch adds to the reports at the end
  pub front_batch : (c new : Checker A) (items : List Item)
      → ((bound : ℕ) (past : List Event) → StandsOrFailed bound c past → IsFront (reports_of c) (reports_of new))
      → StandsAfter c items → IsFront (reports_of c) (reports_of new)
  front_batch c new items front stands =
      ∥∥₁_elim stands (reports-prop (take (length (reports_of c)) (reports_of new)) (reports_of c))
      (λ s. front (bound_of c) (reverse (events_of items)) s)

  -- what a checker has that was handed a whole stream
  pub stream_seen : (first c : Checker A) (n : ℕ) (items : List Item) (events : List Event) (end : End)
      → HasChecked first n c items → items ≡ items_of events end → length events ≤ most_events
      → (n ≡ length events) × ∥ StandsOrFailed (bound_of first) c (reverse events) ∥₁
  stream_seen first c n items events end seen are few =
      let all : take most_events (events_of items) ≡ events =
      ap (take most_events) (ap events_of are ∙ events_of-items events end) ∙ take_all most_events events few in
      (seen.count ∙ ap length all, subst (λ es. ∥ StandsOrFailed (bound_of first) c (reverse es) ∥₁) all seen.stands)

  pub whole_stream : (bound : ℕ) (c : Checker A) (events : List Event) → ∥ StandsOrFailed bound c (reverse events) ∥₁
      → (checked_of c < length events → ⊥) → reports_of c ≡ verdicts bound events
  whole_stream bound c events stands none = ∥∥₁_elim stands (reports-prop (reports_of c) (verdicts bound events))
      (λ s. reports_whole bound c events s none)

  pub first_of_stream : (bound : ℕ) (c : Checker A) (events : List Event) → ∥ StandsOrFailed bound c (reverse events) ∥₁
      → checked_of c < length events → reports_of c ≡ verdicts bound (take (checked_of c) events)
  first_of_stream bound c events stands some =
      ∥∥₁_elim stands (reports-prop (reports_of c) (verdicts bound (take (checked_of c) events)))
      (λ s. reports_short bound c events s some)

  few_reported : (bound : ℕ) (c : Checker A) (past : List Event) → StandsOrFailed bound c past
      → length (reports_of c) ≤ length past
  few_reported bound c past (inl s) = rw s.reports (few_of bound past)
  few_reported bound c past (inr f) = let few = few_of bound (drop (length past - checked_of c) past) in
      rw f.reports (omega (arith, length-drop (length past - checked_of c) past))

  pub few_seen : (first c : Checker A) (n : ℕ) (items : List Item) → HasChecked first n c items
      → length (reports_of c) ≤ most_events
  few_seen first c n items seen = ∥∥₁_elim seen.stands le_prop (λ s.
      let few = few_reported (bound_of first) c (reverse (take most_events (events_of items))) s in
      let most = few_first (events_of items) in
      omega (arith, length-reverse (take most_events (events_of items))))

  -- a bench whose lane gave more items, whose events its checker was handed
  pub stands_batch : (old new : Checker A) (items more : List Item) (events : List Event) → events ≡ events_of more
      → ((bound : ℕ) (past : List Event) → StandsOrFailed bound old past
      → StandsOrFailed bound new (reverse events ++ past))
      → bound_of new ≡ bound_of old → StandsAfter old items → StandsAfter new (items ++ more)
  stands_batch old new items more events are handed same stands =
      let all : reverse (events_of (items ++ more)) ≡ reverse events ++ reverse (events_of items) =
      ap reverse (events_of-append items more ∙ ap (λ es. events_of items ++ es) (sym are))
      ∙ reverse-append (events_of items) events in
      subst (λ b. ∥ StandsOrFailed b new (reverse (events_of (items ++ more))) ∥₁) (sym same)
      (subst (λ es. ∥ StandsOrFailed (bound_of old) new es ∥₁) (sym all)
      (∥∥₁_map stands (λ s. handed (bound_of old) (reverse (events_of items)) s)))
