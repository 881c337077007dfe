-- Events in their order, oldest first, against histories, which have the newest first.
use Rattle.std.proofs.Common.{◌≡◌, ℕ, ◌<◌, List, [], ◌∷◌, ◌++◌, Option, Some, None, refl}
use Rattle.std.proofs.Common.{sym, ap, subst, ◌∙◌, arith, inl, inr, append_assoc}
use Rattle.std.specs.Prelude.{◌↔◌, ◌&&◌, nat_lt, max, IsTrue, Contains, reverse, option_to_list}
use Rattle.std.proofs.lemmas.Bool.Decides.{nat_tests}
use Rattle.std.proofs.lemmas.List.Elements.{Contains-append_left, Contains-append_right, Contains-append_cases}
use Rattle.std.proofs.lemmas.List.{reverse-append, reverse-reverse}
use Rattle.trace_record.specs.declared.event.Event.{Event}
use Rattle.asan_check.specs.declared.report.Report.{Report}
use Rattle.heap_book.specs.Spans.{Extent, span_from, span_to, meets}
use Rattle.asan_check.specs.Verdicts.{verdict, verdicts_of, verdicts}
use Rattle.asan_laws.specs.Laws.{SharesByte, IsReportedAmong}
use Rattle.asan_check.proofs.Members.{in_head, in_none, cons_cases}
use Rattle.asan_check.proofs.Order.{verdicts_begin}

-- the history of an event and of the events before and after it
pub around : (before after : List Event) (e : Event)
    → reverse (before ++ e ∷ after) ≡ reverse after ++ e ∷ reverse before
around before after e =
    reverse-append before (e ∷ after)
    ∙ (ap (λ l. l ++ reverse before) (reverse-append (e ∷ []) after)
    ∙ append_assoc (reverse after) (e ∷ []) (reverse before))

-- the verdict on an event stands between those on the events before it and those on the events after it
pub each_in_place : (bound : ℕ) (before after : List Event) (event : Event) → (later : List Report)
    × (verdicts bound (before ++ event ∷ after)
    ≡ (verdicts bound before ++ option_to_list (verdict bound (reverse before) event)) ++ later)
each_in_place bound before after event =
    let rest = verdicts_begin bound (reverse after) (event ∷ reverse before) in
    (rest.0, ap (verdicts_of bound) (around before after event) ∙ rest.1)

-- a report on a history is the verdict on one of its events
module _ (bound : ℕ) where
  in_one : (verdict_on : Option Report) (report : Report) → Contains (option_to_list verdict_on) report
      → verdict_on ≡ Some report
  in_one None report has = absurd (in_none report has)
  in_one (Some one) report has = elim (cons_cases report one [] has) [
    | inl same ↦ ap Some same
    | inr rest ↦ absurd (in_none report rest)
  ]

  pub found_among : (past : List Event) (report : Report) → Contains (verdicts_of bound past) report →
      (later : List Event) × (event : Event) × (before : List Event)
      × (past ≡ later ++ event ∷ before) × (verdict bound before event ≡ Some report)
  found_among [] report has = absurd (in_none report has)
  found_among (e ∷ past) report has =
      elim (Contains-append_cases (verdicts_of bound past) (option_to_list (verdict bound past e)) report has) [
        | inl older ↦ let found = found_among past report older in
            (e ∷ found.0, found.1, found.2, ap (λ es. e ∷ es) found.3, found.4)
        | inr here ↦ ([], e, past, refl, in_one (verdict bound past e) report here)
      ]

  pub reported_among : (events : List Event) (report : Report)
      → Contains (verdicts bound events) report ↔ IsReportedAmong bound events report
  reported_among events report = (
    λ has.
        let found = found_among (reverse events) report has in
        let again : reverse (reverse found.2) ≡ found.2 = reverse-reverse found.2 in
        record {
          before = reverse found.2;
          event = found.1;
          after = reverse found.0;
          split = sym (reverse-reverse events) ∙ ap reverse found.3 ∙ reverse-append found.0 (found.1 ∷ found.2)
              ∙ ap (λ es. es ++ reverse found.0) (reverse-append (found.1 ∷ []) found.2)
              ∙ append_assoc (reverse found.2) (found.1 ∷ []) (reverse found.0);
          is_verdict = ap (λ past. verdict bound past found.1) again ∙ found.4;
        },
    λ among.
        let placed = each_in_place bound among.before among.after among.event in
        let one : Contains (option_to_list (verdict bound (reverse among.before) among.event)) report =
        rw among.is_verdict (in_head report []) in
        subst (λ es. Contains (verdicts bound es) report) (sym among.split)
        (rw placed.1 (Contains-append_left (verdicts bound among.before
        ++ option_to_list (verdict bound (reverse among.before) among.event)) placed.0 report
        (Contains-append_right (verdicts bound among.before)
        (option_to_list (verdict bound (reverse among.before) among.event)) report one))),
  )

-- blocks meet at the first byte of the span that starts last
pub meet_where_shared : (one other : Extent) → IsTrue (meets one other) ↔ SharesByte one other
meet_where_shared one other = (
  λ meet.
      let parts : (span_from one < span_to other) × (span_from other < span_to one) =
      both (span_from one) (span_to one) (span_from other) (span_to other) meet in
      let first = parts.0 in
      let second = parts.1 in
      record {
        byte = max (span_from one) (span_from other);
        in_one = (omega arith, omega arith);
        in_other = (omega arith, omega arith);
      },
  λ shared.
      let a = shared.in_one.0 in
      let b = shared.in_one.1 in
      let c = shared.in_other.0 in
      let d = shared.in_other.1 in
      meeting (span_from one) (span_to one) (span_from other) (span_to other) (omega arith) (omega arith),
)
  where
    both : (a b c d : ℕ) → IsTrue (nat_lt a d && nat_lt c b) → (a < d) × (c < b)
    both a b c d is = (grind (arith, nat_tests), grind (arith, nat_tests))

    meeting : (a b c d : ℕ) → a < d → c < b → IsTrue (nat_lt a d && nat_lt c b)
    meeting a b c d lt lt' = grind (arith, nat_tests)
