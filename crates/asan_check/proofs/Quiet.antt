-- Events that change nothing.
use Rattle.std.proofs.Common.{◌≡◌, ◌<◌, ◌≤◌, ◌+◌, ℕ, List, [], ◌∷◌, ◌++◌, None, length, take, drop}
use Rattle.std.proofs.Common.{◌∙◌, ap, arith, get_or}
use Rattle.std.proofs.Math.Seq.{drop-cons}
use Rattle.std.specs.Prelude.{reverse}
use Rattle.std.proofs.lemmas.List.{append-nil, reverse-append, drop_all}
use Rattle.trace_record.specs.declared.event.Event.{Event}
use Rattle.asan_check.specs.declared.checker.Checker.{Checker}
use Rattle.asan_check.specs.Standing.{ShowsTrace, AreQuiet}
use Rattle.asan_check.specs.Traces.{fault_of, verdicts_of}

-- a good event has no verdict
quiet_more : (bound : ℕ) (past : List Event) (e : Event) → fault_of bound past e ≡ None
    → verdicts_of bound (e ∷ past) ≡ verdicts_of bound past
quiet_more bound past e none = rw none (append-nil (verdicts_of bound past))

-- one event more that changes nothing
pub one_more_quiet : {A : Type 0} (c : Checker A) (events : List Event) (count : ℕ) (e : Event)
    → take (count + 1) events ≡ take count events ++ e ∷ []
    → AreQuiet c events count
    → ((bound : ℕ) (past : List Event) → ShowsTrace bound c past
    → (fault_of bound past e ≡ None) × ShowsTrace bound c (e ∷ past))
    → AreQuiet c events (count + 1)
one_more_quiet c events count e one quiet good bound past shows =
    let front = reverse (take count events) in
    let newest : reverse (take (count + 1) events) ≡ e ∷ front = ap reverse one
    ∙ reverse-append (take count events) (e ∷ []) in
    let was = quiet bound past shows in
    let is = good bound (front ++ past) was.0 in (
      rw newest is.1,
      ap (λ es. verdicts_of bound (es ++ past)) newest ∙ quiet_more bound (front ++ past) e is.0 ∙ was.1,
    )

-- the event at a place is the first one from there on
pub next_is : (events : List Event) (count : ℕ) (e next : Event) (later : List Event) → count < length events
    → e ≡ get_or events count e → drop count events ≡ next ∷ later → next ≡ e
next_is events count e next later low is rest = grind (arith, drop-cons events count e low, is, rest)

-- there is none past the last one
pub none_next : {X : Type 0} → (events : List Event) (count : ℕ) (next : Event) (later : List Event)
    → length events ≤ count → drop count events ≡ next ∷ later → X
none_next events count next later le rest = grind (arith, drop_all count events le, rest)
