-- Events in their order, oldest first, against histories, which have the newest first.
use Rattle.std.proofs.Common.{◌≡◌, ℕ, ◌-◌, ◌≤◌, List, [], ◌∷◌, ◌++◌, length, take, drop}
use Rattle.std.proofs.Common.{sym, ap, ◌∙◌, arith, append_assoc}
use Rattle.std.specs.Prelude.{reverse, option_to_list}
use Rattle.std.proofs.lemmas.List.{append-nil, reverse-append, length-reverse, drop_at}
use Rattle.std.proofs.lemmas.List.{take-append-drop, length-drop}
use Rattle.trace_record.specs.declared.event.Event.{Event}
use Rattle.asan_check.specs.declared.report.Report.{Report}
use Rattle.asan_check.specs.Verdicts.{verdict, verdicts_of}
use Rattle.asan_check.specs.Traces as trace

-- the history of the first n events is what is left of the whole one without its newest
pub first_of : (events : List Event) (n : ℕ) → n ≤ length events
    → drop (length (reverse events) - n) (reverse events) ≡ reverse (take n events)
first_of events n le =
    let parts : reverse events ≡ reverse (drop n events) ++ reverse (take n events) =
    ap reverse (sym (take-append-drop n events)) ∙ reverse-append (take n events) (drop n events) in
    let long : length (reverse (drop n events)) ≡ length (reverse events) - n =
    omega (arith, length-reverse (drop n events), length-drop n events, length-reverse events) in
    ap (drop (length (reverse events) - n)) parts
    ∙ drop_at (reverse (drop n events)) (reverse (take n events)) (length (reverse events) - n) long

-- the verdicts on more events begin with those on the first of them
pub verdicts_begin : (bound : ℕ) (newer past : List Event)
    → (rest : List Report) × (verdicts_of bound (newer ++ past) ≡ verdicts_of bound past ++ rest)
verdicts_begin bound [] past = ([], sym (append-nil (verdicts_of bound past)))
verdicts_begin bound (e ∷ newer) past =
    let before = verdicts_begin bound newer past in
    let last = option_to_list (verdict bound (newer ++ past) e) in
    (before.0 ++ last, ap (λ rs. rs ++ last) before.1 ∙ append_assoc (verdicts_of bound past) before.0 last)

-- the same of the events of a trace
pub trace_verdicts_begin : (bound : ℕ) (newer past : List Event)
    → (rest : List Report) × (trace.verdicts_of bound (newer ++ past) ≡ trace.verdicts_of bound past ++ rest)
trace_verdicts_begin bound [] past = ([], sym (append-nil (trace.verdicts_of bound past)))
trace_verdicts_begin bound (e ∷ newer) past =
    let before = trace_verdicts_begin bound newer past in
    let last = option_to_list (trace.verdict bound (newer ++ past) e) in
    (before.0 ++ last, ap (λ rs. rs ++ last) before.1 ∙ append_assoc (trace.verdicts_of bound past) before.0 last)
