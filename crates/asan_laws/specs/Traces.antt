-- Traces of several histories, each of which begins anew. As in a history, the newest event is
-- first.
use Rattle.std.specs.Prelude.{ℕ, ◌+◌, List, [], ◌∷◌, ◌++◌}
use Rattle.trace_record.specs.declared.event.Event.{Event}
use Rattle.trace_record.specs.declared.event.Event.TheVariants as event
use Rattle.asan_check.specs.declared.report.Report.{Report}

-- these events are of one history: it begins anew at none of them
abbrev pub IsOneHistory : List Event → Type 0
IsOneHistory [] = Unit {0}
IsOneHistory (event.Anew ∷ past) = ⊥
IsOneHistory (e ∷ past) = IsOneHistory past

-- each of these is
abbrev pub AreHistories : List (List Event) → Type 0
AreHistories [] = Unit {0}
AreHistories (history ∷ later) = IsOneHistory history × AreHistories later

-- a trace that goes on with these histories, one after the other, each of which begins anew
abbrev pub with_histories : List Event → List (List Event) → List Event
with_histories trace [] = trace
with_histories trace (history ∷ later) =
    with_histories (history ++ event.Anew ∷ trace) later

-- a report of a history, numbered among the events of a trace that had so many before it
abbrev pub numbered_on : ℕ → Report → Report
numbered_on before r = record { number = before + r.number; fault = r.fault }
