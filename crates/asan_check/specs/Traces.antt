-- What the checker says of each event of a trace, whose history may begin anew.
--
-- After an `anew`, what was said before it counts no more: each event is judged by the history
-- since the last one, and has its number among all events of the trace (this project's choice,
-- profile).
use Rattle.std.specs.Prelude.{ℕ, ◌+◌, List, [], ◌∷◌, ◌++◌, length, Option, option_to_list, reverse}
use Rattle.std.specs.Option.{option_map}
use Rattle.trace_record.specs.declared.event.Event.{Event}
use Rattle.trace_record.specs.declared.event.Event.TheVariants as event
use Rattle.asan_check.specs.declared.report.Fault.{Fault}
use Rattle.asan_check.specs.declared.report.Report.{Report}
use Rattle.asan_check.specs.Verdicts as history

-- the history that counts after the events of a trace: those since its last `anew`
abbrev pub since_anew : List Event → List Event
since_anew [] = []
since_anew (event.Anew ∷ past) = []
since_anew (e ∷ past) = e ∷ since_anew past

-- what is wrong with an event after the events of a trace
abbrev pub fault_of : ℕ → List Event → Event → Option Fault
fault_of bound past e = history.fault_of bound (since_anew past) e

-- the verdict on an event after the events of a trace: a report with the event's number, or nothing
abbrev pub verdict : ℕ → List Event → Event → Option Report
verdict bound past e =
    option_map (λ f. record { number = length past + 1; fault = f }) (fault_of bound past e)

-- the verdicts on the events of a trace, oldest first, nothings left out
abbrev pub verdicts_of : ℕ → List Event → List Report
verdicts_of bound [] = []
verdicts_of bound (e ∷ past) = verdicts_of bound past ++ option_to_list (verdict bound past e)

-- the verdicts on events that stand in their order, oldest first
abbrev pub verdicts : ℕ → List Event → List Report
verdicts bound events = verdicts_of bound (reverse events)
