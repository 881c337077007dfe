-- What the checker says of each event of a history, in which no `anew` counts.
--
-- The check of an access is that of the paper of 2012. The classes, the verdicts on frees and
-- mallocs, and that the replay goes on after a report are this project's choice (profile).
use Rattle.std.specs.Prelude.{ℕ, ◌+◌, Bool, true, false, ◌||◌, ◌==◌, if◌then◌else◌}
use Rattle.std.specs.Prelude.{List, [], ◌∷◌, ◌++◌, length, Option, Some, None, option_to_list}
use Rattle.std.specs.Prelude.{reverse}
use Rattle.std.specs.List.{list_any}
use Rattle.std.specs.Option.{option_map}
use Rattle.asan_units.specs.Units.{granule_of, first_byte}
use Rattle.trace_record.specs.declared.event.Event.{Event}
use Rattle.trace_record.specs.declared.event.Event.TheVariants as event
use Rattle.trace_record.specs.declared.event.Access.{Access}
use Rattle.trace_record.specs.Shades.{shade_size}
use Rattle.shadow_map.specs.States.{State, code_of, state_of, lift, bad_byte_of}
use Rattle.shadow_map.specs.Causes.{deciding_granule}
use Rattle.heap_book.specs.Spans.{starts_at}
use Rattle.asan_check.specs.declared.report.Class.{Class}
use Rattle.asan_check.specs.declared.report.Fault.{Fault}
use Rattle.asan_check.specs.declared.report.Fault.TheVariants as fault
use Rattle.asan_check.specs.declared.report.Report.{Report}
use Rattle.asan_check.specs.Codes.{class_of_code}
use Rattle.asan_check.specs.History.{live, held, admits, marks}

-- the class of a bad access: that of the first byte of the granule that decides
abbrev pub class_of : (ℕ → State) → ℕ → Class
class_of states at = class_of_code (code_of (states (first_byte (deciding_granule states at))))

-- what is wrong with a load or a store of memory in these states
abbrev pub access_fault : (ℕ → State) → Bool → Access → Option Fault
access_fault states is_store a =
    option_map (λ bad. fault.Access is_store a.width a.at bad (class_of states a.at) (lift states
    (granule_of a.at)))
    (bad_byte_of states a.at a.width)

-- what is wrong with a malloc after a history: nothing at address 0, which says that the allocator
-- refused
abbrev pub malloc_fault : ℕ → List Event → ℕ → ℕ → Option Fault
malloc_fault bound past at size =
    if at == 0 || admits bound past (record { at = at; size = size }) then None
    else Some (fault.BadMalloc at size)

-- what is wrong with a free after a history: nothing at address 0 or where a live block starts
abbrev pub free_fault : ℕ → List Event → ℕ → Option Fault
free_fault bound past at =
    if at == 0 || list_any (starts_at at) (live bound past) then None
    else (if list_any (starts_at at) (held bound past) then Some (fault.DoubleFree at)
    else Some (fault.BadFree at))

-- what is wrong with an event after a history, with this bound on the quarantine
abbrev pub fault_of : ℕ → List Event → Event → Option Fault
fault_of bound past (event.Load a) = access_fault (state_of (marks bound past)) false a
fault_of bound past (event.Store a) = access_fault (state_of (marks bound past)) true a
fault_of bound past (event.Malloc r) = malloc_fault bound past r.at r.size
fault_of bound past (event.Free p) = free_fault bound past p.at
fault_of bound past (event.Poison s) = None
fault_of bound past (event.Unpoison r) = None
fault_of bound past event.Anew = None

-- whether an event is a load or a store
abbrev pub is_access : Event → Bool
is_access (event.Load a) = true
is_access (event.Store a) = true
is_access e = false

-- whether an event lays no mark whatever came before it: a load, a store, a malloc or a free at
-- address 0, a poison or an unpoison of no bytes, and an `anew`
abbrev pub marks_none : Event → Bool
marks_none (event.Load a) = true
marks_none (event.Store a) = true
marks_none (event.Malloc r) = r.at == 0
marks_none (event.Free p) = p.at == 0
marks_none (event.Poison s) = shade_size s == 0
marks_none (event.Unpoison r) = r.size == 0
marks_none event.Anew = true

-- the verdict on an event after a history: a report with the event's number, or nothing
abbrev pub verdict : ℕ → List Event → Event → Option Report
verdict bound past e =
    option_map (λ f. record { number = length past + 1; fault = f }) (fault_of bound past e)

-- the verdicts on a history, oldest first: that of each event on the events before it, nothings
-- left out
abbrev pub verdicts_of : ℕ → List Event → List Report
verdicts_of bound [] = []
verdicts_of bound (e ∷ past) = verdicts_of bound past ++ option_to_list (verdict bound past e)

-- the verdicts on events that stand in their order, oldest first
abbrev pub verdicts : ℕ → List Event → List Report
verdicts bound events = verdicts_of bound (reverse events)
