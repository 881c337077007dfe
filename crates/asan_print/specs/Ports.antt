-- The lanes that reports come through, in the order of their processes.
use Rattle.std.specs.Prelude.{◌≡◌, ℕ, ◌+◌, ◌<◌, ◌≤◌, ◌^◌, List, [], ◌++◌, length, map}
use Rattle.std.specs.Prelude.{Option, None, Some, slice_index_or}
use Rattle.trace_lane.specs.Lanes.{Lane, out_lane, taken_list, waiting}
use Rattle.asan_check.specs.declared.report.Report.{Report}
use Rattle.asan_print.specs.declared.live_printer.LivePrinter.{LivePrinter}
use Rattle.asan_print.specs.declared.port.Port.{Port}
use Rattle.asan_print.specs.Logs.{Line, lines_of, report_lines, Printed}

-- the most reports that are taken from one port before the next port's turn
abbrev pub most_at_once : ℕ
most_at_once = 64

module _ {A : Type 0} where
  -- what a contract sees of a port: its lane, the reports taken from it, and those that are known
  -- to wait at it
  abbrev pub port_lane : Port A → Lane A
  port_lane port = out_lane port.lane

  abbrev pub taken_from : Port A → List Report
  taken_from port = taken_list port.lane

  abbrev pub port_waiting : Port A → List Report
  port_waiting port = waiting port.lane

  -- which lane it is, if there is a port
  abbrev pub lane_at : Option (Port A) → Option (Lane A)
  lane_at None = None
  lane_at (Some port) = Some (port_lane port)

  -- what was taken, if there is a port
  abbrev pub taken_at : Option (Port A) → List Report
  taken_at None = []
  taken_at (Some port) = taken_from port

  -- what was taken from each port
  abbrev pub reports_taken : List (Option (Port A)) → List (List Report)
  reports_taken ports = map taken_at ports

  -- a report is known to wait at a port, and can be counted
  abbrev pub HasReport : Option (Port A) → Type 0
  HasReport None = ⊥
  HasReport (Some port) =
      (0 < length (port_waiting port)) × (length (taken_from port) + 1 < 2 ^ 64)

  -- reports were taken from a port after those that were taken before: none or more, up to the most
  -- at once
  pub record TakesMore (before after : Option (Port A)) : Type 0 where
    pub more : List Report
    pub taken : taken_at after ≡ taken_at before ++ more
    pub most : length more ≤ most_at_once

  -- the same of each port
  abbrev pub EachTakesMore : List (Option (Port A)) → List (Option (Port A)) → Type 0
  EachTakesMore before after =
      (i : ℕ) (d : Option (Port A)) → i < length before →
      TakesMore (slice_index_or before i d) (slice_index_or after i d)

  -- the same lanes, in order
  pub record SameLanes (before after : List (Option (Port A))) : Type 0 where
    pub same_length : length after ≡ length before
    pub each :
        (i : ℕ) (d : Option (Port A)) → i < length before →
        lane_at (slice_index_or after i d) ≡ lane_at (slice_index_or before i d)

  -- lines were printed, and those of each process are the lines of the reports that were taken from
  -- its port
  pub record Follows
      (start now : Option (List ℕ)) (p : LivePrinter A) (ports : List (Option (Port A)))
      : Type 0 where
    pub log : List Line
    pub printed : Printed start now p log
    pub lines :
        (i : ℕ) (d : Option (Port A)) → i < length ports →
        lines_of i log ≡ report_lines i (taken_at (slice_index_or ports i d))
    pub others : (i : ℕ) → length ports ≤ i → lines_of i log ≡ []
