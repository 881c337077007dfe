-- How the lines of the processes are printed, as their reports come and at the end.
use Rattle.std.specs.Prelude.{◌≡◌, ℕ, ◌<◌, ◌≤◌, false, List, [], length, take, Option, slice_index_or}
use Rattle.asan_check.specs.declared.report.Report.{Report}
use Rattle.asan_print.specs.declared.live_printer.LivePrinter.{LivePrinter}
use Rattle.asan_print.specs.declared.port.Port.{Port}
use Rattle.asan_print.specs.Logs.{Adds, Line, Printed, lines_of, report_lines}
use Rattle.asan_print.specs.Ports.{Follows, SameLanes, taken_at}
use Rattle.asan_senders.specs.declared.printers.Printers.{Printers}
use Rattle.asan_stream.specs.declared.outcome.Outcome.{Outcome}
use Rattle.asan_senders.specs.Live.{ArePrintedOf, has_lost_reports}
use Rattle.asan_stream.specs.Outcomes.{reports_of}

module _ {A : Type 0} where
  -- reports were taken from the same ports as before, and printed
  pub record HasPrinted (before after : Option (List ℕ)) (old new : Printers A) : Type 0 where
    pub lanes : SameLanes old.ports.items new.ports.items
    pub lines :
        (start : Option (List ℕ)) →
        Follows start before old.printer old.ports.items →
        Follows start after new.printer new.ports.items

module _ {F A : Type 0} where
  -- of the reports of an outcome these were printed before: its first ones, as many as counted,
  -- unless it has lost its reports
  abbrev pub WerePrinted : List Report → ℕ → Outcome F A → Type 0
  WerePrinted printed count result =
      has_lost_reports result ≡ false → take count (reports_of result) ≡ printed

  -- the last lines of a process were added to a log
  pub record Closes
      (start now : Option (List ℕ)) (p : LivePrinter A) (process : ℕ) (result : Outcome F A)
      (log : List Line) : Type 0 where
    pub lines : List (List ℕ)
    pub adds : Adds start now p process lines log
    pub printed : ArePrintedOf process result lines

  -- all lines of the first processes were printed, and of the others those of the reports that were
  -- taken from their ports
  pub record HasClosed
      (start now : Option (List ℕ)) (p : LivePrinter A) (ports : List (Option (Port A)))
      (outcomes : List (Outcome F A)) : Type 0 where
    pub log : List Line
    pub printed : Printed start now p log
    pub closed :
        (i : ℕ) (d : Outcome F A) → i < length outcomes →
        ArePrintedOf i (slice_index_or outcomes i d) (lines_of i log)
    pub waiting :
        (i : ℕ) (d : Option (Port A)) → length outcomes ≤ i → i < length ports →
        lines_of i log ≡ report_lines i (taken_at (slice_index_or ports i d))
    pub others : (i : ℕ) → length ports ≤ i → lines_of i log ≡ []
