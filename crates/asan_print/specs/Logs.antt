-- The lines of several processes, in the order in which they are printed.
use Rattle.std.specs.Prelude.{◌≡◌, ◌≢◌, ℕ, ◌<◌, List, [], ◌∷◌, ◌++◌, length, map, cond, eqb}
use Rattle.std.specs.Prelude.{Option}
use Rattle.std.specs.List.{flat_map}
use Rattle.std.specs.Io.KnownBytes.{Appends}
use Rattle.asan_check.specs.declared.report.Report.{Report}
use Rattle.asan_check.specs.Lines.{report_line}
use Rattle.asan_print.specs.declared.live_printer.LivePrinter.{LivePrinter}
use Rattle.asan_print.specs.declared.live_printer.LivePrinter.TheVariants as live
use Rattle.asan_print.specs.Printing.{held_back, written_of}

-- the number of a process, and a line of it
abbrev pub Line : Type 0
Line = ℕ × List ℕ

-- the bytes of all lines
abbrev pub joined : List Line → List ℕ
joined lines = flat_map (λ line. line.1) lines

-- the lines of one process, in their order
abbrev pub lines_of : ℕ → List Line → List (List ℕ)
lines_of process [] = []
lines_of process (line ∷ lines) =
    cond (eqb process line.0) (line.1 ∷ lines_of process lines) (lines_of process lines)

-- the lines of some reports of a process
abbrev pub report_lines : ℕ → List Report → List (List ℕ)
report_lines process reports = map (report_line process) reports

module _ {A : Type 0} where
  -- a live printer has broken off: a line could not be printed
  abbrev pub IsBroken : LivePrinter A → Type 0
  IsBroken (live.Prints printer) = ⊥
  IsBroken (live.Broken fault) = Unit {0}

  -- if it had, nothing was written, and it is as it was
  abbrev pub StaysBroken : {W : Type 0} → W → W → LivePrinter A → LivePrinter A → Type 0
  StaysBroken w next p q = IsBroken p → (next ≡ w) × (q ≡ p)

  -- if it has not, no text is held back
  abbrev pub HoldsNothing : LivePrinter A → Type 0
  HoldsNothing (live.Prints printer) = held_back printer.printer ≡ []
  HoldsNothing (live.Broken fault) = Unit {0}

  -- what went out was counted; the rest is held back, or was lost
  abbrev pub IsRest : LivePrinter A → (out rest : List ℕ) → Type 0
  IsRest (live.Prints printer) out rest =
      (rest ≡ held_back printer.printer) × (written_of printer.printer ≡ length out)
  IsRest (live.Broken fault) out rest = (0 < length rest) × (fault.written ≡ length out)

  -- these lines were printed: what went out begins them, and the rest is held back, or was lost
  -- with the first line that could not be printed
  pub record Printed
      (start now : Option (List ℕ)) (p : LivePrinter A) (log : List Line) : Type 0 where
    pub out : List ℕ
    pub rest : List ℕ
    pub sent : Appends start now out
    pub parts : joined log ≡ out ++ rest
    pub ends : IsRest p out rest

  -- lines of this process alone were added to a log, until its lines were these
  pub record Adds
      (start now : Option (List ℕ)) (p : LivePrinter A) (process : ℕ) (lines : List (List ℕ))
      (log : List Line) : Type 0 where
    pub more : List Line
    pub printed : Printed start now p more
    pub own : lines_of process more ≡ lines
    pub others : (other : ℕ) → other ≢ process → lines_of other more ≡ lines_of other log
