-- What is printed of several processes as their reports come (profile).
use Rattle.std.specs.Prelude.{◌≡◌, ℕ, ◌<◌, ◌≤◌, Bool, true, false, List, [], ◌∷◌, ◌++◌, length}
use Rattle.std.specs.Prelude.{take, Option, Result, OnOk, IfErr, slice_index_or}
use Rattle.std.specs.Io.KnownBytes.{Appends}
use Rattle.asan_check.specs.declared.report.Report.{Report}
use Rattle.asan_check.specs.Lines.{end_line}
use Rattle.asan_print.specs.declared.fault.WriteFault.{WriteFault}
use Rattle.asan_print.specs.Logs.{Line, joined, lines_of, report_lines}
use Rattle.asan_stream.specs.declared.outcome.Outcome.{Outcome}
use Rattle.asan_stream.specs.declared.outcome.Outcome.TheVariants as outcome
use Rattle.asan_stream.specs.Outcomes.{ending_of, reports_of}

module _ {F A : Type 0} where
  -- whether reports may have been printed of a process whose outcome has none: of one that is
  -- NotStarted or Unsettled
  abbrev pub has_lost_reports : Outcome F A → Bool
  has_lost_reports outcome.NotStarted = true
  has_lost_reports outcome.Unsettled = true
  has_lost_reports _ = false

  -- what is printed of a process: the lines of some reports, and then that of its end; the reports
  -- are those of its outcome, unless that has lost them
  pub record ArePrintedOf
      (process : ℕ) (result : Outcome F A) (lines : List (List ℕ)) : Type 0 where
    pub reports : List Report
    pub lines_are : lines ≡ report_lines process reports ++ end_line process (ending_of result) ∷ []
    pub own : has_lost_reports result ≡ false → reports ≡ reports_of result

  -- these are the lines of all processes, mixed in some order
  pub record AreLinesOf (outcomes : List (Outcome F A)) (log : List Line) : Type 0 where
    pub lines :
        (i : ℕ) (d : Outcome F A) → i < length outcomes →
        ArePrintedOf i (slice_index_or outcomes i d) (lines_of i log)
    pub others : (i : ℕ) → length outcomes ≤ i → lines_of i log ≡ []

  -- such lines went out, all of them, or in a fault exactly the first of their bytes, which are not
  -- all
  pub record ArePrinted
      (before after : Option (List ℕ)) (outcomes : List (Outcome F A))
      (wrote : Result (Unit {0}) WriteFault) : Type 0 where
    pub log : List Line
    pub lines : AreLinesOf outcomes log
    pub all : OnOk wrote (Appends before after (joined log))
    pub part : IfErr wrote (λ fault. Appends before after (take fault.written (joined log)))
    pub short : IfErr wrote (λ fault. fault.written < length (joined log))
