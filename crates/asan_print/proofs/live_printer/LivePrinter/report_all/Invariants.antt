use Rattle.std.proofs.Common.{◌≡◌, ◌++◌, List, ℕ, Option, take}
use Rattle.asan_print.specs.Logs.{Line, Printed, Adds, StaysBroken, lines_of, report_lines}
use Rattle.asan_print.proofs.live_printer.LivePrinter.report_all.Given as goal

abbrev pub invariant-loop-report : goal.invariant-loop-report
invariant-loop-report g l = record {
  adds : (start : Option (List ℕ)) (log : List Line) (lines : List (List ℕ))
      → Printed start (g.W.Write.contents l.initial.w) l.initial.self log → lines_of l.process log ≡ lines
      → Adds start (g.W.Write.contents l.w) l.self l.process
      (lines ++ report_lines l.process (take l.report-index l.reports)) log;
  still : StaysBroken l.initial.w l.w l.initial.self l.self;
}
