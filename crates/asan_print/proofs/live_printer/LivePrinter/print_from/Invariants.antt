use Rattle.std.proofs.Common.{◌≡◌, ◌++◌, List, ℕ, Option, length}
use Rattle.asan_check.specs.declared.report.Report.{Report}
use Rattle.asan_print.specs.Logs.{Line, Printed, Adds, StaysBroken, lines_of, report_lines}
use Rattle.asan_print.specs.Ports.{port_lane, taken_from}
use Rattle.asan_print.proofs.live_printer.LivePrinter.print_from.Given as goal

abbrev pub invariant-loop-count : goal.invariant-loop-count
invariant-loop-count g l = record {
  lane : port_lane l.port ≡ port_lane l.initial.port;
  taken : (more : List Report) × (taken_from l.port ≡ taken_from l.initial.port ++ more) × (length more ≡ l.count);
  first : l.count ≡ 0 → l.port ≡ l.initial.port;
  lines : (start : Option (List ℕ)) (log : List Line)
      → Printed start (g.W.Write.contents l.initial.w) l.initial.self log
      → lines_of l.process log ≡ report_lines l.process (taken_from l.initial.port)
      → Adds start (g.W.Write.contents l.w) l.self l.process (report_lines l.process (taken_from l.port)) log;
  still : StaysBroken l.initial.w l.w l.initial.self l.self;
}
