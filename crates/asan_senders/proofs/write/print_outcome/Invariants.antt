use Rattle.std.proofs.Common.{◌≡◌, ◌+◌, ◌*◌, ◌≤◌, take}
use Rattle.std.specs.List.{flat_map}
use Rattle.asan_check.specs.Lines.{longest_line, report_line}
use Rattle.asan_stream.specs.Outcomes.{reports_of}
use Rattle.asan_print.specs.Printing.{Prints, printed_of}
use Rattle.asan_senders.proofs.write.print_outcome.Given as goal

abbrev pub invariant-loop-report : goal.invariant-loop-report
invariant-loop-report g l = record {
  items : l.report-items ≡ reports_of l.outcome;
  prints : Prints (g.W.Write.contents l.fn.w) (g.W.Write.contents l.w) l.fn.printer l.printer
      (flat_map (report_line l.process) (take l.report-index l.report-items));
  grows : printed_of l.printer ≤ printed_of l.fn.printer + longest_line * l.report-index;
}
