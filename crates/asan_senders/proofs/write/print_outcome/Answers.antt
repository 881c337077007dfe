use Rattle.std.proofs.Common.{◌≡◌, ◌+◌, take, drop, get_or, arith, ◌++◌, false}
use Rattle.std.proofs.lemmas.List.{take_all}
use Rattle.std.proofs.lemmas.Result.{err_from_is_err_and}
use Rattle.std.specs.List.{flat_map}
use Rattle.asan_check.specs.declared.report.Report.{Report}
use Rattle.asan_check.specs.declared.report.Class.TheVariants as class
use Rattle.asan_check.specs.declared.report.Fault.TheVariants as fault
use Rattle.asan_check.specs.Lines.{report_line, end_line}
use Rattle.asan_stream.specs.Outcomes.{ending_of}
use Rattle.asan_print.proofs.Prints.{prints_then, breaks_then, breaks_more, flat_more, flat_rest, on_ok, if_err}
use Rattle.asan_senders.proofs.write.print_outcome.Goals as goal

abbrev none : Report
none = record { number = 0; fault = fault.Access false 0 0 0 class.HeapBufferOverflow 0 }

pub returns-in_err-report-clause-fault : goal.returns-in_err-report-clause-fault
returns-in_err-report-clause-fault g c =
    let items = c.reports-report-items.result.now in
    let i = c.loop-report.report-index in
    let line = report_line c.args.process in
    let p = err_from_is_err_and c.from_residual.result c.from_residual.ensures.1 in
    let off = breaks_more _ _ c.args.printer.now (flat_map line (take i items) ++ line (get_or items i none))
    (flat_map line (drop (i + 1) items) ++ end_line c.args.process (ending_of c.args.outcome.now)) _
    (breaks_then _ _ _ c.args.printer.now c.loop-report.printer (flat_map line (take i items))
    (line (get_or items i none)) _ c.loop-report.invariant.prints c.in_err-report.ensures.fault) in
    rw (
      p.1,
      p.2,
      ← c.loop-report.invariant.items,
      flat_rest line items i none (end_line c.args.process (ending_of c.args.outcome.now)) c.loop-report-test.true,
    )
    off

pub loop-report-preserved : goal.loop-report-preserved
loop-report-preserved g c =
    let items = c.reports-report-items.result.now in
    record {
      items = c.loop-report.invariant.items;
      prints = rw (flat_more (report_line c.args.process) items c.loop-report.report-index none c.loop-report-test.true)
          (prints_then _ _ _ c.args.printer.now c.loop-report.printer c.report.new.self _ _
          c.loop-report.invariant.prints c.in_ok-report.ensures.ok);
      grows = let a = c.loop-report.invariant.grows in let b = c.in_ok-report.ensures.grows in omega arith;
    }

pub returns-clause-ok : goal.returns-clause-ok
returns-clause-ok g c =
    let items = c.reports-report-items.result.now in
    let all : take c.loop-report.report-index items ≡ items = take_all _ items (omega arith) in
    on_ok c.end.result _ _ c.end.ensures.ok (λ ended. rw (← c.loop-report.invariant.items)
    (prints_then _ _ _ c.args.printer.now c.loop-report.printer c.end.new.self _ _
    (rw all at c.loop-report.invariant.prints) (rw c.ending.ensures at ended)))

pub returns-clause-fault : goal.returns-clause-fault
returns-clause-fault g c =
    let items = c.reports-report-items.result.now in
    let all : take c.loop-report.report-index items ≡ items = take_all _ items (omega arith) in
    if_err c.end.result _ _ c.end.ensures.fault
    (λ e off. rw (← c.loop-report.invariant.items)
    (breaks_then _ _ _ c.args.printer.now c.loop-report.printer _ _ _ (rw all at c.loop-report.invariant.prints)
    (rw c.ending.ensures at off)))
