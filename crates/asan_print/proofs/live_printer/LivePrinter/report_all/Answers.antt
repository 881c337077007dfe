use Rattle.std.proofs.Common.{◌≡◌, take, refl, sym, ◌∙◌, arith, false}
use Rattle.std.proofs.lemmas.List.{take_all, append-nil}
use Rattle.asan_check.specs.declared.report.Report.{Report}
use Rattle.asan_check.specs.declared.report.Class.TheVariants as class
use Rattle.asan_check.specs.declared.report.Fault.TheVariants as fault
use Rattle.asan_print.proofs.Logging.{adds_start, adds_line, rest_further, still_on}
use Rattle.asan_print.proofs.live_printer.LivePrinter.report_all.Goals as goal

abbrev none : Report
none = record { number = 0; fault = fault.Access false 0 0 0 class.HeapBufferOverflow 0 }

pub loop-report-init : goal.loop-report-init
loop-report-init g c = record {
  adds = λ start log lines r own. adds_start start _ _ _ _ log r (own ∙ sym (append-nil lines));
  still = λ broken. (refl, refl);
}

pub loop-report-preserved : goal.loop-report-preserved
loop-report-preserved g c = record {
  adds = λ start log lines r own.
      rw (rest_further c.args.process c.loop-report.report-index none lines c.args.reports.now c.loop-report-test.true)
      (adds_line start _ _ _ _ c.args.process _ _ log (c.report.ensures.prints start)
      (c.loop-report.invariant.adds start log lines r own));
  still = still_on _ _ _ _ _ _ c.report.ensures.broken c.loop-report.invariant.still;
}

pub returns-clause-adds : goal.returns-clause-adds
returns-clause-adds g c = λ start log lines r own.
    let all : take c.loop-report.report-index c.args.reports.now ≡ c.args.reports.now =
    take_all _ c.args.reports.now (omega arith) in
    rw all at c.loop-report.invariant.adds start log lines r own
