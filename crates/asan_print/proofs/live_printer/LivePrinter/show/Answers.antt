use Rattle.asan_print.proofs.Logging.{adds_flushed, still_on}
use Rattle.asan_print.proofs.live_printer.LivePrinter.show.Goals as goal

pub returns-clause-adds : goal.returns-clause-adds
returns-clause-adds g c = λ start log lines r own.
    adds_flushed start _ _ _ _ c.args.process _ log (c.flush.ensures.lines start)
    (c.report_all.ensures.adds start log lines r own)

pub returns-clause-broken : goal.returns-clause-broken
returns-clause-broken g c = still_on _ _ _ _ _ _ c.flush.ensures.broken c.report_all.ensures.broken
