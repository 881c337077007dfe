use Rattle.asan_print.proofs.Logging.{adds_line, still_on}
use Rattle.asan_print.proofs.live_printer.LivePrinter.close.Goals as goal

pub returns-clause-adds : goal.returns-clause-adds
returns-clause-adds g c = λ start log lines r own.
    adds_line start _ _ _ _ c.args.process _ _ log (c.end.ensures.prints start)
    (c.report_all.ensures.adds start log lines r own)

pub returns-clause-broken : goal.returns-clause-broken
returns-clause-broken g c = still_on _ _ _ _ _ _ c.end.ensures.broken c.report_all.ensures.broken
