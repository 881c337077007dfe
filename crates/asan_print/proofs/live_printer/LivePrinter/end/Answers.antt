use Rattle.std.proofs.Common.{rules, subst, sym}
use Rattle.asan_print.specs.Logs.{IsBroken, Printed}
use Rattle.asan_print.proofs.Logging.{lost_line, lost_too, printed_line}
use Rattle.asan_print.proofs.live_printer.LivePrinter.end.Goals as goal

pub returns-in-Err-clause-prints : goal.returns-in-Err-clause-prints
returns-in-Err-clause-prints g c start log r =
    lost_line start _ _ c.in-Prints.printer c.in-Err.fault log _ _ c.in-Err.ensures.fault
    (subst (λ p. Printed start (g.W.Write.contents c.args.w.now) p log) c.in-Prints.is r)

pub returns-in_default-clause-prints : goal.returns-in_default-clause-prints
returns-in_default-clause-prints g c start log r =
    printed_line start _ _ c.in-Prints.printer c.end.new.self log _ _ (search rules)
    (subst (λ p. Printed start (g.W.Write.contents c.args.w.now) p log) c.in-Prints.is r)

pub returns-in-Broken-clause-prints : goal.returns-in-Broken-clause-prints
returns-in-Broken-clause-prints g c start log r =
    lost_too start _ c.args.self.now log _ _ (subst IsBroken (sym c.in-Broken.is) tt) r
