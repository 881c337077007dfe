use Rattle.std.proofs.Common.{rules, subst}
use Rattle.asan_print.specs.Logs.{Printed}
use Rattle.asan_print.proofs.Logging.{sent_part, sent_whole}
use Rattle.asan_print.proofs.live_printer.LivePrinter.flush.Goals as goal

pub returns-in-Err-clause-lines : goal.returns-in-Err-clause-lines
returns-in-Err-clause-lines g c start log r =
    sent_part start _ _ c.in-Prints.printer c.in-Err.fault log c.in-Err.ensures.fault
    (subst (λ p. Printed start (g.W.Write.contents c.args.w.now) p log) c.in-Prints.is r)

pub returns-in_default-clause-lines : goal.returns-in_default-clause-lines
returns-in_default-clause-lines g c start log r =
    sent_whole start _ _ c.in-Prints.printer c.send.new.self log (search rules)
    (subst (λ p. Printed start (g.W.Write.contents c.args.w.now) p log) c.in-Prints.is r)
