use Rattle.std.proofs.Common.{subst}
use Rattle.asan_print.specs.Logs.{Printed}
use Rattle.asan_print.proofs.Prints.{if_err, on_ok}
use Rattle.asan_print.proofs.Logging.{all_out, broken_front, sent_part}
use Rattle.asan_print.proofs.live_printer.LivePrinter.finish.Goals as goal

pub returns-in-Prints-clause-ok : goal.returns-in-Prints-clause-ok
returns-in-Prints-clause-ok g c =
    on_ok c.send.result _ _ c.send.ensures.ok (λ sent start log r.
    all_out start _ _ c.in-Prints.printer c.send.new.self log sent
    (subst (λ p. Printed start (g.W.Write.contents c.args.w.now) p log) c.in-Prints.is r))

pub returns-in-Prints-clause-fault : goal.returns-in-Prints-clause-fault
returns-in-Prints-clause-fault g c =
    if_err c.send.result _ _ c.send.ensures.fault (λ e off start log r.
    (broken_front start _ e log (sent_part start _ _ c.in-Prints.printer e log off
    (subst (λ p. Printed start (g.W.Write.contents c.args.w.now) p log) c.in-Prints.is r))).0)

pub returns-in-Prints-clause-short : goal.returns-in-Prints-clause-short
returns-in-Prints-clause-short g c =
    if_err c.send.result _ _ c.send.ensures.fault (λ e off start log r.
    (broken_front start _ e log (sent_part start _ _ c.in-Prints.printer e log off
    (subst (λ p. Printed start (g.W.Write.contents c.args.w.now) p log) c.in-Prints.is r))).1)

pub returns-in-Broken-clause-fault : goal.returns-in-Broken-clause-fault
returns-in-Broken-clause-fault g c start log r =
    (broken_front start _ c.in-Broken.fault log
    (subst (λ p. Printed start (g.W.Write.contents c.args.w.now) p log) c.in-Broken.is r)).0
