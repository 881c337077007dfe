use Rattle.std.proofs.Common.{arith, refl}
use Rattle.asan_print.proofs.Prints.{breaks_same}
use Rattle.asan_print.proofs.printer.Printer.report.Goals as goal

pub returns-in-Err-clause-fault : goal.returns-in-Err-clause-fault
returns-in-Err-clause-fault g c =
    breaks_same _ _ c.args.self.now (record { text = c.report_text.new.text; sent = c.args.self.now.sent }) _ _
    c.in-Err.ensures.err refl (c.no_memory.ensures.breaks _ (omega arith))
