use Rattle.asan_print.proofs.Prints.{breaks_more}
use Rattle.std.proofs.Common.{[]}
use Rattle.asan_print.proofs.printer.Printer.no_memory.Goals as goal

pub returns-in-Err-clause-breaks : goal.returns-in-Err-clause-breaks
returns-in-Err-clause-breaks g c line some =
    breaks_more _ _ c.args.self.now [] line c.in-Err.fault.written c.in-Err.ensures.fault
