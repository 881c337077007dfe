use Rattle.asan_senders.specs.Closings.{HasPrinted}
use Rattle.asan_collect.proofs.printing.print_to_the_end.Given as goal

abbrev pub invariant-loop : goal.invariant-loop
invariant-loop g l = HasPrinted (g.W.Write.contents l.initial.w) (g.W.Write.contents l.w) l.initial.printers l.printers
