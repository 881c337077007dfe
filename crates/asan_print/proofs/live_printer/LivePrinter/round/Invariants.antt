use Rattle.std.proofs.Common.{List, ℕ, Option}
use Rattle.asan_print.specs.Logs.{StaysBroken}
use Rattle.asan_print.specs.Ports.{Follows, SameLanes}
use Rattle.asan_print.proofs.Rounds.{Asked}
use Rattle.asan_print.proofs.live_printer.LivePrinter.round.Given as goal

abbrev pub invariant-loop-process : goal.invariant-loop-process
invariant-loop-process g l = record {
  lanes : SameLanes l.initial.ports l.ports;
  lines : (start : Option (List ℕ)) → Follows start (g.W.Write.contents l.initial.w) l.initial.self l.initial.ports
      → Follows start (g.W.Write.contents l.w) l.self l.ports;
  still : StaysBroken l.initial.w l.w l.initial.self l.self;
  asked : Asked l.initial.ports l.ports l.process l.any;
}
