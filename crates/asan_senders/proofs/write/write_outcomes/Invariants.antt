use Rattle.std.proofs.Common.{◌≡◌, ◌*◌, ◌≤◌, take, []}
use Rattle.asan_senders.specs.Texts.{longest_text, texts_from}
use Rattle.asan_print.specs.Printing.{Prints, held_back, written_of, printed_of}
use Rattle.asan_senders.proofs.write.write_outcomes.Given as goal

abbrev pub invariant-loop-process : goal.invariant-loop-process
invariant-loop-process g l = record {
  prints : Prints (g.W.Write.contents l.fn.w) (g.W.Write.contents l.w) l.initial.printer l.printer
      (texts_from 0 (take l.process l.outcomes));
  empty : held_back l.initial.printer ≡ [];
  fresh : written_of l.initial.printer ≡ 0;
  grows : printed_of l.printer ≤ longest_text * l.process;
}
