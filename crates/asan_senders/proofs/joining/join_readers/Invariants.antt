use Rattle.asan_senders.specs.Senders.{Ends}
use Rattle.asan_senders.proofs.Senders.{Upto}
use Rattle.asan_senders.proofs.joining.join_readers.Given as goal

abbrev pub invariant-loop-i : goal.invariant-loop-i
invariant-loop-i g l = Upto (Ends g.F.Feed.seen) l.i l.initial.senders.items l.senders.items
