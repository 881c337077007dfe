use Rattle.asan_senders.specs.Senders.{Starts}
use Rattle.asan_senders.proofs.Senders.{Upto}
use Rattle.asan_collect.proofs.reader_threads.start_readers.Given as goal

abbrev pub invariant-loop-i : goal.invariant-loop-i
invariant-loop-i g l = Upto (Starts g.F.Feed.seen l.crew.options.limit) l.i l.initial.senders.items l.senders.items
