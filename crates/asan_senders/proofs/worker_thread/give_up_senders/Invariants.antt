use Rattle.asan_senders.proofs.Dealing.{GivenUpTo}
use Rattle.asan_senders.proofs.worker_thread.give_up_senders.Given as goal

abbrev pub invariant-loop-i : goal.invariant-loop-i
invariant-loop-i g l = GivenUpTo l.workers.items l.i l.initial.senders.items l.senders.items
