use Rattle.std.proofs.Common.{arith}
use Rattle.asan_print.proofs.Logging.{lost_whole}
use Rattle.asan_print.proofs.counted.Counted.end.Goals as goal

pub returns-then-not-has_room-clause-fault : goal.returns-then-not-has_room-clause-fault
returns-then-not-has_room-clause-fault g c =
    lost_whole _ c.args.self.now.printer _ c.no_room.result.written c.no_room.ensures (omega arith)
