use Rattle.std.proofs.Common.{arith}
use Rattle.asan_stream.proofs.Reading.{end_at_fault, end_at_end}
use Rattle.asan_stream.proofs.source.Source.into_end.Goals.{then-faults-gt0, else-faults-gt0}
use Rattle.asan_stream.proofs.source.Source.into_end.Goals as goal

pub returns : goal.returns
returns g c limit first events ended =
    let seen = g.F.Feed.seen in
    elim c.if-faults-gt0.branch [
      | then-faults-gt0 w ↦ rw w.end-is (end_at_fault seen limit first c.args.self events w.at_fault-end.result ended
          w.at_fault-end.ensures.stopped w.at_fault-end.ensures.ends (let some = w.if-faults-gt0.true in
          let count = c.faults.ensures in omega arith))
      | else-faults-gt0 w ↦ rw w.end-is (end_at_end seen limit first c.args.self events w.at_end-end.result ended
          w.at_end-end.ensures.stopped w.at_end-end.ensures.ends (let none = w.if-faults-gt0.false in
          let count = c.faults.ensures in omega arith))
    ]
