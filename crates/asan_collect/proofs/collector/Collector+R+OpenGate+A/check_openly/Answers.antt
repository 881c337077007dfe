use Rattle.std.proofs.Common.{arith}
use Rattle.trace_feed.specs.declared.door.Arrival.TheVariants as arrival
use Rattle.asan_senders.proofs.Causes.{causes_alone}
use Rattle.asan_senders.proofs.Only.{read_if_alone}
use Rattle.asan_collect.proofs.collector.Collector+R+OpenGate+A.check_openly.Goals as goal

pub check_alone-outcomes-requires-clause-fresh : goal.check_alone-outcomes-requires-clause-fresh
check_alone-outcomes-requires-clause-fresh g c =
    let arrived = rw c.in-Ok.ensures.only at c.requires.arrived in
    arrived 0 (arrival.Came c.in-Ok.feed) (omega arith)

pub check_all-requires-clause-arrived : goal.check_all-requires-clause-arrived
check_all-requires-clause-arrived g c κs within = rw c.in-Err.ensures.others c.requires.arrived

pub returns-in-Ok-clause-answers : goal.returns-in-Ok-clause-answers
returns-in-Ok-clause-answers g c = rw c.in-Ok.ensures.only c.check_alone-outcomes.ensures.answers

pub returns-in-Ok-clause-causes : goal.returns-in-Ok-clause-causes
returns-in-Ok-clause-causes g c =
    let alone = c.check_alone-outcomes in
    let none = c.nothing.ensures in
    causes_alone alone.result.items c.nothing.result alone.ensures.answers.same_length alone.ensures.read none.lanes
    none.workers none.readers none.ends

pub returns-in-Err-clause-answers : goal.returns-in-Err-clause-answers
returns-in-Err-clause-answers g c = rw c.in-Err.ensures.others at c.check_all.ensures.answers

pub returns-in-Err-clause-alone : goal.returns-in-Err-clause-alone
returns-in-Err-clause-alone g c =
    read_if_alone g.F.Feed.seen c.args.self.now.options c.args.arrivals.items c.check_all.result.0.items
    (returns-in-Err-clause-answers g c) c.in-Err.ensures.not_alone
