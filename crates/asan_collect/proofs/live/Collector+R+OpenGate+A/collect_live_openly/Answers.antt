use Rattle.asan_senders.proofs.Collected.{collected_by_answers}
use Rattle.asan_collect.proofs.live.Collector+R+OpenGate+A.collect_live_openly.Goals as goal

pub returns-clause-collected : goal.returns-clause-collected
returns-clause-collected g c =
    let came = c.in_ok-arrivals.ensures.came in
    collected_by_answers g.D.Feed.Feed.seen c.args.self.now.options (g.D.Door.seen c.args.door.now)
    (g.D.Door.seen c.let_in.new.door) c.in_ok-arrivals.arrivals.items c.check_openly_live.result.0.outcomes.items
    came.arrived came.all came.refused came.count came.few c.check_openly_live.ensures.answers came.fresh
