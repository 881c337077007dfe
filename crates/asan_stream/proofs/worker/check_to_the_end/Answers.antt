use Rattle.asan_stream.proofs.Later.{each_refl, each_trans}
use Rattle.asan_stream.proofs.worker.check_to_the_end.Goals as goal

pub loop-init : goal.loop-init
loop-init g c = each_refl c.args.benches.now.items

pub returns-then-round-clause-later : goal.returns-then-round-clause-later
returns-then-round-clause-later g c = each_trans c.args.benches.now.items c.loop.benches.items
    c.go_round-round.new.benches.items c.loop.invariant c.go_round-round.ensures.later

pub loop-preserved : goal.loop-preserved
loop-preserved g c = each_trans c.args.benches.now.items c.loop.benches.items c.go_round-round.new.benches.items
    c.loop.invariant c.go_round-round.ensures.later

pub loop-preserved-then-round-2 : goal.loop-preserved-then-round-2
loop-preserved-then-round-2 g c = each_trans c.args.benches.now.items c.loop.benches.items
    c.go_round-round.new.benches.items c.loop.invariant c.go_round-round.ensures.later
