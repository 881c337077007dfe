use Rattle.asan_senders.specs.Senders.{Starts, WillBe}
use Rattle.asan_senders.proofs.Dealing.{StaysOrGivesUp, each_stays_or_gives_up, fresh_left, will_after}
use Rattle.asan_senders.proofs.Senders.{each_after}
use Rattle.asan_senders.proofs.Causes.{all_kept}
use Rattle.asan_collect.proofs.threads.start_all.Goals as goal

pub start_readers-requires-clause-fresh : goal.start_readers-requires-clause-fresh
start_readers-requires-clause-fresh g c κs within =
    fresh_left g.F.Feed.seen c.args.work.now.senders.items c.give_up_senders.new.senders.items
    (each_stays_or_gives_up _ _ _ c.give_up_senders.ensures) c.requires.fresh

pub returns-clause-senders : goal.returns-clause-senders
returns-clause-senders g c =
    let seen = g.F.Feed.seen in
    let limit = c.args.crew.now.options.limit in
    each_after StaysOrGivesUp (Starts seen limit) (WillBe seen limit) (λ x y z p q. will_after seen limit x y z p q.0)
    c.args.work.now.senders.items c.give_up_senders.new.senders.items c.start_readers.new.senders.items
    (each_stays_or_gives_up _ _ _ c.give_up_senders.ensures) c.start_readers.ensures

pub returns-clause-kept : goal.returns-clause-kept
returns-clause-kept g c =
    all_kept g.F.Feed.seen c.args.crew.now.options.limit c.start_workers-workers.result.items
    c.args.work.now.senders.items c.give_up_senders.new.senders.items c.start_readers.new.senders.items
    c.give_up_senders.ensures
    (record {
      same_length = c.start_readers.ensures.same_length;
      each = λ i d below. (c.start_readers.ensures.each i d below).0;
    })
