use Rattle.std.proofs.Common.{◌<◌, length, rules}
use Rattle.asan_senders.proofs.Causes.{have_worked}
use Rattle.asan_senders.proofs.Dealing.{checked_all, read_all}
use Rattle.asan_collect.proofs.threads.print_in.Goals as goal

pub returns-clause-senders : goal.returns-clause-senders
returns-clause-senders g c =
    read_all g.F.Feed.seen c.args.crew.now.options.limit c.args.work.now.senders.items
    c.start_all-workers.new.work.senders.items c.join_all.new.senders.items
    c.start_all-workers.ensures.senders c.join_all.ensures.senders

pub returns-clause-shares : goal.returns-clause-shares
returns-clause-shares g c =
    checked_all c.args.work.now.shares.items c.join_all.new.shares.items c.start_all-workers.result.items
    c.start_all-workers.ensures.shares c.join_all.ensures.shares

pub returns-clause-worked : goal.returns-clause-worked
returns-clause-worked g c =
    let some : 0 < length c.args.work.now.shares.items = search rules in
    have_worked g.F.Feed.seen c.args.crew.now.options.limit c.args.work.now.senders.items
    c.start_all-workers.new.work.senders.items c.join_all.new.senders.items c.args.work.now.shares.items
    c.join_all.new.shares.items c.start_all-workers.result.items some c.start_all-workers.ensures.senders
    c.join_all.ensures.senders c.start_all-workers.ensures.kept c.start_all-workers.ensures.shares
    c.join_all.ensures.shares
