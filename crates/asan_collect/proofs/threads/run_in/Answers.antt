use Rattle.std.proofs.Common.{◌≡◌, rules, arith, ◌∙◌, inl, ◌<◌, length, slice_index_or, slice_set}
use Rattle.std.proofs.lemmas.List.{get_or-set_same, get_or_default, length-set}
use Rattle.asan_senders.specs.Shares.{ComesBack}
use Rattle.asan_senders.proofs.Causes.{first_worked, have_worked}
use Rattle.asan_senders.proofs.Dealing.{checked_all, read_all}
use Rattle.asan_senders.proofs.Senders.{each_put}
use Rattle.asan_collect.proofs.threads.run_in.Goals as goal

pub returns-clause-senders : goal.returns-clause-senders
returns-clause-senders g c =
    read_all g.F.Feed.seen c.args.crew.now.options.limit c.args.work.now.senders.items
    c.start_all-workers.new.work.senders.items c.join_all.new.senders.items
    c.start_all-workers.ensures.senders c.join_all.ensures.senders

pub returns-clause-shares : goal.returns-clause-shares
returns-clause-shares g c =
    let xs = c.args.work.now.shares.items in
    let low : 0 < length xs = omega (arith, c.requires.some, c.args.work.now.shares.ok.0) in
    let was = c.replace-benches.result in
    let is : (d : _) → was ≡ slice_index_or xs 0 d = λ d. c.replace-benches.ensures.value
    ∙ (c.index_mut.ensures.value ∙ get_or_default xs 0 c.index_mut.result.now d low) in
    each_put ComesBack 0 xs c.join_all.new.shares.items c.replace-benches.new.dest c.run_checker-benches.result low
    (λ d. rw (← is d) (inl (c.run_checker-benches.ensures.later, c.run_checker-benches.ensures.no_more)))
    (checked_all _ c.join_all.new.shares.items c.start_all-workers.result.items c.start_all-workers.ensures.shares
    c.join_all.ensures.shares)

pub returns-clause-first : goal.returns-clause-first
returns-clause-first g c d =
    let xs = c.args.work.now.shares.items in
    let low : 0 < length xs = omega (arith, c.requires.some, c.args.work.now.shares.ok.0) in
    let same = c.start_all-workers.ensures.same in
    let begun = c.start_all-workers.ensures.shares.same_length in
    let back = c.join_all.ensures.shares.same_length in
    let is : c.replace-benches.result ≡ slice_index_or xs 0 d = c.replace-benches.ensures.value
    ∙ (c.index_mut.ensures.value ∙ get_or_default xs 0 c.index_mut.result.now d low) in
    let there : 0 < length c.join_all.new.shares.items = omega (arith, length-set xs 0 c.replace-benches.new.dest) in
    rw (← is, get_or-set_same c.join_all.new.shares.items 0 c.run_checker-benches.result d there)
    (c.run_checker-benches.ensures.later, c.run_checker-benches.ensures.no_more)

pub returns-clause-worked : goal.returns-clause-worked
returns-clause-worked g c =
    let xs = c.args.work.now.shares.items in
    let empty = c.replace-benches.new.dest in
    let some : 0 < length xs = search rules in
    let here : 0 < length (slice_set xs 0 empty) = omega (arith, length-set xs 0 empty) in
    first_worked c.args.work.now.senders.items c.join_all.new.senders.items xs c.join_all.new.shares.items empty
    c.run_checker-benches.result some (returns-clause-first g c)
    (have_worked g.F.Feed.seen c.args.crew.now.options.limit c.args.work.now.senders.items
    c.start_all-workers.new.work.senders.items c.join_all.new.senders.items (slice_set xs 0 empty)
    c.join_all.new.shares.items c.start_all-workers.result.items here c.start_all-workers.ensures.senders
    c.join_all.ensures.senders c.start_all-workers.ensures.kept c.start_all-workers.ensures.shares
    c.join_all.ensures.shares)

pub join_all-requires : goal.join_all-requires
join_all-requires g c =
    let begun = c.start_all-workers.ensures.shares.same_length in
    let same = c.start_all-workers.ensures.same in
    let before = c.args.work.now.shares.ok in
    let workers = c.start_all-workers.result.ok in
    omega (arith, before.0, workers.0, length-set c.args.work.now.shares.items 0 c.replace-benches.new.dest)

pub index_mut-requires-2 : goal.index_mut-requires-2
index_mut-requires-2 g c =
    let some = c.requires.some in
    let begun = c.start_all-workers.ensures.shares.same_length in
    let back = c.join_all.ensures.shares.same_length in
    let before = c.args.work.now.shares.ok in
    let after = c.join_all.new.shares.ok in
    omega (arith, before.0, after.0, length-set c.args.work.now.shares.items 0 c.replace-benches.new.dest)

pub index_mut-requires : goal.index_mut-requires
index_mut-requires g c = c.requires.some

pub start_all-workers-requires-clause-fresh : goal.start_all-workers-requires-clause-fresh
start_all-workers-requires-clause-fresh g c κs within = c.requires.fresh

pub start_all-workers-requires-clause-some : goal.start_all-workers-requires-clause-some
start_all-workers-requires-clause-some g c κs within = c.requires.some

pub start_all-workers-requires-clause-empty : goal.start_all-workers-requires-clause-empty
start_all-workers-requires-clause-empty g c κs within = c.requires.empty

pub start_all-workers-requires-clause-room : goal.start_all-workers-requires-clause-room
start_all-workers-requires-clause-room g c κs within = c.requires.room
