use Rattle.std.proofs.Common.{◌≡◌, ◌<◌, ◌≤◌, ◌∙◌, sym, subst, length, arith, rules, slice_index_or}
use Rattle.std.proofs.lemmas.List.{get_or_default}
use Rattle.asan_senders.specs.Senders.{IsFresh, Starts}
use Rattle.asan_senders.proofs.Senders.{upto_all, upto_none, upto_set}
use Rattle.asan_collect.proofs.reader_threads.start_readers.Goals as goal

pub loop-i-init : goal.loop-i-init
loop-i-init g c = upto_none (Starts g.F.Feed.seen c.args.crew.now.options.limit) c.args.senders.now.items

pub start_at-requires-clause-fresh : goal.start_at-requires-clause-fresh
start_at-requires-clause-fresh g c κs within =
    let ys = c.loop-i.senders.items in
    let low : c.loop-i.i < length ys = search rules in
    let d = c.index_mut.result.now in
    let is : d ≡ slice_index_or c.args.senders.now.items c.loop-i.i d = c.index_mut.ensures.value
    ∙ (get_or_default ys c.loop-i.i d d low ∙ c.loop-i.invariant.rest c.loop-i.i d (omega arith)) in
    let len = c.loop-i.invariant.same_length in
    subst (IsFresh g.F.Feed.seen) (sym is) (c.requires.fresh.each c.loop-i.i d (omega arith))

pub loop-i-preserved : goal.loop-i-preserved
loop-i-preserved g c =
    let ys = c.loop-i.senders.items in
    let low : c.loop-i.i < length ys = search rules in
    upto_set (Starts g.F.Feed.seen c.args.crew.now.options.limit) c.loop-i.i c.args.senders.now.items ys
    c.start_at.new.sender low
    (λ d. rw (sym (c.index_mut.ensures.value ∙ get_or_default ys c.loop-i.i c.index_mut.result.now d low))
    c.start_at.ensures) c.loop-i.invariant

pub returns : goal.returns
returns g c =
    let xs = c.args.senders.now.items in
    let ys = c.loop-i.senders.items in
    let len : length ys ≡ length xs = c.loop-i.invariant.same_length in
    let all : length xs ≤ c.loop-i.i = search rules in
    upto_all (Starts g.F.Feed.seen c.args.crew.now.options.limit) c.loop-i.i xs ys all c.loop-i.invariant
