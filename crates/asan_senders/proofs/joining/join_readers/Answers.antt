use Rattle.std.proofs.Common.{◌≡◌, ◌<◌, ◌≤◌, ◌∙◌, sym, length, rules}
use Rattle.std.proofs.lemmas.List.{get_or_default}
use Rattle.asan_senders.specs.Senders.{Ends}
use Rattle.asan_senders.proofs.Senders.{upto_all, upto_none, upto_set}
use Rattle.asan_senders.proofs.joining.join_readers.Goals as goal

pub loop-i-init : goal.loop-i-init
loop-i-init g c = upto_none (Ends g.F.Feed.seen) c.args.senders.now.items

pub loop-i-preserved : goal.loop-i-preserved
loop-i-preserved g c =
    let ys = c.loop-i.senders.items in
    let low : c.loop-i.i < length ys = search rules in
    upto_set (Ends g.F.Feed.seen) c.loop-i.i c.args.senders.now.items ys c.finish_at.new.sender low
    (λ d. rw (sym (c.index_mut.ensures.value ∙ get_or_default ys c.loop-i.i c.index_mut.result.now d low))
    c.finish_at.ensures) c.loop-i.invariant

pub returns : goal.returns
returns g c =
    let xs = c.args.senders.now.items in
    let ys = c.loop-i.senders.items in
    let len : length ys ≡ length xs = c.loop-i.invariant.same_length in
    let all : length xs ≤ c.loop-i.i = search rules in
    upto_all (Ends g.F.Feed.seen) c.loop-i.i xs ys all c.loop-i.invariant
