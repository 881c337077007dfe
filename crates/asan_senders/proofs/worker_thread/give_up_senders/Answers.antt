use Rattle.std.proofs.Common.{◌≡◌, ◌<◌, ◌≤◌, ◌∙◌, sym, length, rules}
use Rattle.std.proofs.lemmas.List.{get_or_default}
use Rattle.asan_senders.proofs.Dealing.{checker_at, stays_with}
use Rattle.asan_senders.proofs.Dealing.{given_up_none, given_up_set, given_up_same, given_up_all}
use Rattle.asan_senders.proofs.worker_thread.give_up_senders.Goals as goal
use Rattle.asan_senders.proofs.worker_thread.give_up_senders.Goals.{in-Lost, in_default}

pub loop-i-init : goal.loop-i-init
loop-i-init g c = given_up_none c.args.workers.now.items c.args.senders.now.items

pub loop-i-preserved : goal.loop-i-preserved
loop-i-preserved g c =
    let workers = c.args.workers.now.items in
    let xs = c.args.senders.now.items in
    let ys = c.loop-i.senders.items in
    let i = c.loop-i.i in
    let checker = c.index.result.now in
    let same : length ys ≡ length xs = c.loop-i.invariant.same_length in
    let low : i < length ys = search rules in
    let many : c.len.result ≡ length workers = search rules in
    let some : 0 < length workers = search rules in
    elim c.match-index.branch [
      | in-Lost w ↦ rw w.senders-is (given_up_set workers i xs ys w.give_up.new.sender low
          (λ d k. rw (checker_at workers i c.len.result checker k many some c.index.ensures ∙ w.in-Lost.is)
          (rw (sym (w.index_mut.ensures.value ∙ get_or_default ys i w.index_mut.result.now d low)) w.give_up.ensures))
          c.loop-i.invariant)
      | in_default w ↦ rw w.senders-is (given_up_same workers i xs ys
          (λ k s. rw (checker_at workers i c.len.result checker k many some c.index.ensures)
          (stays_with checker s w.in_default.not-Lost)) c.loop-i.invariant)
    ]

pub returns : goal.returns
returns g c =
    let all : length c.args.senders.now.items ≤ c.loop-i.i = search rules in
    given_up_all c.args.workers.now.items c.loop-i.i c.args.senders.now.items c.loop-i.senders.items all
    c.loop-i.invariant
