use Rattle.asan_session.proofs.Printing.{gone_live}
use Rattle.asan_session.proofs.session.Session.print_senders.Goals as goal

pub returns-then-is_live-clause-ok : goal.returns-then-is_live-clause-ok
returns-then-is_live-clause-ok g c =
    let live = c.in_ok-live.live in
    let all = c.in_ok-live.ensures in
    let gone = gone_live live.wrote _ _ _ live.outcomes.items c.flush-status.result all.printed
    (rw c.deref.ensures.value at c.flush-status.ensures.ok)
    (rw c.deref.ensures.value at c.flush-status.ensures.fault) in
    record { collected = all.collected; alone = all.alone; printed = rw c.if-is_live.true gone }

pub returns-clause-ok : goal.returns-clause-ok
returns-clause-ok g c =
    let all = c.in_ok-outcomes.ensures in
    record {
      collected = all.collected;
      alone = all.alone;
      printed = rw c.if-is_live.false (rw c.deref-2.ensures.value at c.print-status.ensures);
    }
