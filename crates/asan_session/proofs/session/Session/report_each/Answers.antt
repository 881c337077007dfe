use Rattle.asan_session.proofs.Refusing.{bounded, refused_if_printed, unbounded}
use Rattle.asan_session.proofs.session.Session.report_each.Goals as goal

pub returns-in_ok-reported-in-None-clause-ok : goal.returns-in_ok-reported-in-None-clause-ok
returns-in_ok-reported-in-None-clause-ok g c =
    let reported = c.in_ok-reported-in-None.reported in
    unbounded _ _ _ _ _ _ _ _ c.in-None.is
    (reported.outcomes.items, rw c.end_with.ensures.status c.in_ok-reported-in-None.ensures.ok)

pub returns-in_ok-reported-in-None-clause-refused : goal.returns-in_ok-reported-in-None-clause-refused
returns-in_ok-reported-in-None-clause-refused g c =
    refused_if_printed _ _ _ _ _ _ _ _ (returns-in_ok-reported-in-None-clause-ok g c)

pub returns-in_ok-reported-in-Some-clause-ok : goal.returns-in_ok-reported-in-Some-clause-ok
returns-in_ok-reported-in-Some-clause-ok g c =
    let reported = c.in_ok-reported-in-Some.reported in
    bounded _ _ _ _ _ _ _ _ _ c.in-Some.is
    (reported.outcomes.items, rw c.end_with-in-Some.ensures.status c.in_ok-reported-in-Some.ensures.ok)

pub returns-in_ok-reported-in-Some-clause-refused : goal.returns-in_ok-reported-in-Some-clause-refused
returns-in_ok-reported-in-Some-clause-refused g c =
    refused_if_printed _ _ _ _ _ _ _ _ (returns-in_ok-reported-in-Some-clause-ok g c)
