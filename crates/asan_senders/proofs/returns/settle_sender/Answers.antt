use Rattle.asan_senders.proofs.returns.settle_sender.Goals as goal

pub returns-clause-outcome : goal.returns-clause-outcome
returns-clause-outcome g c = λ options a came.
    c.settle_joined.ensures.outcome options a (rw c.in-Joined.is at came)
