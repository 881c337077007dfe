use Rattle.asan_senders.proofs.returns.rejoin_at.Goals as goal

pub returns-clause-back : goal.returns-clause-back
returns-clause-back g c = rw c.replace.ensures.after c.rejoin.ensures.back

pub returns-clause-fits : goal.returns-clause-fits
returns-clause-fits g c = λ lane fits keeps.
    rw c.replace.ensures.after (c.rejoin.ensures.fits lane (rw c.replace-was.ensures.value fits) keeps)

pub returns-clause-takes : goal.returns-clause-takes
returns-clause-takes g c = rw (c.replace.ensures.after, ← c.replace-was.ensures.value) c.rejoin.ensures.takes
