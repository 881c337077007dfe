use Rattle.asan_plan.proofs.saying.block_with.Goals as goal

pub returns-else-has_left-clause-fits : goal.returns-else-has_left-clause-fits
returns-else-has_left-clause-fits c bound least fits = c.made_up.ensures.fits bound least

pub returns-in-None-clause-fits : goal.returns-in-None-clause-fits
returns-in-None-clause-fits c bound least fits = c.made_up-in-None.ensures.fits bound least
