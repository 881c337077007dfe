use Rattle.asan_laws.proofs.StatedBlocks.{stated_live, stated_held, stated_around, stated_redzone}
use Rattle.asan_laws.proofs.lean_recording.a_stated_block_looks_as_in_the_run.Goals as goal

pub returns-clause-live : goal.returns-clause-live
returns-clause-live c bound recorded run r granule ok also inside clear =
    stated_live bound recorded run r granule ok also inside clear

pub returns-clause-held : goal.returns-clause-held
returns-clause-held c bound recorded run r p granule ok within also here inside clear =
    stated_held bound recorded run r granule ok p within also here inside clear

pub returns-clause-around_held : goal.returns-clause-around_held
returns-clause-around_held c bound recorded run r p granule ok within also here inside outside clear =
    stated_around bound recorded run r granule ok p within also here inside outside clear

pub returns-clause-redzone : goal.returns-clause-redzone
returns-clause-redzone c bound recorded run r granule ok inside outside is =
    stated_redzone bound recorded run r granule ok inside outside is
