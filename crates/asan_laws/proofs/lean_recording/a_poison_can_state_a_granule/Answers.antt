use Rattle.asan_laws.proofs.Shown.{poison_whole, unpoison_whole, poison_part, unpoison_part, shade_beside}
use Rattle.asan_laws.proofs.lean_recording.a_poison_can_state_a_granule.Goals as goal

pub returns-clause-whole : goal.returns-clause-whole
returns-clause-whole c = poison_whole

pub returns-clause-good : goal.returns-clause-good
returns-clause-good c = unpoison_whole

pub returns-clause-fewer : goal.returns-clause-fewer
returns-clause-fewer c = poison_part

pub returns-clause-more : goal.returns-clause-more
returns-clause-more c = unpoison_part

pub returns-clause-beside : goal.returns-clause-beside
returns-clause-beside c = shade_beside
