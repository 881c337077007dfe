use Rattle.asan_laws.proofs.RunBlocks.{are_marks_in}
use Rattle.asan_laws.proofs.RunShown.{malloc_makes, free_makes, release_makes, shade_makes, access_makes}
use Rattle.asan_laws.proofs.RunShown.{refused_makes, bad_free_makes, none_released_makes}
use Rattle.asan_laws.proofs.runs.a_shadow_can_follow_a_run.Goals as goal

pub returns-clause-malloc : goal.returns-clause-malloc
returns-clause-malloc c = malloc_makes

pub returns-clause-free : goal.returns-clause-free
returns-clause-free c = free_makes

pub returns-clause-release : goal.returns-clause-release
returns-clause-release c = release_makes

pub returns-clause-shade : goal.returns-clause-shade
returns-clause-shade c = shade_makes

pub returns-clause-access : goal.returns-clause-access
returns-clause-access c = access_makes

pub returns-clause-refused : goal.returns-clause-refused
returns-clause-refused c = refused_makes

pub returns-clause-bad_free : goal.returns-clause-bad_free
returns-clause-bad_free c = bad_free_makes

pub returns-clause-none_released : goal.returns-clause-none_released
returns-clause-none_released c = none_released_makes

pub returns-clause-marks : goal.returns-clause-marks
returns-clause-marks c = are_marks_in
