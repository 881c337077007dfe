use Rattle.asan_laws.proofs.Shown.{shadow_malloc, shadow_free, shadow_shade, shadow_access}
use Rattle.asan_laws.proofs.Shown.{shadow_refused, shadow_bad_free}
use Rattle.asan_laws.proofs.lean_recording.a_recorder_can_keep_the_shadow.Goals as goal

pub returns-clause-malloc : goal.returns-clause-malloc
returns-clause-malloc c = shadow_malloc

pub returns-clause-free : goal.returns-clause-free
returns-clause-free c = shadow_free

pub returns-clause-shade : goal.returns-clause-shade
returns-clause-shade c = shadow_shade

pub returns-clause-access : goal.returns-clause-access
returns-clause-access c = shadow_access

pub returns-clause-refused : goal.returns-clause-refused
returns-clause-refused c = shadow_refused

pub returns-clause-bad_free : goal.returns-clause-bad_free
returns-clause-bad_free c = shadow_bad_free
