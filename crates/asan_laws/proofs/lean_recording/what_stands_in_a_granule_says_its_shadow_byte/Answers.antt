use Rattle.asan_laws.proofs.RunShown.{byte_in_run, shown_as_in_run}
use Rattle.asan_laws.proofs.Shown.{byte_shown, both_shown, found_shown}
use Rattle.asan_laws.proofs.lean_recording.what_stands_in_a_granule_says_its_shadow_byte.Goals as goal

pub returns-clause-byte : goal.returns-clause-byte
returns-clause-byte c = byte_shown

pub returns-clause-same : goal.returns-clause-same
returns-clause-same c = both_shown

pub returns-clause-in_run : goal.returns-clause-in_run
returns-clause-in_run c = byte_in_run

pub returns-clause-as_in_run : goal.returns-clause-as_in_run
returns-clause-as_in_run c = shown_as_in_run

pub returns-clause-finds : goal.returns-clause-finds
returns-clause-finds c = found_shown
