use Rattle.asan_laws.proofs.HeldBlocks.{freed_again, not_handed_out, used_after_free}
use Rattle.asan_laws.proofs.runs.a_run_reports_what_comes_to_a_held_block.Goals as goal

pub returns-clause-double_free : goal.returns-clause-double_free
returns-clause-double_free c = freed_again

pub returns-clause-not_handed_out : goal.returns-clause-not_handed_out
returns-clause-not_handed_out c = not_handed_out

pub returns-clause-use_after_free : goal.returns-clause-use_after_free
returns-clause-use_after_free c = used_after_free
