use Rattle.asan_laws.proofs.Beginning.{begins_with_blocks, begins_quietly, snapshot_of_all}
use Rattle.asan_laws.proofs.recording.a_segment_begins_with_the_blocks_of_the_run.Goals as goal

pub returns-clause-blocks : goal.returns-clause-blocks
returns-clause-blocks c = begins_with_blocks

pub returns-clause-quiet : goal.returns-clause-quiet
returns-clause-quiet c = begins_quietly

pub returns-clause-snapshot : goal.returns-clause-snapshot
returns-clause-snapshot c = snapshot_of_all
