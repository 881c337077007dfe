use Rattle.asan_laws.proofs.Order.{meet_where_shared}
use Rattle.asan_laws.proofs.laws.blocks_meet_where_spans_share_a_byte.Goals as goal

pub returns : goal.returns
returns c = meet_where_shared
