use Rattle.shadow_map.proofs.Queries as queries
use Rattle.shadow_map.proofs.laws.shadow_check_finds_the_bad_byte.Goals as goal

pub returns : goal.returns
returns c = queries.shadow_check_finds_the_bad_byte
