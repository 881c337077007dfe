use Rattle.shadow_map.proofs.Queries as queries
use Rattle.shadow_map.proofs.laws.shadow_byte_of_a_granule.Goals as goal

pub returns : goal.returns
returns c = queries.shadow_byte_of_a_granule
