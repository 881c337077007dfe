use Rattle.shadow_map.proofs.Queries as queries
use Rattle.shadow_map.proofs.laws.first_unaddressable_of_a_region.Goals as goal

pub returns : goal.returns
returns c = queries.first_unaddressable_of_a_region
