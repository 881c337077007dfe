use Rattle.shadow_map.proofs.Queries as queries
use Rattle.shadow_map.proofs.laws.bad_byte_of_an_access.Goals as goal

pub returns : goal.returns
returns c = queries.bad_byte_of_an_access
