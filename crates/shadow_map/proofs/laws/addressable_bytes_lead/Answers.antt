use Rattle.shadow_map.proofs.Queries as queries
use Rattle.shadow_map.proofs.laws.addressable_bytes_lead.Goals as goal

pub returns : goal.returns
returns c = queries.addressable_bytes_lead
