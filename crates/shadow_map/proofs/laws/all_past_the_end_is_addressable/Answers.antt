use Rattle.shadow_map.proofs.Ends as ends
use Rattle.shadow_map.proofs.laws.all_past_the_end_is_addressable.Goals as goal

pub returns : goal.returns
returns c = ends.all_past_the_end_is_addressable
