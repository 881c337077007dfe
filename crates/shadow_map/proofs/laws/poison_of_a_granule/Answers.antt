use Rattle.std.proofs.Common.{refl, sym}
use Rattle.shadow_map.proofs.Bytes.{poison_makes}
use Rattle.shadow_map.proofs.laws.poison_of_a_granule.Goals as goal

pub returns : goal.returns
returns c marks are at size code granule is_code end =
    sym (poison_makes at size code (is_code, end) marks are granule _ refl)
