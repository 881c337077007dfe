use Rattle.std.proofs.Common.{refl, sym}
use Rattle.shadow_map.proofs.Bytes.{unpoison_makes}
use Rattle.shadow_map.proofs.laws.unpoison_of_a_granule.Goals as goal

pub returns : goal.returns
returns c marks are at size granule end = sym (unpoison_makes at size end marks are granule _ refl)
