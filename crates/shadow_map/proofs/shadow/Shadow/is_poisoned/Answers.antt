use Rattle.std.proofs.Common.{arith}
use Rattle.std.proofs.lemmas.Bool.Decides.{nat_tests}
use Rattle.shadow_map.proofs.Queries.{addressable_shown}
use Rattle.shadow_map.proofs.shadow.Shadow.is_poisoned.Goals as goal

pub returns : goal.returns
returns g c marks shows =
    let is = addressable_shown marks shows.are_marks c.args.at c.value.result (c.value.ensures.shown marks shows) in
    let front_is = c.front.ensures in
    rw (is, front_is) (grind (arith, nat_tests))
