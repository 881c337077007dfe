use Rattle.std.proofs.lemmas.List.Elements.{recursion_from_All}
use Rattle.std.proofs.Common.{arith}
use Rattle.text_laws.specs.Numbers.{OutcomeFits}
use Rattle.text_laws.proofs.Texts.{outcomes_read}
use Rattle.text_laws.proofs.laws.outcomes_have_one_reading.Goals as goal

pub returns : goal.returns
returns g c outcomes others few fit fit_too e =
    outcomes_read 0 outcomes others (omega arith) (recursion_from_All OutcomeFits outcomes fit)
    (recursion_from_All OutcomeFits others fit_too) e
