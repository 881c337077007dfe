use Rattle.std.proofs.Common.{◌≡◌, ℕ, refl, ap, ◌∙◌}
use Rattle.shadow_map.specs.States.{State, state_of}
use Rattle.shadow_map.specs.Causes.{deciding_granule}
use Rattle.asan_check.specs.History.{marks}
use Rattle.asan_check.specs.Codes.{class_of_code}
use Rattle.asan_check.specs.Verdicts.{class_of}
use Rattle.asan_check.proofs.Classes.{class_shown}
use Rattle.asan_check.proofs.checker.Checker.bad_access.Goals as goal

pub returns : goal.returns
returns g c bound past shown bad_is =
    let at = c.args.access.now.at in
    let cause = c.cause-cause.ensures in
    let own = rw c.at.ensures at (cause.own (marks bound past) shown.shadow) in
    let deciding = rw c.at.ensures at (cause.deciding (marks bound past) shown.shadow) in
    let states : ℕ → State = state_of (marks bound past) in
    let class : c.class_by.result ≡ class_of states at =
    c.class_by.ensures ∙ ap class_of_code deciding ∙ class_shown states (deciding_granule states at) in
    rw (bad_is, c.width.ensures, c.at-2.ensures, class, own) refl
