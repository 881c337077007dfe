use Rattle.std.proofs.Common.{◌≡◌, true, false, arith}
use Rattle.std.proofs.lemmas.Bool.Decides.{nat_tests}
use Rattle.shadow_map.specs.Checks.{is_negative}
use Rattle.shadow_map.proofs.Queries.{deciding_shown}
use Rattle.shadow_map.proofs.shadow.Shadow.cause.Goals as goal

pub returns-then-own-lt-MIN_CODE-clause-deciding : goal.returns-then-own-lt-MIN_CODE-clause-deciding
returns-then-own-lt-MIN_CODE-clause-deciding g c marks shows =
    let own = c.value-own.ensures.shown marks shows in
    let low = c.if-own-lt-MIN_CODE.true in
    let test : is_negative c.value-own.result ≡ false = grind (arith, nat_tests) in
    rw (deciding_shown marks shows.are_marks c.args.at c.value-own.result own, test)
    (c.value-deciding.ensures.shown marks shows)

pub returns-else-own-lt-MIN_CODE-clause-deciding : goal.returns-else-own-lt-MIN_CODE-clause-deciding
returns-else-own-lt-MIN_CODE-clause-deciding g c marks shows =
    let own = c.value-own.ensures.shown marks shows in
    let high = c.if-own-lt-MIN_CODE.false in
    let test : is_negative c.value-own.result ≡ true = grind (arith, nat_tests) in
    rw (deciding_shown marks shows.are_marks c.args.at c.value-own.result own, test) own
