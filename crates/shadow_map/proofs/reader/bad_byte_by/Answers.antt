use Rattle.std.proofs.Common.{◌≡◌, ℕ, ◌+◌, ◌-◌, ◌%◌, ◌<◌, ◌≤◌, cond, ltb, min, max, true, false, Option, Some, None}
use Rattle.std.proofs.Common.{refl, arith}
use Rattle.std.proofs.lemmas.Bool.Decides.{nat_tests}
use Rattle.shadow_map.proofs.Queries.{bad_byte_shown}
use Rattle.shadow_map.proofs.reader.bad_byte_by.Goals as goal

-- the answer of the number of first bytes that are addressable
module _ (answer : Option ℕ) (base bad bad' end end' : ℕ) (is : answer ≡ cond (ltb bad' end') (Some (base + bad')) None)
    (same : bad ≡ bad') (stop : end ≡ end') where
  found : bad < end → Some (base + bad) ≡ answer
  found lt = let within : ltb bad' end' ≡ true = grind (arith, nat_tests) in rw (is, within, same) refl

  none : end ≤ bad → None ≡ answer
  none le = let past : ltb bad' end' ≡ false = grind (arith, nat_tests) in rw (is, past) refl

pub returns-then-bad-place : goal.returns-then-bad-place
returns-then-bad-place c marks are is_shown =
    let is = bad_byte_shown marks are c.args.at c.args.size c.args.shadow is_shown in
    let front_is = c.front.ensures in
    found _ (c.args.at - c.args.at % 8) c.max-bad.result _ (c.args.at % 8 + c.min.result) _ is
    (rw (← front_is) c.max-bad.ensures) (rw (← c.min.ensures) refl) c.if-bad-place.true

pub returns-else-bad-place : goal.returns-else-bad-place
returns-else-bad-place c marks are is_shown =
    let is = bad_byte_shown marks are c.args.at c.args.size c.args.shadow is_shown in
    let front_is = c.front.ensures in
    none _ (c.args.at - c.args.at % 8) c.max-bad.result _ (c.args.at % 8 + c.min.result) _ is
    (rw (← front_is) c.max-bad.ensures) (rw (← c.min.ensures) refl) c.if-bad-place.false

pub returns-then-shadow-eq0 : goal.returns-then-shadow-eq0
returns-then-shadow-eq0 c marks are is_shown =
    let is = bad_byte_shown marks are c.args.at c.args.size c.args.shadow is_shown in
    let zero : c.args.shadow ≡ 0 = omega arith in
    none _ (c.args.at - c.args.at % 8) (max (c.args.at % 8) 8) _ (c.args.at % 8 + min c.args.size (8 - c.args.at % 8)) _
    (rw zero at is) refl refl (omega arith)
