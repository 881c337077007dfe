use Rattle.std.proofs.Common.{◌≡◌, ℕ, true, eqb, arith, length, refl}
use Rattle.std.specs.Prelude.{vec_len}
use Rattle.std.proofs.lemmas.Bool.Decides.{nat_tests}
use Rattle.std.proofs.lemmas.List.{nil_from_length}
use Rattle.asan_collect.proofs.worker_threads.begin.Goals as goal

is_zero : (n : ℕ) → true ≡ eqb n 0 → n ≡ 0
is_zero n same = grind (arith, nat_tests)

pub returns-then-is_empty : goal.returns-then-is_empty
returns-then-is_empty g c =
    let share = c.args.share in
    let none : vec_len share ≡ 0 = is_zero (vec_len share) c.if-is_empty.ensures in
    let zero : length share.items ≡ 0 = (let is = share.ok.0 in omega arith) in
    rw (nil_from_length share.items zero) (
      record { same_length = refl; each = λ i d below. absurd (omega arith) },
      λ i d below. absurd (omega arith),
    )

pub returns-in-Ok : goal.returns-in-Ok
returns-in-Ok g c benches later =
    let promise = c.in-Ok.ensures.ok in
    rw c.of.ensures at (rw promise at later)
