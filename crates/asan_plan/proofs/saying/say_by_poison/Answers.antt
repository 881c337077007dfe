use Rattle.std.proofs.Common.{inl, inr, arith}
use Rattle.asan_plan.proofs.Stating.{poison_next}
use Rattle.asan_plan.proofs.saying.say_by_poison.Goals.{then-front-gt0, else-front-gt0}
use Rattle.asan_plan.proofs.saying.say_by_poison.Goals as goal

pub returns : goal.returns
returns c bound =
    poison_next bound c.poison.result c.args.granule c.if-front-gt0.to c.args.here c.args.next
    (rw (c.front-2.ensures) at c.poison.ensures.at) c.poison.ensures.end c.poison.ensures.kind c.requires.some
    (elim c.if-front-gt0.branch [
      | then-front-gt0 w ↦ inl (omega arith, omega arith)
      | else-front-gt0 w ↦ inr (omega arith, omega arith, c.requires.recorded, c.requires.other)
    ])
