use Rattle.std.proofs.Common.{◌<◌, length, take, refl, sym, ap, ◌∙◌, arith}
use Rattle.asan_check.specs.Standing.{checked_of}
use Rattle.asan_check.specs.Traces.{verdicts}
use Rattle.asan_stream.proofs.Checking.{whole_stream, first_of_stream}
use Rattle.asan_stream.proofs.replay.outcome_of.Goals as goal

pub returns-then-checked-events-clause-results : goal.returns-then-checked-events-clause-results
returns-then-checked-events-clause-results g c bound handed stands count =
    let checked = c.checked-checked.ensures in
    let short : checked_of c.args.checker < length handed = let less = c.if-checked-events.true in omega arith in (
      refl,
      refl,
      (let less = c.if-checked-events.true in omega arith),
      c.into_reports-reports.ensures ∙ first_of_stream bound c.args.checker handed stands short
          ∙ ap (λ n. verdicts bound (take n handed)) (sym checked),
    )

pub returns-else-checked-events-clause-results : goal.returns-else-checked-events-clause-results
returns-else-checked-events-clause-results g c bound handed stands count = (
  refl,
  refl,
  c.into_reports-reports.ensures ∙ whole_stream bound c.args.checker handed stands
      (λ short. let checked = c.checked-checked.ensures in let not_less = c.if-checked-events.false in omega arith),
)
