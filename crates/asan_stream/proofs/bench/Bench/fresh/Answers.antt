use Rattle.std.proofs.Common.{[], refl, sym, subst, inl}
use Rattle.asan_check.specs.Standing.{reports_of}
use Rattle.asan_stream.specs.Checking.{StandsAfter}
use Rattle.asan_stream.proofs.Reporting.{holds_more}
use Rattle.asan_stream.proofs.bench.Bench.fresh.Goals as goal

pub invariant_of-result-clause-stands : goal.invariant_of-result-clause-stands
invariant_of-result-clause-stands g c =
    let none : StandsAfter c.args.checker [] = ∣ inl c.requires.stands ∣₁ in
    subst (λ items. StandsAfter c.args.checker items) (sym c.requires.fresh) none

pub invariant_of-result-clause-sends : goal.invariant_of-result-clause-sends
invariant_of-result-clause-sends g c = holds_more c.args.outbox [] (reports_of c.args.checker) refl
    c.requires.fresh_outbox
