use Rattle.std.proofs.Common.{◌≡◌, ◌<◌, ◌≤◌, ◌+◌, [], ◌∷◌, ◌++◌, length, take, ◌∙◌, refl, sym, ap, arith}
use Rattle.std.proofs.lemmas.List.{take_more}
use Rattle.std.specs.Prelude.{reverse}
use Rattle.asan_check.proofs.Quiet.{one_more_quiet, next_is, none_next}
use Rattle.asan_check.proofs.checker.Checker.count_good.Goals.{then-loop-count-test+else-is_good, else-loop-count-test}
use Rattle.asan_check.proofs.checker.Checker.count_good.Goals as goal

pub loop-count-preserved : goal.loop-count-preserved
loop-count-preserved g c =
    let was = c.loop-count.invariant in
    let events = c.args.events.now in
    let i = c.loop-count.count in
    let event = c.index-events-count.result in
    let low : i < length events = omega (arith, c.loop-count-test.true, c.min-few.ensures) in
    let one : take (i + 1) events ≡ take i events ++ event ∷ [] = take_more events i event low
    ∙ ap (λ e. take i events ++ e ∷ []) (sym c.index-events-count.is) in
    record {
      within = omega arith;
      quiet = one_more_quiet c.args.self.now events i event one was.quiet (c.if-is_good.ensures.good refl);
    }

pub returns-then-count-lt-FEW-clause-stops : goal.returns-then-count-lt-FEW-clause-stops
returns-then-count-lt-FEW-clause-stops g c bound past shown next later rest access =
    let events = c.args.events.now in
    let i = c.loop-count.count in
    elim c.loop-count-test.branch [
      | then-loop-count-test+else-is_good w ↦
          let low : i < length events = omega (arith, w.loop-count-test.true, c.min-few.ensures) in
          let is : next ≡ w.index-events-count.result = next_is events i w.index-events-count.result next later low
          w.index-events-count.is rest in
          rw is (w.if-is_good.ensures.bad refl bound (reverse (take i events) ++ past)
          (c.loop-count.invariant.quiet bound past shown).0 (rw is at access))
      | else-loop-count-test w ↦
          let all : length events ≤ i =
          omega (arith, w.loop-count-test.false, c.min-few.ensures, c.if-count-lt-FEW.true) in
          none_next events i next later all rest
    ]
