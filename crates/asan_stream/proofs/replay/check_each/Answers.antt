use Rattle.std.proofs.Common.{◌≡◌, ◌≤◌, ◌+◌, ◌++◌, ◌∙◌, ap, sym, arith, take, length}
use Rattle.std.specs.Prelude.{reverse}
use Rattle.std.proofs.lemmas.List.{take_rest, length-drop, take_all}
use Rattle.asan_check.specs.Standing.{bound_of, checked_of, reports_of}
use Rattle.asan_stream.proofs.Checking.{grown, begins_more}
use Rattle.asan_stream.proofs.Stepping.{passed_on, one_on, stepped, counted}
use Rattle.asan_stream.proofs.replay.check_each.Goals as goal

pub loop-from-preserved : goal.loop-from-preserved
loop-from-preserved g c =
    let events = c.args.events.now in
    let from = c.loop-from.from in
    let n = c.pass-from.result in
    let rest = take_rest events from in
    let most = rw rest at c.pass-from.ensures.most in
    record {
      within = (let within = c.loop-from.invariant.within in omega (arith, length-drop from events));
      bound = c.pass-from.ensures.bound ∙ c.loop-from.invariant.bound;
      counted = (let was = c.loop-from.invariant.counted in let now = c.pass-from.ensures.count in omega arith);
      found = λ bound past at. ap (take (length (reports_of c.args.checker.now))) c.pass-from.ensures.kept
          ∙ c.loop-from.invariant.found bound past at;
      stands = λ bound past at.
          passed_on bound _ _ from n events past (rw rest at c.pass-from.ensures.stands) c.pass-from.ensures.stays
          (c.loop-from.invariant.stands bound past at);
    }

pub loop-from-preserved-then-from-events : goal.loop-from-preserved-then-from-events
loop-from-preserved-then-from-events g c =
    let events = c.args.events.now in
    let from = c.loop-from.from in
    let n = c.pass-from.result in
    let rest = take_rest events from in
    let e = c.index-events-from.result in
    let same : c.fetch_ahead-ahead.new.checker ≡ c.pass-from.new.self = c.fetch_ahead-ahead.ensures.same in
    record {
      within = omega arith;
      bound = c.step.ensures.bound ∙ ap bound_of same ∙ c.pass-from.ensures.bound ∙ c.loop-from.invariant.bound;
      counted = (let was = c.loop-from.invariant.counted in let now = c.pass-from.ensures.count in
          let more : checked_of c.step.new.self ≤ checked_of c.fetch_ahead-ahead.new.checker + 1 =
          counted c.fetch_ahead-ahead.new.checker c.step.new.self c.step.result c.step.ensures.count
          c.step.ensures.kept in let fetched = ap checked_of same in omega arith);
      found = λ bound past at.
          let before = passed_on bound _ _ from n events past (rw rest at c.pass-from.ensures.stands)
          c.pass-from.ensures.stays (c.loop-from.invariant.stands bound past at) in
          let more = grown bound c.fetch_ahead-ahead.new.checker c.step.new.self c.step.result e
          (reverse (take (from + n) events) ++ past) c.step.ensures.checked c.step.ensures.kept c.step.ensures.stays
          (rw same before) in
          let was = ap (take (length (reports_of c.args.checker.now))) (ap reports_of same ∙ c.pass-from.ensures.kept)
          ∙ c.loop-from.invariant.found bound past at in
          ap (take (length (reports_of c.args.checker.now))) more.1 ∙ begins_more _ _ more.0 was;
      stands = λ bound past at.
          let before = passed_on bound _ _ from n events past (rw rest at c.pass-from.ensures.stands)
          c.pass-from.ensures.stays (c.loop-from.invariant.stands bound past at) in
          one_on bound _ events past (from + n) e (omega arith) (sym c.index-events-from.is)
          (stepped bound _ _ c.step.result e _ c.step.ensures.checked c.step.ensures.failed c.step.ensures.stays
          (rw same before));
    }

pub returns-clause-stands : goal.returns-clause-stands
returns-clause-stands g c bound past at =
    rw (take_all c.loop-from.from c.args.events.now (omega arith)) at c.loop-from.invariant.stands bound past at
