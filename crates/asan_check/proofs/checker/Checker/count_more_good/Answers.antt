use Rattle.std.proofs.Common.{◌≡◌, ◌<◌, ◌+◌, [], ◌∷◌, ◌++◌, length, take, ◌∙◌, refl, sym, ap, arith}
use Rattle.std.proofs.lemmas.List.{take_more}
use Rattle.asan_check.proofs.Quiet.{one_more_quiet}
use Rattle.asan_check.proofs.checker.Checker.count_more_good.Goals as goal

pub loop-count-preserved : goal.loop-count-preserved
loop-count-preserved g c =
    let was = c.loop-count.invariant in
    let events = c.args.events.now in
    let i = c.loop-count.count in
    let event = c.index-events-count.result in
    let low : i < length events = c.loop-count-test.true in
    let one : take (i + 1) events ≡ take i events ++ event ∷ [] = take_more events i event low
    ∙ ap (λ e. take i events ++ e ∷ []) (sym c.index-events-count.is) in
    record {
      reads = c.if-is_good_access.ensures.still_reads;
      within = omega arith;
      quiet = one_more_quiet c.args.self.now events i event one was.quiet (c.if-is_good_access.ensures.good refl);
    }
