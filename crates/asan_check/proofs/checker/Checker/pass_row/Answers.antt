use Rattle.std.proofs.Common.{◌∙◌, sym, arith, take, length-append}
use Rattle.std.specs.Prelude.{reverse}
use Rattle.std.proofs.lemmas.List.{length-take-le, length-reverse}
use Rattle.asan_check.proofs.checker.Checker.pass_row.Goals as goal

pub returns-clause-stands : goal.returns-clause-stands
returns-clause-stands g c bound past at =
    let front = take c.count_good-count.result c.args.events.now in
    let good = c.count_good-count.ensures in
    let quiet = good.quiet bound past at.shown in
    let shown = quiet.0 in
    record {
      running = at.running;
      shown = record {
        shadow = shown.shadow;
        live_blocks = shown.live_blocks;
        queue = shown.queue;
        bound_is = shown.bound_is;
      };
      count = (let before = at.count in omega (
        arith,
        length-append (reverse front) past,
        length-reverse front,
        length-take-le c.count_good-count.result c.args.events.now good.most,
      ));
      reports = at.reports ∙ sym quiet.1;
    }

pub returns-clause-stops : goal.returns-clause-stops
returns-clause-stops g c bound past at = c.count_good-count.ensures.stops bound past at.shown
