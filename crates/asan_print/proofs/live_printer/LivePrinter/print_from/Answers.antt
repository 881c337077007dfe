use Rattle.std.proofs.Common.{[], ◌∷◌, ◌++◌, ap, ◌∙◌, arith, append_assoc, length-append}
use Rattle.asan_print.proofs.Logging.{adds_report, still_on}
use Rattle.asan_print.proofs.live_printer.LivePrinter.print_from.Goals as goal

pub loop-count-preserved : goal.loop-count-preserved
loop-count-preserved g c =
    let report = c.in-Some-take.report in
    let more = c.loop-count.invariant.taken.0 in
    let count = c.loop-count.invariant.taken.2 in
    record {
      lane = c.take.ensures.lane ∙ c.loop-count.invariant.lane;
      taken = (
        more ++ report ∷ [],
        c.in-Some-take.ensures.some ∙ ap (λ xs. xs ++ report ∷ []) c.loop-count.invariant.taken.1
            ∙ append_assoc _ more (report ∷ []),
        omega (arith, length-append more (report ∷ [])),
      );
      first = λ none. absurd (omega arith);
      lines = λ start log r own. adds_report start _ _ _ _ c.args.process report _ _ log c.in-Some-take.ensures.some
          (c.report.ensures.prints start) (c.loop-count.invariant.lines start log r own);
      still = still_on _ _ _ _ _ _ c.report.ensures.broken c.loop-count.invariant.still;
    }
