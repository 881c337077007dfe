use Rattle.std.proofs.Common.{◌≡◌, ◌≤◌, take, length, arith, [], ◌++◌, sym, subst}
use Rattle.std.proofs.lemmas.Grind.{common_steps}
use Rattle.std.proofs.lemmas.List.{take_all, append-nil}
use Rattle.std.proofs.lemmas.Result.{err_from_is_err_and}
use Rattle.asan_stream.specs.Outcomes.{reports_of}
use Rattle.asan_stream.specs.Ranges.{most_reports}
use Rattle.asan_senders.specs.Texts.{texts_from, outcome_text}
use Rattle.asan_print.proofs.Prints.{prints_then, breaks_then, breaks_more, front_out, if_err}
use Rattle.asan_senders.proofs.Prints.{texts_more, texts_rest}
use Rattle.asan_senders.proofs.write.write_outcomes.Goals as goal

pub loop-process-preserved : goal.loop-process-preserved
loop-process-preserved g c =
    let xs = c.args.outcomes.now in
    let i = c.loop-process.process in
    let x = c.index-outcomes-process.result in
    record {
      prints = rw (texts_more xs i x c.loop-process-test.true c.index-outcomes-process.is)
          (prints_then _ _ _ c.new-printer.result c.loop-process.printer c.print_outcome.new.printer
          (texts_from 0 (take i xs)) (outcome_text i x) c.loop-process.invariant.prints
          c.in_ok-print_outcome.ensures.ok);
      empty = c.loop-process.invariant.empty;
      fresh = c.loop-process.invariant.fresh;
      grows = let a = c.loop-process.invariant.grows in let b = c.in_ok-print_outcome.ensures.grows in omega arith;
    }

pub returns-clause-fault : goal.returns-clause-fault
returns-clause-fault g c =
    let xs = c.args.outcomes.now in
    let all : take c.loop-process.process xs ≡ xs = take_all _ xs (omega arith) in
    if_err c.send.result _ _ c.send.ensures.fault (λ e off.
    (front_out _ _ c.new-printer.result (texts_from 0 xs) e.written c.loop-process.invariant.empty
    c.loop-process.invariant.fresh
    (rw (append-nil (texts_from 0 xs)) at (breaks_then _ _ _ c.new-printer.result c.loop-process.printer
    (texts_from 0 xs) [] e.written (rw all at c.loop-process.invariant.prints) off))).0)

pub returns-in_err-print_outcome-clause-fault : goal.returns-in_err-print_outcome-clause-fault
returns-in_err-print_outcome-clause-fault g c =
    let xs = c.args.outcomes.now in
    let i = c.loop-process.process in
    let x = c.index-outcomes-process.result in
    let p = err_from_is_err_and c.from_residual.result c.from_residual.ensures.1 in
    let rest = texts_rest xs i x c.loop-process-test.true c.index-outcomes-process.is in
    let off = breaks_more _ _ c.new-printer.result (texts_from 0 (take i xs) ++ outcome_text i x) rest.0 _
    (breaks_then _ _ _ c.new-printer.result c.loop-process.printer (texts_from 0 (take i xs)) (outcome_text i x) _
    c.loop-process.invariant.prints c.in_err-print_outcome.ensures.fault) in
    rw (p.1, p.2, rest.1) (front_out _ _ c.new-printer.result _ _ c.loop-process.invariant.empty
    c.loop-process.invariant.fresh off).0

pub returns-in_err-print_outcome-clause-short : goal.returns-in_err-print_outcome-clause-short
returns-in_err-print_outcome-clause-short g c =
    let xs = c.args.outcomes.now in
    let i = c.loop-process.process in
    let x = c.index-outcomes-process.result in
    let p = err_from_is_err_and c.from_residual.result c.from_residual.ensures.1 in
    let rest = texts_rest xs i x c.loop-process-test.true c.index-outcomes-process.is in
    let off = breaks_more _ _ c.new-printer.result (texts_from 0 (take i xs) ++ outcome_text i x) rest.0 _
    (breaks_then _ _ _ c.new-printer.result c.loop-process.printer (texts_from 0 (take i xs)) (outcome_text i x) _
    c.loop-process.invariant.prints c.in_err-print_outcome.ensures.fault) in
    rw (p.1, p.2, rest.1) (front_out _ _ c.new-printer.result _ _ c.loop-process.invariant.empty
    c.loop-process.invariant.fresh off).1

pub loop-process-init : goal.loop-process-init
loop-process-init g c = grind (arith, common_steps)

pub print_outcome-requires-clause-few : goal.print_outcome-requires-clause-few
print_outcome-requires-clause-few g c =
    let x = c.index-outcomes-process.result in
    subst (λ o. length (reports_of o) ≤ most_reports) (sym c.index-outcomes-process.is)
    (c.requires.reports c.loop-process.process x c.loop-process-test.true)

pub returns-clause-ok : goal.returns-clause-ok
returns-clause-ok g c = grind (arith, common_steps)

pub returns-clause-short : goal.returns-clause-short
returns-clause-short g c = grind (arith, common_steps)
