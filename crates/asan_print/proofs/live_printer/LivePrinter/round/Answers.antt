use Rattle.std.proofs.Common.{rules, ◌≡◌, ◌+◌, ◌<◌, ◌≤◌, ◌∙◌, length, slice_index_or, slice_set, true, cond, ap, refl}
use Rattle.std.proofs.Common.{sym, subst, arith}
use Rattle.std.proofs.lemmas.List.{get_or_default}
use Rattle.asan_print.proofs.Logging.{still_on}
use Rattle.asan_print.proofs.Rounds.{Asked, asked_none, asked_on, lanes_refl, lanes_on, follows_on, follows_flushed}
use Rattle.asan_print.proofs.Rounds.{taken_apart}
use Rattle.asan_print.proofs.live_printer.LivePrinter.round.Goals.{then-print_from, else-print_from}
use Rattle.asan_print.proofs.live_printer.LivePrinter.round.Goals as goal

pub loop-process-init : goal.loop-process-init
loop-process-init g c = record {
  lanes = lanes_refl c.args.ports.now;
  lines = λ start f. f;
  still = λ broken. (refl, refl);
  asked = asked_none c.args.ports.now;
}

pub loop-process-preserved : goal.loop-process-preserved
loop-process-preserved g c =
    let ports = c.loop-process.ports in
    let process = c.loop-process.process in
    let some = c.index-ports-process.result in
    let old = slice_index_or ports process some in
    let new = c.print_from.new.port in
    let took = c.print_from.result in
    let low : process < length ports = search rules in
    let is : old ≡ slice_index_or ports process old = get_or_default ports process some old low in
    let any : cond took true c.loop-process.any ≡ c.if-print_from.any = elim c.if-print_from.branch [
      | then-print_from w ↦ ap (λ b. cond b true c.loop-process.any) w.if-print_from.true ∙ sym w.any-is
      | else-print_from w ↦ ap (λ b. cond b true c.loop-process.any) w.if-print_from.false ∙ sym w.any-is
    ] in
    let called = c.print_from.ensures in
    record {
      lanes = lanes_on c.args.ports.now ports process old new low is called.lane c.loop-process.invariant.lanes;
      lines = λ start f. follows_on start _ _ _ _ ports process old new low is (called.lines start)
          (c.loop-process.invariant.lines start f);
      still = still_on _ _ _ _ _ _ called.broken c.loop-process.invariant.still;
      asked =
          subst (Asked c.args.ports.now (slice_set ports process new) (process + 1)) any
          (asked_on c.args.ports.now ports process old new took c.loop-process.any low is called.takes called.none
          called.some called.finds c.loop-process.invariant.asked);
    }

pub returns-clause-lines : goal.returns-clause-lines
returns-clause-lines g c = λ start f. follows_flushed start _ _ _ _ c.loop-process.ports (c.flush.ensures.lines start)
    (c.loop-process.invariant.lines start f)

pub returns-clause-takes : goal.returns-clause-takes
returns-clause-takes g c =
    let all : length c.args.ports.now ≤ c.loop-process.process = search rules in
    λ i d within. c.loop-process.invariant.asked.takes i d (omega arith) within

pub returns-clause-some : goal.returns-clause-some
returns-clause-some g c = λ yes. taken_apart c.args.ports.now c.loop-process.ports
    (c.loop-process.invariant.asked.some yes)

pub returns-clause-finds : goal.returns-clause-finds
returns-clause-finds g c =
    let all : length c.args.ports.now ≤ c.loop-process.process = search rules in
    λ i d within has. c.loop-process.invariant.asked.finds i d (omega arith) has

pub returns-clause-broken : goal.returns-clause-broken
returns-clause-broken g c = still_on _ _ _ _ _ _ c.flush.ensures.broken c.loop-process.invariant.still
