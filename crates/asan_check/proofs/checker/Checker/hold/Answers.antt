use Rattle.std.proofs.Common.{◌≡◌, ◌<◌, ◌≤◌, ◌+◌, ◌-◌, List, [], ◌∷◌, ◌++◌, refl, subst, ◌∙◌, arith}
use Rattle.std.specs.Prelude.{sum_by}
use Rattle.heap_book.specs.Spans.{Extent, span_bytes}
use Rattle.asan_units.specs.Units.{round_up}
use Rattle.asan_check.specs.History.{marks, freed_mark, released_mark}
use Rattle.asan_check.proofs.Frees.{releasing_starts, releasing_goes_on, releasing_ends, marked_push}
use Rattle.asan_check.proofs.checker.Checker.hold.Goals as goal

pub loop-oldest-init : goal.loop-oldest-init
loop-oldest-init g c = record {
  tally = record { failed = refl; checked = refl; reports = refl; room = refl; bound = refl };
  releasing = λ bound past p f. (
    [],
    rw f.queue (releasing_starts bound past p c.args.block.now f.was_live f.here),
    (let end : c.to.result - 32 ≡ c.args.block.now.at + round_up c.args.block.now.size = let e = c.to.ensures.to in
        omega arith in
        rw (c.at.ensures.at, end) at (c.in_ok-mark.ensures.ok (marks bound past) f.shadow)),
    f.live_blocks,
  );
}

pub loop-oldest-preserved : goal.loop-oldest-preserved
loop-oldest-preserved g c =
    let kept = c.loop-oldest.invariant.tally in
    let released = c.in-Some.ensures.released in
    record {
      tally = record {
        failed = kept.failed;
        checked = kept.checked;
        reports = kept.reports;
        room = kept.room;
        bound = released.bound
            ∙ kept.bound;
      };
      releasing = λ bound past p f.
          let was = c.loop-oldest.invariant.releasing bound past p f in
          let oldest = c.in-Some.oldest in
          let b = c.args.block.now in
          let queue = c.loop-oldest.self.book.queue in
          let over : bound < sum_by span_bytes queue =
          subst (λ n. n < sum_by span_bytes queue) (kept.bound ∙ f.bound_is) c.in-Some.ensures.past in
          let more = subst (λ (q : List Extent). bound < sum_by span_bytes q) released.queue over in (
            was.0 ++ oldest ∷ [],
            releasing_goes_on bound past p b f.was_live f.here was.0 oldest c.evict.new.self.queue
                (rw released.queue at was.1) more,
            rw (marked_push released_mark was.0 oldest (freed_mark b ∷ marks bound past))
                (rw (c.from.ensures.from, c.to-in-Some.ensures.to) at (c.in_ok-mark-2.ensures.ok _ was.2)),
            rw released.live was.3,
          );
    }

pub returns-clause-ok : goal.returns-clause-ok
returns-clause-ok g c bound past p f =
    let was = c.loop-oldest.invariant.releasing bound past p f in
    let kept = c.loop-oldest.invariant.tally in
    let same = c.in_default.ensures.unchanged in
    let b = c.args.block.now in
    let within : sum_by span_bytes c.loop-oldest.self.book.queue ≤ bound =
    rw (← f.bound_is, ← kept.bound) c.in_default.ensures.within in
    let ends = releasing_ends bound past p b f.was_live f.here was.0 c.loop-oldest.self.book.queue was.1 within in
    record {
      shadow = rw ends.1 was.2;
      live_blocks = rw same was.3;
      queue = rw same ends.0;
      bound_is = rw same (kept.bound ∙ f.bound_is);
    }
