use Rattle.std.proofs.Common.{◌≡◌, ◌<◌, [], ◌∷◌, ◌++◌, sym, ◌∙◌}
use Rattle.std.specs.Prelude.{IsPermutation}
use Rattle.std.proofs.lemmas.List.Sorted.{IsPermutation-sym, IsPermutation-trans, IsPermutation-append_comm}
use Rattle.std.proofs.lemmas.List.Sorted.{IsPermutation-append_left}
use Rattle.std.proofs.lemmas.Result.{err_from_is_err_and}
use Rattle.asan_check.specs.History.{block_of, live, marks}
use Rattle.asan_check.proofs.Blocks.{admits_by_any_order}
use Rattle.asan_check.proofs.Faults.{malloc_admitted, malloc_refused}
use Rattle.asan_check.proofs.Mallocs as mallocs
use Rattle.asan_check.proofs.checker.Checker.malloc.Goals as goal

pub returns-in_ok-block-in-Admitted-clause-ok : goal.returns-in_ok-block-in-Admitted-clause-ok
returns-in_ok-block-in-Admitted-clause-ok g c bound past shown =
    let r = c.args.region.now in
    let b = block_of r in
    let answer = rw c.in-Admitted.is at c.in_ok-admit.ensures.answer in
    let after = rw c.in-Admitted.is at c.in_ok-admit.ensures.after in
    let is : c.in-Admitted.block ≡ b = rw (c.at.ensures, c.size.ensures) at answer.0 in
    let may = rw (c.at.ensures, c.size.ensures, shown.queue) at answer.2 in
    let ok = sym (admits_by_any_order bound past c.args.self.now.book.live b shown.live_blocks) ∙ may in
    let old = c.args.self.now.book.live in
    let lives : IsPermutation c.admit.new.self.live (live bound past ++ b ∷ []) =
    IsPermutation-trans _ _ _ (IsPermutation-sym _ _ (rw is at after.live))
    (IsPermutation-trans (b ∷ old) (old ++ b ∷ []) (live bound past ++ b ∷ []) (IsPermutation-append_comm (b ∷ []) old)
    (IsPermutation-append_left (b ∷ []) old (live bound past) shown.live_blocks)) in (
      sym (malloc_admitted bound past r.at r.size ok),
      record {
        shadow = rw (mallocs.marks_after bound past r ok)
            (rw (c.at-in-Admitted.ensures.at, c.size-in-Admitted.ensures.size, is)
            at (c.in_ok-block-in-Admitted.ensures.ok (marks bound past) shown.shadow));
        live_blocks = rw (mallocs.live_after bound past r ok) lives;
        queue = after.queue ∙ shown.queue ∙ sym (mallocs.held_stays bound past r ok);
        bound_is = after.bound ∙ shown.bound_is;
      },
    )

pub returns-in-Refused-clause-ok : goal.returns-in-Refused-clause-ok
returns-in-Refused-clause-ok g c bound past shown =
    let r = c.args.region.now in
    let b = block_of r in
    let answer = rw c.in-Refused.is at c.in_ok-admit.ensures.answer in
    let same = rw c.in-Refused.is at c.in_ok-admit.ensures.after in
    let may = rw (c.at.ensures, c.size.ensures, shown.queue) at answer.1 in
    let not = sym (admits_by_any_order bound past c.args.self.now.book.live b shown.live_blocks) ∙ may in
    let some : 0 < r.at = rw c.at.ensures at answer.0 in (
      rw (c.at-in-Refused.ensures, c.size-in-Refused.ensures) (sym (malloc_refused bound past r.at r.size some not)),
      record {
        shadow = rw (mallocs.marks_stay_refused bound past r not) shown.shadow;
        live_blocks = rw (same, mallocs.live_stays_refused bound past r not) shown.live_blocks;
        queue = rw (same, mallocs.held_stays_refused bound past r not) shown.queue;
        bound_is = rw same shown.bound_is;
      },
    )

-- nothing is wrong with a malloc that was refused memory
pub returns-in_err-admit-clause-good : goal.returns-in_err-admit-clause-good
returns-in_err-admit-clause-good g c =
    let error = err_from_is_err_and c.from_residual.result c.from_residual.ensures.1 in
    rw error.1 (λ bound past shown.
    let r = c.args.region.now in
    let may = rw (c.at.ensures, c.size.ensures, shown.queue) at c.in_err-admit.ensures.no_memory in
    malloc_admitted bound past r.at r.size
    (sym (admits_by_any_order bound past c.args.self.now.book.live (block_of r) shown.live_blocks) ∙ may))

pub returns-in_err-block-in-Admitted-clause-good : goal.returns-in_err-block-in-Admitted-clause-good
returns-in_err-block-in-Admitted-clause-good g c =
    let error = err_from_is_err_and c.from_residual-in_err-block-in-Admitted.result
    c.from_residual-in_err-block-in-Admitted.ensures.1 in
    rw error.1 (λ bound past shown.
    let r = c.args.region.now in
    let answer = rw c.in-Admitted.is at c.in_ok-admit.ensures.answer in
    let may = rw (c.at.ensures, c.size.ensures, shown.queue) at answer.2 in
    malloc_admitted bound past r.at r.size
    (sym (admits_by_any_order bound past c.args.self.now.book.live (block_of r) shown.live_blocks) ∙ may))
