use Rattle.std.proofs.Common.{◌≡◌, true, false, [], ◌∷◌, ◌++◌, sym, ap, ◌∙◌}
use Rattle.std.specs.Prelude.{Contains, not}
use Rattle.std.specs.List.{list_any}
use Rattle.std.proofs.lemmas.List.Sorted.{list_any-IsPermutation, Contains-permutation}
use Rattle.std.proofs.lemmas.Result.{err_from_is_err_and}
use Rattle.heap_book.specs.Spans.{starts_at}
use Rattle.heap_book.proofs.Permutations.{IsPermutation-filter}
use Rattle.asan_check.specs.History.{live, held}
use Rattle.asan_check.proofs.Blocks.{none_at_zero}
use Rattle.asan_check.proofs.Faults.{free_of_null, free_of_any_live, free_of_live, free_of_held, free_of_none}
use Rattle.asan_check.proofs.Frees as frees
use Rattle.asan_check.proofs.Steps.{live_free}
use Rattle.asan_check.proofs.checker.Checker.free.Goals as goal

pub returns-in-Ignored-clause-ok : goal.returns-in-Ignored-clause-ok
returns-in-Ignored-clause-ok g c bound past shown =
    let p = c.args.place.now in
    let null = rw c.at-at.ensures at (rw c.in-Ignored.is at c.in_ok-free.ensures.answer) in
    let same = rw c.in-Ignored.is at c.in_ok-free.ensures.after in
    let none = none_at_zero bound past p.at null in (
      sym (free_of_null bound past p.at null),
      record {
        shadow = rw (frees.marks_stay bound past p none) shown.shadow;
        live_blocks = rw (same, frees.live_stays bound past p none) shown.live_blocks;
        queue = rw (same, frees.held_stays bound past p none) shown.queue;
        bound_is = rw same shown.bound_is;
      },
    )

pub returns-in_ok-hold-in-Held-clause-ok : goal.returns-in_ok-hold-in-Held-clause-ok
returns-in_ok-hold-in-Held-clause-ok g c bound past shown =
    let p = c.args.place.now in
    let b = c.in-Held.block in
    let answer = rw c.in-Held.is at c.in_ok-free.ensures.answer in
    let after = rw c.in-Held.is at c.in_ok-free.ensures.after in
    let here : b.at ≡ p.at = answer.1 ∙ c.at-at.ensures in
    let was_live : Contains (live bound past) b =
    Contains-permutation c.args.self.now.book.live (live bound past) b shown.live_blocks answer.2 in (
      sym (free_of_live bound past p.at b was_live here),
      c.in_ok-hold-in-Held.ensures.ok bound past p record {
        was_live = was_live;
        here = here;
        shadow = shown.shadow;
        live_blocks = rw (after.others, here, live_free bound p past)
            (IsPermutation-filter (λ x. not (starts_at p.at x)) c.args.self.now.book.live (live bound past)
            shown.live_blocks);
        queue = after.queue ∙ ap (λ queue. queue ++ b ∷ []) shown.queue;
        bound_is = after.bound ∙ shown.bound_is;
      },
    )

pub returns-in-Twice-clause-ok : goal.returns-in-Twice-clause-ok
returns-in-Twice-clause-ok g c bound past shown =
    let p = c.args.place.now in
    let answer = rw c.at-at.ensures at (rw c.in-Twice.is at c.in_ok-free.ensures.answer) in
    let same = rw c.in-Twice.is at c.in_ok-free.ensures.after in
    let none : list_any (starts_at p.at) (live bound past) ≡ false =
    sym (list_any-IsPermutation (starts_at p.at) c.args.self.now.book.live (live bound past) shown.live_blocks)
    ∙ answer.1 in
    let one : list_any (starts_at p.at) (held bound past) ≡ true = ap (list_any (starts_at p.at)) (sym shown.queue)
    ∙ answer.2 in (
      rw c.at-at.ensures (sym (free_of_held bound past p.at answer.0 none one)),
      record {
        shadow = rw (frees.marks_stay bound past p none) shown.shadow;
        live_blocks = rw (same, frees.live_stays bound past p none) shown.live_blocks;
        queue = rw (same, frees.held_stays bound past p none) shown.queue;
        bound_is = rw same shown.bound_is;
      },
    )

pub returns-in-Stranger-clause-ok : goal.returns-in-Stranger-clause-ok
returns-in-Stranger-clause-ok g c bound past shown =
    let p = c.args.place.now in
    let answer = rw c.at-at.ensures at (rw c.in-Stranger.is at c.in_ok-free.ensures.answer) in
    let same = rw c.in-Stranger.is at c.in_ok-free.ensures.after in
    let none : list_any (starts_at p.at) (live bound past) ≡ false =
    sym (list_any-IsPermutation (starts_at p.at) c.args.self.now.book.live (live bound past) shown.live_blocks)
    ∙ answer.1 in
    let other : list_any (starts_at p.at) (held bound past) ≡ false = ap (list_any (starts_at p.at)) (sym shown.queue)
    ∙ answer.2 in (
      rw c.at-at.ensures (sym (free_of_none bound past p.at answer.0 none other)),
      record {
        shadow = rw (frees.marks_stay bound past p none) shown.shadow;
        live_blocks = rw (same, frees.live_stays bound past p none) shown.live_blocks;
        queue = rw (same, frees.held_stays bound past p none) shown.queue;
        bound_is = rw same shown.bound_is;
      },
    )

-- nothing is wrong with a free that was refused memory
pub returns-in_err-free-clause-good : goal.returns-in_err-free-clause-good
returns-in_err-free-clause-good g c =
    let error = err_from_is_err_and c.from_residual.result c.from_residual.ensures.1 in
    rw error.1 (λ bound past shown.
    let p = c.args.place.now in
    let one = rw c.at-at.ensures at c.in_err-free.ensures.no_memory.1 in
    free_of_any_live bound past p.at
    (sym (list_any-IsPermutation (starts_at p.at) c.args.self.now.book.live (live bound past) shown.live_blocks) ∙ one))

pub returns-in_err-hold-in-Held-clause-good : goal.returns-in_err-hold-in-Held-clause-good
returns-in_err-hold-in-Held-clause-good g c =
    let error = err_from_is_err_and c.from_residual-in_err-hold-in-Held.result
    c.from_residual-in_err-hold-in-Held.ensures.1 in
    rw error.1 (λ bound past shown.
    let p = c.args.place.now in
    let b = c.in-Held.block in
    let answer = rw c.in-Held.is at c.in_ok-free.ensures.answer in
    free_of_live bound past p.at b
    (Contains-permutation c.args.self.now.book.live (live bound past) b shown.live_blocks answer.2)
    (answer.1 ∙ c.at-at.ensures))
