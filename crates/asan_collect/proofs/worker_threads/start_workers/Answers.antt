use Rattle.std.proofs.Common.{◌≡◌, ◌<◌, ◌∙◌, refl, ap, length, arith, rules, slice_index_or, inl, inr, [], ◌∷◌}
use Rattle.std.proofs.lemmas.Bool.{cases_eq}
use Rattle.std.proofs.lemmas.List.{get_or_default, get_or-set_other, get_or_append_left, get_or_at}
use Rattle.asan_collect.proofs.worker_threads.start_workers.Goals as goal

pub loop-k-preserved : goal.loop-k-preserved
loop-k-preserved g c =
    let inv = c.loop-k.invariant in
    let now = c.loop-k.shares.items in
    let k = c.loop-k.k in
    let low : k < length now = omega (
      arith,
      c.loop-k-test.true,
      c.len-k-end.ensures,
      inv.0,
      c.loop-k.shares.ok.0,
    ) in
    let is : (d : _) → c.replace-share.result ≡ slice_index_or c.args.shares.now.items k d =
    λ d. c.replace-share.ensures.value ∙ (c.index_mut.ensures.value
    ∙ (get_or_default now k c.index_mut.result.now d low ∙ inv.1.rest k d (omega arith))) in
    let workers = c.loop-k.workers.items in
    let begun = c.begin.result in
    let long : length workers ≡ k = omega (arith, inv.1.done, c.loop-k.workers.ok.0) in
    let pushed = c.push_reserved.ensures.items in (
      inv.0,
      record {
        done = omega (arith, inv.1.done, c.push_reserved.ensures.len);
        fits = omega (arith, inv.1.fits, c.push_reserved.ensures.capacity);
        rest = λ i d above. get_or-set_other now k i c.replace-share.new.dest d (λ e. omega arith)
            ∙ inv.1.rest i d (omega arith);
        each = λ i d e below. elim (cases_eq i k) [
          | inl same ↦ rw (same, ← is d, pushed, get_or_at workers begun [] e k long) c.begin.ensures
          | inr other ↦ let first : i < length workers = omega arith in
              rw (pushed, get_or_append_left workers (begun ∷ []) e i first) (inv.1.each i d e (omega arith))
        ];
      },
    )

pub returns-clause-begun : goal.returns-clause-begun
returns-clause-begun g c = record {
  same_length = search rules;
  each = λ i d e below. c.loop-k.invariant.1.each i d e (search rules);
}

pub loop-k-init : goal.loop-k-init
loop-k-init g c = (
  refl,
  record {
    done = (let whole = c.args.room.ok in omega (arith, whole.0, ap length c.requires.empty));
    fits = c.requires.room;
    rest = λ i d above. refl;
    each = λ i d e below. absurd (omega arith);
  },
)

pub push_reserved-requires : goal.push_reserved-requires
push_reserved-requires g c =
    let inv = c.loop-k.invariant in
    omega (arith, c.loop-k-test.true, c.len-k-end.ensures, inv.1.done, inv.1.fits)
