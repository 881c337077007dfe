use Rattle.std.proofs.Common.{◌≡◌, ◌<◌, ◌∙◌, length, arith, rules, slice_index_or, inl, inr}
use Rattle.std.proofs.lemmas.Bool.{cases_eq}
use Rattle.std.proofs.lemmas.List.{get_or_default, get_or-set_other, get_or-set_same}
use Rattle.asan_senders.proofs.joining.join_workers.Goals as goal

pub loop-k-preserved : goal.loop-k-preserved
loop-k-preserved g c =
    let inv = c.loop-k.invariant in
    let now = c.loop-k.workers.items in
    let shares = c.loop-k.shares.items in
    let k = c.loop-k.k in
    let low : k < length now = search rules in
    let here : k < length shares = search rules in
    let is : (d : _) → c.replace-checker.result ≡ slice_index_or c.args.workers.items k d =
    λ d. c.replace-checker.ensures.value ∙ (c.index_mut.ensures.value
    ∙ (get_or_default now k c.index_mut.result.now d low ∙ inv.rest k d (omega arith))) in
    record {
      same = inv.same;
      all = inv.all;
      rest = λ i d above. get_or-set_other now k i c.replace-checker.new.dest d (λ e. omega arith)
          ∙ inv.rest i d (omega arith);
      done = λ i d e below. elim (cases_eq i k) [
        | inl same ↦ rw (same, ← is d, get_or-set_same shares k c.end.result e here) c.end.ensures
        | inr other ↦ rw (get_or-set_other shares k i c.end.result e other) (inv.done i d e (omega arith))
      ];
    }

pub returns : goal.returns
returns g c = record {
  same_length = search rules;
  each = λ i d e below. c.loop-k.invariant.done i d e (search rules);
}
