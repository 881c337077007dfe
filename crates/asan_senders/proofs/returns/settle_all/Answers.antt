use Rattle.std.proofs.Common.{◌≡◌, ◌<◌, ◌∙◌, [], ◌∷◌, sym, subst, refl, ap, length, arith, rules}
use Rattle.std.proofs.Common.{slice_index_or, inl, inr}
use Rattle.std.proofs.lemmas.Bool.{cases_eq}
use Rattle.std.proofs.lemmas.List.{get_or_default, get_or-set_other, get_or_append_left, get_or_at}
use Rattle.asan_senders.specs.Senders.{IsJoined}
use Rattle.asan_senders.proofs.returns.settle_all.Goals as goal

pub settle_sender-requires-clause-joined : goal.settle_sender-requires-clause-joined
settle_sender-requires-clause-joined g c =
    let inv = c.loop-i.invariant in
    let now = c.loop-i.senders.items in
    let i = c.loop-i.i in
    let whole = c.loop-i.senders.ok.0 in
    let low : i < length now = omega (arith, c.loop-i-test.true, c.len-i-end.ensures, inv.0) in
    let was = c.replace-sender.result in
    let is : was ≡ slice_index_or c.args.senders.items i was = c.replace-sender.ensures.value
    ∙ (c.index_mut.ensures.value ∙ (get_or_default now i c.index_mut.result.now was low
    ∙ inv.1.rest i was (omega arith))) in
    subst IsJoined (sym is) (c.requires.joined.each i was (omega (arith, inv.0, c.args.senders.ok.0)))

pub loop-i-preserved : goal.loop-i-preserved
loop-i-preserved g c =
    let inv = c.loop-i.invariant in
    let now = c.loop-i.senders.items in
    let i = c.loop-i.i in
    let whole = c.loop-i.senders.ok.0 in
    let low : i < length now = omega (arith, c.loop-i-test.true, c.len-i-end.ensures, inv.0) in
    let is : (d : _) → c.replace-sender.result ≡ slice_index_or c.args.senders.items i d =
    λ d. c.replace-sender.ensures.value ∙ (c.index_mut.ensures.value
    ∙ (get_or_default now i c.index_mut.result.now d low ∙ inv.1.rest i d (omega arith))) in
    let result = c.settle_sender.result.outcome in
    let outcomes = c.loop-i.outcomes.items in
    let long : length outcomes ≡ i = omega (arith, inv.1.done, c.loop-i.outcomes.ok.0) in
    let pushed = c.push_reserved.ensures.items in (
      inv.0,
      record {
        done = omega (arith, inv.1.done, c.push_reserved.ensures.len);
        fits = omega (arith, inv.1.fits, c.push_reserved.ensures.capacity);
        rest = λ k d above. get_or-set_other now i k c.replace-sender.new.dest d (λ e. omega arith)
            ∙ inv.1.rest k d (omega arith);
        each = λ k d e below. elim (cases_eq k i) [
          | inl same ↦ rw (same, ← is d, pushed, get_or_at outcomes result [] e i long)
              (c.settle_sender.ensures.outcome, c.settle_sender.ensures.far)
          | inr other ↦ let first : k < length outcomes = omega arith in
              rw (pushed, get_or_append_left outcomes (result ∷ []) e k first) (inv.1.each k d e (omega arith))
        ];
      },
    )

pub returns-clause-outcomes : goal.returns-clause-outcomes
returns-clause-outcomes g c = record {
  same_length = search rules;
  each = λ i d e below. (c.loop-i.invariant.1.each i d e (search rules)).0;
}

pub returns-clause-far : goal.returns-clause-far
returns-clause-far g c = record {
  same_length = search rules;
  each = λ i d e below. (c.loop-i.invariant.1.each i d e (search rules)).1;
}

pub loop-i-init : goal.loop-i-init
loop-i-init g c = (
  refl,
  record {
    done = (let whole = c.args.room.ok in omega (arith, whole.0, ap length c.requires.empty));
    fits = c.requires.room;
    rest = λ k d above. refl;
    each = λ k d e below. absurd (omega arith);
  },
)

pub index_mut-requires : goal.index_mut-requires
index_mut-requires g c = omega (arith, c.loop-i-test.true, c.len-i-end.ensures, c.loop-i.invariant.0)

pub push_reserved-requires : goal.push_reserved-requires
push_reserved-requires g c =
    let going = c.loop-i.invariant.1 in
    omega (arith, c.loop-i-test.true, c.len-i-end.ensures, going.done, going.fits)
