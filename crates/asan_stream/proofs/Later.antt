-- Benches that go on.
use Rattle.std.proofs.Common.{ℕ, ◌≡◌, ◌+◌, ◌<◌, ◌++◌, List, [], length, refl, ap, ◌∙◌, sym, arith, append_assoc}
use Rattle.std.proofs.Common.{append-nil, slice_index_or, slice_set, subst, inl, inr}
use Rattle.std.proofs.lemmas.Bool.{cases_eq}
use Rattle.std.proofs.lemmas.List.{length-set, get_or-set_same, get_or-set_other, get_or_default}
use Rattle.trace_lane.specs.Lanes.{out_lane, taken_list}
use Rattle.asan_check.specs.Standing.{bound_of, reports_of}
use Rattle.asan_stream.specs.declared.bench.Bench.{Bench}
use Rattle.asan_stream.specs.Benches.{Later, EachLater, HasReported, TakesNoMore, found_of, report_lane_of, taken_of}
use Rattle.asan_stream.specs.Outboxes.{IsFront, KeepsLane}
use Rattle.asan_stream.proofs.Reporting.{front_same, front_trans, keeps_same, keeps_trans}

module _ {A : Type 0} where
  pub later_trans : (a b c : Bench A) → Later a b → Later b c → Later a c
  later_trans a b c p q = record {
    process = q.process ∙ p.process;
    lane = q.lane ∙ p.lane;
    bound = q.bound ∙ p.bound;
    report_lane = keeps_trans _ _ _ p.report_lane q.report_lane;
    found = front_trans _ _ _ p.found q.found;
    more = p.more ++ q.more;
    taken = q.taken ∙ (ap (λ r. r ++ q.more) p.taken ∙ append_assoc _ p.more q.more);
  }

  pub later_refl : (a : Bench A) → Later a a
  later_refl a = record {
    process = refl;
    lane = refl;
    bound = refl;
    report_lane = keeps_same _;
    found = front_same _;
    more = [];
    taken = sym (append-nil _);
  }

  -- a bench has put some reports, and nothing else
  pub later_reported : (a b : Bench A) → KeepsLane (report_lane_of a) (report_lane_of b) → b.process ≡ a.process
      → b.lane ≡ a.lane → b.checker ≡ a.checker → Later a b
  later_reported a b keeps process lane checker = record {
    process = process;
    lane = ap out_lane lane;
    bound = ap bound_of checker;
    report_lane = keeps;
    found = subst (λ c. IsFront (found_of a) (reports_of c)) (sym checker) (front_same (found_of a));
    more = [];
    taken = ap taken_list lane ∙ sym (append-nil (taken_of a));
  }

  pub each_refl : (xs : List (Bench A)) → EachLater xs xs
  each_refl xs = record { same_length = refl; each = λ i d below. later_refl (slice_index_or xs i d) }

  pub each_trans : (xs ys zs : List (Bench A)) → EachLater xs ys → EachLater ys zs → EachLater xs zs
  each_trans xs ys zs p q = record {
    same_length = q.same_length ∙ p.same_length;
    each = λ i d below. later_trans (slice_index_or xs i d) (slice_index_or ys i d) (slice_index_or zs i d)
        (p.each i d below) (q.each i d (let e = p.same_length in omega arith));
  }

  -- one of the benches has worked
  pub each_worked : (xs ys : List (Bench A)) (i : ℕ) (b new : Bench A) → i < length ys → b ≡ slice_index_or ys i b
      → Later b new → EachLater xs ys → EachLater xs (slice_set ys i new)
  each_worked xs ys i b new low is later r =
      let len : length ys ≡ length xs = r.same_length in
      record {
        same_length = length-set ys i new ∙ len;
        each = λ k d below. elim (cases_eq k i) [
          | inl e ↦
              let on : Later (slice_index_or ys i d) new =
              subst (λ x. Later x new) (is ∙ get_or_default ys i b d low) later in
              rw (e, get_or-set_same ys i new d low)
              (later_trans (slice_index_or xs i d) (slice_index_or ys i d) new (r.each i d (omega arith)) on)
          | inr n ↦ rw (get_or-set_other ys i k new d n) (r.each k d below)
        ];
      }

  -- the first of the benches, as many as this, are so
  abbrev First : (Bench A → Type 0) → ℕ → List (Bench A) → Type 0
  First Is n xs = (k : ℕ) (d : Bench A) → k < n → Is (slice_index_or xs k d)

  -- and one more, which has worked
  first_worked : (Is : Bench A → Type 0) (xs : List (Bench A)) (i : ℕ) (new : Bench A) → i < length xs
      → First Is i xs → Is new → First Is (i + 1) (slice_set xs i new)
  first_worked Is xs i new low before here k d below = elim (cases_eq k i) [
    | inl e ↦ rw (e, get_or-set_same xs i new d low) here
    | inr n ↦ rw (get_or-set_other xs i k new d n) (before k d (omega arith))
  ]

  -- they have put all their reports
  abbrev pub FirstReported : ℕ → List (Bench A) → Type 0
  FirstReported = First (λ b. HasReported b (found_of b))

  pub reported_worked : (xs : List (Bench A)) (i : ℕ) (new : Bench A) → i < length xs → FirstReported i xs
      → HasReported new (found_of new) → FirstReported (i + 1) (slice_set xs i new)
  reported_worked = first_worked (λ b. HasReported b (found_of b))

  -- they take no more
  abbrev pub FirstTakeNoMore : ℕ → List (Bench A) → Type 0
  FirstTakeNoMore = First TakesNoMore

  pub no_more_worked : (xs : List (Bench A)) (i : ℕ) (new : Bench A) → i < length xs → FirstTakeNoMore i xs
      → TakesNoMore new → FirstTakeNoMore (i + 1) (slice_set xs i new)
  no_more_worked = first_worked TakesNoMore
