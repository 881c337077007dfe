-- Refusals and outcomes are counted alike.
use Rattle.std.proofs.Common.{ℕ, suc, ◌≡◌, ◌+◌, List, [], ◌∷◌, ◌++◌, refl, arith}
use Rattle.trace_feed.specs.declared.door.Arrival.{Arrival}
use Rattle.trace_feed.specs.declared.door.Arrival.TheVariants as arrival
use Rattle.trace_feed.specs.Doors.{refusals_after}
use Rattle.trace_feed.specs.Feeds.{FeedState}
use Rattle.asan_stream.specs.declared.options.Options.{Options}
use Rattle.asan_stream.specs.declared.outcome.Outcome.{Outcome}
use Rattle.asan_stream.specs.declared.outcome.Outcome.TheVariants as outcome
use Rattle.asan_senders.specs.Arrivals.{Pairwise, IsAnswerTo}
use Rattle.asan_senders.specs.Counts.{refused, refused_among, not_opened, not_opened_among}

pub refused-after : {F : Type 0} (a : Arrival F) (count : ℕ) → refusals_after a count ≡ refused a + count
refused-after (arrival.Came feed) count = omega arith
refused-after arrival.Refused count = omega arith
refused-after arrival.Over count = omega arith

pub refused-push : {F : Type 0} (xs : List (Arrival F)) (a : Arrival F)
    → refused_among (xs ++ a ∷ []) ≡ refused a + refused_among xs
refused-push [] a = refl
refused-push (x ∷ xs) a = let rest = refused-push xs a in omega arith

module _ {X Y : Type 0} (R : X → Y → Type 0) where
  pub pairs_first : (x : X) (xs : List X) (y : Y) (ys : List Y) → Pairwise R (x ∷ xs) (y ∷ ys) → R x y
  pairs_first x xs y ys b = b.each 0 x y (omega arith)

  pub pairs_rest : (x : X) (xs : List X) (y : Y) (ys : List Y) → Pairwise R (x ∷ xs) (y ∷ ys) → Pairwise R xs ys
  pairs_rest x xs y ys b = record {
    same_length = let same = b.same_length in omega arith;
    each = λ i d e below. b.each (suc i) d e (omega arith);
  }

module _ {F A : Type 0} (seen : F → FeedState) (options : Options) where
  one_counted : (a : Arrival F) (result : Outcome F A) → IsAnswerTo seen options a result
      → not_opened result ≡ refused a
  one_counted (arrival.Came feed) (outcome.Settled f n rs) fits = refl
  one_counted (arrival.Came feed) (outcome.NoMemory f n k rs) fits = refl
  one_counted (arrival.Came feed) outcome.NotOpened fits = absurd fits
  one_counted (arrival.Came feed) outcome.NotStarted fits = refl
  one_counted (arrival.Came feed) outcome.Unsettled fits = refl
  one_counted arrival.Refused result fits = rw fits refl
  one_counted arrival.Over result fits = absurd fits

  -- one outcome is not-opened for each refusal
  pub all_counted : (arrivals : List (Arrival F)) (outcomes : List (Outcome F A))
      → Pairwise (IsAnswerTo seen options) arrivals outcomes → not_opened_among outcomes ≡ refused_among arrivals
  all_counted [] [] fit = refl
  all_counted [] (result ∷ outcomes) fit = absurd (let same = fit.same_length in omega arith)
  all_counted (a ∷ arrivals) [] fit = absurd (let same = fit.same_length in omega arith)
  all_counted (a ∷ arrivals) (result ∷ outcomes) fit =
      let one = one_counted a result (pairs_first (IsAnswerTo seen options) a arrivals result outcomes fit) in
      let rest = all_counted arrivals outcomes (pairs_rest (IsAnswerTo seen options) a arrivals result outcomes fit) in
      omega arith
