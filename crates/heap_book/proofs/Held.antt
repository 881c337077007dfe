-- Which freed blocks are held, as blocks are freed and let go.
--
-- A caller frees a block, which joins the queue, and then lets go of the oldest until the queue is within the bound.
-- Each step leaves `held_of bound queue` as it is (`held-past`), so at the end the queue is what is held of all that
-- were in it.
use Rattle.std.proofs.Common.{◌≡◌, ℕ, ◌+◌, ◌≤◌, ◌<◌, true, false, leb, List, [], ◌∷◌, ◌++◌, refl, ◌∙◌, arith, inl, inr}
use Rattle.std.specs.Prelude.{sum_by}
use Rattle.std.proofs.lemmas.Bool.{cases_lt}
use Rattle.std.proofs.lemmas.Bool.Decides.{nat_tests}
use Rattle.std.proofs.lemmas.List.Sums.{sum_by-cons, sum_by-append}
use Rattle.heap_book.specs.Spans.{Extent, span_bytes, held_of}

-- within the bound all are held
pub held-within : (bound : ℕ) (bs : List Extent) → sum_by span_bytes bs ≤ bound → held_of bound bs ≡ bs
held-within bound [] le = refl
held-within bound (b ∷ bs) le =
    let fits : leb (sum_by span_bytes (b ∷ bs)) bound ≡ true = grind (arith, nat_tests) in
    let step : sum_by span_bytes (b ∷ bs) ≡ span_bytes b + sum_by span_bytes bs = sum_by-cons span_bytes b bs in
    rw (fits, held-within bound bs (omega arith)) refl

-- past the bound the oldest is not
pub held-past : (bound : ℕ) (b : Extent) (bs : List Extent) → bound < sum_by span_bytes (b ∷ bs)
    → held_of bound (b ∷ bs) ≡ held_of bound bs
held-past bound b bs lt =
    let past : leb (sum_by span_bytes (b ∷ bs)) bound ≡ false = grind (arith, nat_tests) in
    rw past refl

-- what is held is within the bound
pub held-total : (bound : ℕ) (bs : List Extent) → sum_by span_bytes (held_of bound bs) ≤ bound
held-total bound [] = omega arith
held-total bound (b ∷ bs) =
    elim (cases_lt bound (sum_by span_bytes (b ∷ bs))) [
      | inl lt ↦ rw (held-past bound b bs lt) (held-total bound bs)
      | inr le ↦ rw (held-within bound (b ∷ bs) le) le
    ]

-- what several more freed blocks leave, from what was held
pub held-append : (bound : ℕ) (bs cs : List Extent) → held_of bound (bs ++ cs) ≡ held_of bound (held_of bound bs ++ cs)
held-append bound [] cs = refl
held-append bound (b ∷ bs) cs =
    elim (cases_lt bound (sum_by span_bytes (b ∷ bs))) [
      | inl lt ↦ let more : sum_by span_bytes ((b ∷ bs) ++ cs) ≡ sum_by span_bytes (b ∷ bs) + sum_by span_bytes cs =
          sum_by-append span_bytes (b ∷ bs) cs in
          rw (held-past bound b bs lt) (held-past bound b (bs ++ cs) (omega arith) ∙ held-append bound bs cs)
      | inr le ↦ rw (held-within bound (b ∷ bs) le) refl
    ]
