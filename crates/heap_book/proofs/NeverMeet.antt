-- Blocks whose spans never meet: what may be admitted beside them, and that they never meet after an admission, a
-- free and a release.
use Rattle.std.proofs.Common.{◌≡◌, ℕ, Bool, true, false, cond, not, leb, List, [], ◌∷◌, ◌++◌, refl, arith, append_assoc}
use Rattle.std.specs.Prelude.{sum_by, filter}
use Rattle.std.specs.List.{AllByRecursion, IsDistinct, list_any}
use Rattle.std.specs.List.Sorted.{IsPermutation}
use Rattle.std.proofs.lemmas.Bool.{or_parts}
use Rattle.std.proofs.lemmas.Bool.Decides.{nat_tests}
use Rattle.std.proofs.lemmas.List.Sorted.{IsPermutation-trans, IsPermutation-append_comm, IsPermutation-append_left}
use Rattle.std.proofs.lemmas.List.Sorted.{IsPermutation-filter_both}
use Rattle.std.proofs.lemmas.Map.Keys.{IsDistinct-cons, IsDistinct-head, IsDistinct-tail, IsDistinct-IsPermutation}
use Rattle.heap_book.specs.Spans.{Extent, IsPlaced, span_bytes, held_of, meets, may_be_admitted}
use Rattle.heap_book.proofs.Held.{held-append}

-- ---- what may be admitted

-- a block that has room for its redzones and meets none
pub may_be_admitted-true : (taken : List Extent) (b : Extent) → IsPlaced b → list_any (meets b) taken ≡ false
    → may_be_admitted taken b ≡ true
may_be_admitted-true taken b placed unmet = rw unmet (grind (arith, nat_tests))

-- one that meets another
pub may_be_admitted-met : (taken : List Extent) (b : Extent) → list_any (meets b) taken ≡ true
    → may_be_admitted taken b ≡ false
may_be_admitted-met taken b meet = rw meet (grind (arith, nat_tests))

pub unmet-admitted : (taken : List Extent) (b : Extent) → may_be_admitted taken b ≡ true
    → list_any (meets b) taken ≡ false
unmet-admitted taken b may = go (list_any (meets b) taken) refl
  where
    go : (t : Bool) → list_any (meets b) taken ≡ t → t ≡ false
    go false is = refl
    go true is = let not_so : may_be_admitted taken b ≡ false = may_be_admitted-met taken b is in absurd cc

-- ---- spans that never meet
pub meets-flip : (b c : Extent) → meets b c ≡ meets c b
meets-flip b c = grind (arith, nat_tests)

pub all-unmet : (b : Extent) (bs : List Extent) → list_any (meets b) bs ≡ false
    → AllByRecursion (λ c. meets b c ≡ false) bs
all-unmet b [] unmet = tt
all-unmet b (c ∷ bs) unmet = let both = or_parts (meets b c) (list_any (meets b) bs) unmet in
    (both.0, all-unmet b bs both.1)

-- with one more block that was admitted beside them
pub apart-admitted : (live held : List Extent) (b : Extent) → IsDistinct meets (live ++ held)
    → may_be_admitted (live ++ held) b ≡ true → IsDistinct meets (b ∷ live ++ held)
apart-admitted live held b apart may =
    IsDistinct-cons meets b (live ++ held) (all-unmet b (live ++ held) (unmet-admitted (live ++ held) b may)) apart

turned : (bs cs : List Extent) → IsDistinct meets (bs ++ cs) → IsDistinct meets (cs ++ bs)
turned bs cs apart = IsDistinct-IsPermutation meets meets-flip (bs ++ cs) (cs ++ bs) (IsPermutation-append_comm bs cs)
    apart

All-held : (P : Extent → Type 0) (bound : ℕ) (bs cs : List Extent) → AllByRecursion P (bs ++ cs)
    → AllByRecursion P (held_of bound bs ++ cs)
All-held P bound [] cs all = all
All-held P bound (b ∷ bs) cs all = go (leb (sum_by span_bytes (b ∷ bs)) bound) (All-held P bound bs cs all.1)
  where
    go : (t : Bool) → AllByRecursion P (held_of bound bs ++ cs)
        → AllByRecursion P (cond t (b ∷ held_of bound bs) (held_of bound bs) ++ cs)
    go true rest = (all.0, rest)
    go false rest = rest

held_front : (bound : ℕ) (bs cs : List Extent) → IsDistinct meets (bs ++ cs) → IsDistinct meets (held_of bound bs ++ cs)
held_front bound [] cs apart = apart
held_front bound (b ∷ bs) cs apart = go (leb (sum_by span_bytes (b ∷ bs)) bound)
    (held_front bound bs cs (IsDistinct-tail meets b (bs ++ cs) apart))
  where
    go : (t : Bool) → IsDistinct meets (held_of bound bs ++ cs)
        → IsDistinct meets (cond t (b ∷ held_of bound bs) (held_of bound bs) ++ cs)
    go true rest = IsDistinct-cons meets b (held_of bound bs ++ cs)
        (All-held (λ c. meets b c ≡ false) bound bs cs (IsDistinct-head meets b (bs ++ cs) apart)) rest
    go false rest = rest

-- with what is held of the freed ones
pub apart-held : (bound : ℕ) (live freed : List Extent) → IsDistinct meets (live ++ freed)
    → IsDistinct meets (live ++ held_of bound freed)
apart-held bound live freed apart = turned (held_of bound freed) live
    (held_front bound freed live (turned live freed apart))

-- with those that pass a test freed
pub apart-freed : (p : Extent → Bool) (bound : ℕ) (live freed : List Extent)
    → IsDistinct meets (live ++ held_of bound freed)
    → IsDistinct meets (filter (λ b. not (p b)) live ++ held_of bound (freed ++ filter p live))
apart-freed p bound live freed apart =
    let q : Extent → Bool = λ b. not (p b) in
    let parts = IsPermutation-filter_both p q (λ b. refl) live in
    let all : IsPermutation (live ++ held_of bound freed) ((filter p live ++ filter q live) ++ held_of bound freed) =
    IsPermutation-append_left (held_of bound freed) live _ parts in
    let moved : IsPermutation ((filter p live ++ filter q live) ++ held_of bound freed)
    (filter q live ++ (held_of bound freed ++ filter p live)) =
    rw (
      append_assoc (filter p live) (filter q live) (held_of bound freed),
      ← append_assoc (filter q live) (held_of bound freed) (filter p live),
    )
    (IsPermutation-append_comm (filter p live) (filter q live ++ held_of bound freed)) in
    let all_apart = IsDistinct-IsPermutation meets meets-flip _ _ (IsPermutation-trans _ _ _ all moved) apart in
    rw (held-append bound freed (filter p live))
    (apart-held bound (filter q live) (held_of bound freed ++ filter p live) all_apart)
