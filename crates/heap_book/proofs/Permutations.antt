-- Lists of blocks that are permutations of each other: the head can go from both, and a filter keeps them so.
use Rattle.std.proofs.Common.{◌≡◌, ℕ, ◌+◌, ◌<◌, Bool, true, false, cond, eqb, List, [], ◌∷◌, refl, sym, ◌∙◌, arith}
use Rattle.std.specs.Prelude.{◌&&◌, sum_by, filter}
use Rattle.std.specs.List.Sorted.{IsPermutation}
use Rattle.std.proofs.lemmas.Bool.Decides.{nat_tests}
use Rattle.std.proofs.lemmas.List.Sums.{sum_by-cons}
use Rattle.std.proofs.lemmas.List.Sorted.{IsPermutation-refl, IsPermutation-sym, IsPermutation-trans}
use Rattle.std.proofs.lemmas.List.Sorted.{IsPermutation-cons, IsPermutation-middle, sum_by-IsPermutation, sum_by_popped}
use Rattle.heap_book.specs.Spans.{Extent}

-- whether two blocks are the same
abbrev pub same : Extent → Extent → Bool
same b c = eqb b.at c.at && eqb b.size c.size

pub same-refl : (b : Extent) → same b b ≡ true
same-refl b = grind (arith, nat_tests)

abbrev extent : ℕ → ℕ → Extent
extent at size = record { at = at; size = size }

by_parts : (at at' size size' : ℕ) → at ≡ at' → size ≡ size' → extent at size ≡ extent at' size'
by_parts at at' size size' same_at same_size = cc

pub same-true : (b c : Extent) → same b c ≡ true → b ≡ c
same-true b c is =
    let at : b.at ≡ c.at = grind (arith, nat_tests) in
    let size : b.size ≡ c.size = grind (arith, nat_tests) in
    by_parts b.at c.at b.size c.size at size

-- 1 for the block itself, and 0 for another
abbrev one : Extent → Extent → ℕ
one b c = cond (same b c) 1 0

-- how often a list has a block
abbrev count : Extent → List Extent → ℕ
count b cs = sum_by (one b) cs

one-self : (b : Extent) → one b b ≡ 1
one-self b = rw (same-refl b) refl

-- a list that has a block is one with that block in front
taken_out : (b : Extent) (cs : List Extent) → 0 < count b cs → (rest : List Extent) × IsPermutation cs (b ∷ rest)
taken_out b [] has = absurd (omega arith)
taken_out b (c ∷ cs) has = go (same b c) refl (taken_out b cs)
  where
    go : (t : Bool) → same b c ≡ t → (0 < count b cs → (rest : List Extent) × IsPermutation cs (b ∷ rest))
        → (rest : List Extent) × IsPermutation (c ∷ cs) (b ∷ rest)
    go true is later = (cs, rw (same-true b c is) (IsPermutation-refl (c ∷ cs)))
    go false is later =
        let here : one b c ≡ 0 = rw is refl in
        let all : count b (c ∷ cs) ≡ one b c + count b cs = sum_by-cons (one b) c cs in
        let found = later (omega arith) in
        let front = IsPermutation-cons c cs (b ∷ found.0) found.1 in (
          c ∷ found.0,
          IsPermutation-trans (c ∷ cs) (c ∷ b ∷ found.0) (b ∷ c ∷ found.0) front
              (IsPermutation-middle (c ∷ []) b found.0),
        )

-- two lists that have each block equally often
pub IsPermutation-from_counts : (bs cs : List Extent) → ((b : Extent) → count b bs ≡ count b cs) → IsPermutation bs cs
IsPermutation-from_counts [] [] equal = IsPermutation-refl []
IsPermutation-from_counts [] (c ∷ cs) equal =
    let here : one c c ≡ 1 = one-self c in
    let all : count c (c ∷ cs) ≡ one c c + count c cs = sum_by-cons (one c) c cs in
    let none : count c [] ≡ count c (c ∷ cs) = equal c in
    absurd (omega arith)
IsPermutation-from_counts (b ∷ bs) cs equal =
    let here : one b b ≡ 1 = one-self b in
    let all : count b (b ∷ bs) ≡ one b b + count b bs = sum_by-cons (one b) b bs in
    let both : count b (b ∷ bs) ≡ count b cs = equal b in
    let found = taken_out b cs (omega arith) in
    let rest : (d : Extent) → count d bs ≡ count d found.0 = λ d.
    let left : count d (b ∷ bs) ≡ one d b + count d bs = sum_by-cons (one d) b bs in
    let right : count d found.0 + one d b ≡ count d cs = sum_by_popped (one d) b cs found.0 found.1 in
    let same_count : count d (b ∷ bs) ≡ count d cs = equal d in
    omega arith in
    IsPermutation-trans (b ∷ bs) (b ∷ found.0) cs
    (IsPermutation-cons b bs found.0 (IsPermutation-from_counts bs found.0 rest))
    (IsPermutation-sym cs (b ∷ found.0) found.1)

-- the same block goes from the front of both
pub IsPermutation-tail : (b : Extent) (bs cs : List Extent) → IsPermutation (b ∷ bs) (b ∷ cs) → IsPermutation bs cs
IsPermutation-tail b bs cs perm = IsPermutation-from_counts bs cs (λ d.
    let left : count d (b ∷ bs) ≡ one d b + count d bs = sum_by-cons (one d) b bs in
    let right : count d (b ∷ cs) ≡ one d b + count d cs = sum_by-cons (one d) b cs in
    let equal : count d (b ∷ cs) ≡ count d (b ∷ bs) = sum_by-IsPermutation (one d) (b ∷ bs) (b ∷ cs) perm in
    omega arith)

-- what passes a test, as a sum over the whole list
count-filter : (p : Extent → Bool) (d : Extent) (bs : List Extent)
    → count d (filter p bs) ≡ sum_by (λ b. cond (p b) (one d b) 0) bs
count-filter p d [] = refl
count-filter p d (b ∷ bs) = go (p b) refl (count-filter p d bs)
  where
    all : sum_by (λ b. cond (p b) (one d b) 0) (b ∷ bs)
        ≡ cond (p b) (one d b) 0 + sum_by (λ b. cond (p b) (one d b) 0) bs
    all = sum_by-cons (λ b. cond (p b) (one d b) 0) b bs

    go : (t : Bool) → p b ≡ t → count d (filter p bs) ≡ sum_by (λ b. cond (p b) (one d b) 0) bs
        → count d (cond t (b ∷ filter p bs) (filter p bs)) ≡ sum_by (λ b. cond (p b) (one d b) 0) (b ∷ bs)
    go true is rest =
        let here : cond (p b) (one d b) 0 ≡ one d b = rw is refl in
        let front : count d (b ∷ filter p bs) ≡ one d b + count d (filter p bs) = sum_by-cons (one d) b (filter p bs) in
        let whole = all in
        omega arith
    go false is rest =
        let here : cond (p b) (one d b) 0 ≡ 0 = rw is refl in
        let whole = all in
        omega arith

-- what passes a test keeps being a permutation
pub IsPermutation-filter : (p : Extent → Bool) (bs cs : List Extent) → IsPermutation bs cs
    → IsPermutation (filter p bs) (filter p cs)
IsPermutation-filter p bs cs perm = IsPermutation-from_counts (filter p bs) (filter p cs) (λ d.
    count-filter p d bs ∙ sym (sum_by-IsPermutation (λ b. cond (p b) (one d b) 0) bs cs perm)
    ∙ sym (count-filter p d cs))
