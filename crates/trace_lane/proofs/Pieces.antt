-- What is left of a part of a list once its first item was taken.
use Rattle.std.proofs.Common.{ℕ, ◌≡◌, ◌+◌, ◌-◌, ◌<◌, ◌≤◌, ◌++◌, List, [], ◌∷◌, length, take, ◌⊎◌, inl, inr}
use Rattle.std.proofs.Common.{drop, refl, ap, ◌∙◌, sym, arith, add-one, append_assoc, length-append, length-drop}
use Rattle.std.proofs.Common.{drop-cons, slice_index_or}
use Rattle.std.proofs.lemmas.List.{take_at, length-take-le}
use Rattle.trace_lane.specs.Pieces.{piece}

-- the first item of a part, and the part after it
pub first : {T : Type 0} (s : List T) (i j : ℕ) (x : T) → i < j → j ≤ length s → x ≡ slice_index_or s i x
    → piece i j s ≡ x ∷ piece (i + 1) j s
first s i j x low high is =
    let count : j - i ≡ (j - (i + 1)) + 1 = omega arith in
    let at : drop i s ≡ slice_index_or s i x ∷ drop (i + 1) s = rw (add-one i) (drop-cons s i x (omega arith)) in
    let step : drop i s ≡ x ∷ drop (i + 1) s = at ∙ ap (λ y. y ∷ drop (i + 1) s) (sym is) in
    rw (count, add-one (j - (i + 1)), step) refl

-- where all that was received ends with a part, its first item goes to what stands before the part
moved : {T : Type 0} (all before s : List T) (i j : ℕ) (x : T) → all ≡ before ++ piece i j s → i < j → j ≤ length s
    → x ≡ slice_index_or s i x → all ≡ (before ++ x ∷ []) ++ piece (i + 1) j s
moved all before s i j x is low high at =
    is ∙ (ap (λ l. before ++ l) (first s i j x low high at) ∙ sym (append_assoc before (x ∷ []) (piece (i + 1) j s)))

-- what then stands before the part
pub taken : {T : Type 0} (all before s : List T) (i j : ℕ) (x : T) → all ≡ before ++ piece i j s → i < j → j ≤ length s
    → x ≡ slice_index_or s i x → take (length all - (j - (i + 1))) all ≡ before ++ x ∷ []
taken all before s i j x is low high at =
    let e = moved all before s i j x is low high at in
    let rest : length (piece (i + 1) j s) ≡ j - (i + 1) =
    length-take-le (j - (i + 1)) (drop (i + 1) s) (omega (arith, length-drop (i + 1) s)) in
    rw e (take_at (before ++ x ∷ []) (piece (i + 1) j s) _
    (omega (arith, rest, length-append (before ++ x ∷ []) (piece (i + 1) j s))))

-- and all that was received still ends with what is left of the part
pub still_last : {T : Type 0} (all before s : List T) (i j : ℕ) (x : T) → all ≡ before ++ piece i j s → i < j
    → j ≤ length s
    → x ≡ slice_index_or s i x → all ≡ take (length all - (j - (i + 1))) all ++ piece (i + 1) j s
still_last all before s i j x is low high at =
    moved all before s i j x is low high at ∙ ap (λ l. l ++ piece (i + 1) j s)
    (sym (taken all before s i j x is low high at))

-- of some items a part was put, and the rest was left: if the ring was known to have room for all,
-- and nothing is left unless the ring is full, all were put
pub all_put : {put rest items old new : ℕ} →
    (rest ≡ 0) ⊎ (0 < rest) → put + rest ≡ items → old ≤ new + put → (0 < rest → new ≡ 0) →
    items ≤ old → put ≡ items
all_put (inl none) sum room full enough = omega arith
all_put (inr some) sum room full enough = let empty = full some in omega arith
