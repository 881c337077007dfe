-- The texts of processes, one after another.
use Rattle.std.proofs.Common.{◌≡◌, ℕ, ◌+◌, ◌<◌, List, [], ◌∷◌, ◌++◌, length, sym, ap, ◌∙◌, arith, append_assoc, take}
use Rattle.std.proofs.Common.{drop, get_or, add-zero}
use Rattle.std.proofs.lemmas.List.{append-nil, take_more, take-append-drop, length-take-le}
use Rattle.asan_stream.specs.declared.outcome.Outcome.{Outcome}
use Rattle.asan_senders.specs.Texts.{outcome_text, texts_from}

-- the texts of the first outcomes, and what follows them
module _ {F A : Type 0} where
  texts_append : (process : ℕ) (xs ys : List (Outcome F A))
      → texts_from process (xs ++ ys) ≡ texts_from process xs ++ texts_from (process + length xs) ys
  texts_append process [] ys = ap (λ n. texts_from n ys) (sym (add-zero process))
  texts_append process (x ∷ xs) ys =
      let n : (process + 1) + length xs ≡ process + length (x ∷ xs) = omega arith in
      ap (λ t. outcome_text process x ++ t) (texts_append (process + 1) xs ys
      ∙ ap (λ k. texts_from (process + 1) xs ++ texts_from k ys) n)
      ∙ sym (append_assoc (outcome_text process x) (texts_from (process + 1) xs)
      (texts_from (process + length (x ∷ xs)) ys))

  pub texts_more : (xs : List (Outcome F A)) (i : ℕ) (x : Outcome F A) → i < length xs → x ≡ get_or xs i x
      → texts_from 0 (take (i + 1) xs) ≡ texts_from 0 (take i xs) ++ outcome_text i x
  texts_more xs i x lt is =
      let n : 0 + length (take i xs) ≡ i = omega (arith, length-take-le i xs (omega arith)) in
      ap (texts_from 0) (take_more xs i x lt ∙ ap (λ y. take i xs ++ y ∷ []) (sym is))
      ∙ texts_append 0 (take i xs) (x ∷ [])
      ∙ ap (λ t. texts_from 0 (take i xs) ++ t) (append-nil (outcome_text (0 + length (take i xs)) x)
      ∙ ap (λ k. outcome_text k x) n)

  pub texts_rest : (xs : List (Outcome F A)) (i : ℕ) (x : Outcome F A) → i < length xs → x ≡ get_or xs i x
      → (rest : List ℕ) × (texts_from 0 xs ≡ (texts_from 0 (take i xs) ++ outcome_text i x) ++ rest)
  texts_rest xs i x lt is = (
    texts_from (0 + length (take (i + 1) xs)) (drop (i + 1) xs),
    ap (texts_from 0) (sym (take-append-drop (i + 1) xs)) ∙ texts_append 0 (take (i + 1) xs) (drop (i + 1) xs)
        ∙ ap (λ t. t ++ texts_from (0 + length (take (i + 1) xs)) (drop (i + 1) xs)) (texts_more xs i x lt is),
  )
