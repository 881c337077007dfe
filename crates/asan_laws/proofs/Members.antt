-- The elements of a list, and blocks whose spans don't meet, by their addresses.
use Rattle.std.proofs.Common.{◌≡◌, Bool, true, false, cond, List, [], ◌∷◌, sym, ap, subst}
use Rattle.std.proofs.Common.{◌∙◌, inl, inr}
use Rattle.std.specs.Prelude.{filter, Contains}
use Rattle.std.specs.List.{IsDistinct, list_any}
use Rattle.std.proofs.lemmas.Bool.{false≢true, or_cases, eq-eqb}
use Rattle.std.proofs.lemmas.Map.Keys.{IsDistinct-head, IsDistinct-tail}
use Rattle.heap_book.specs.Spans.{Extent, meets, starts_at}
use Rattle.heap_book.proofs.NeverMeet.{meets-flip}
use Rattle.asan_check.proofs.Members.{in_head, in_tail, in_none, cons_cases, at_element}

module _ {X : Type 0} where
  -- where one passes a test, this one does
  pub any_passes : (p : X → Bool) (xs : List X) → list_any p xs ≡ true → (x : X) × Contains xs x × (p x ≡ true)
  any_passes p [] any = absurd (false≢true any)
  any_passes p (y ∷ ys) any =
      elim (or_cases (p y) (list_any p ys) any) [
        | inl here ↦ (y, in_head y ys, here)
        | inr rest ↦ let found = any_passes p ys rest in (found.0, in_tail found.0 y ys found.1, found.2)
      ]

  -- an element that passes is in the filter
  pub filtered : (p : X → Bool) (xs : List X) (x : X) → Contains xs x → p x ≡ true → Contains (filter p xs) x
  filtered p [] x has is = absurd (in_none x has)
  filtered p (y ∷ ys) x has is =
      elim (cons_cases x y ys has) [
        | inl same ↦ rw (ap p same ∙ is) (subst (λ z. Contains (y ∷ filter p ys) z) same (in_head y (filter p ys)))
        | inr rest ↦ go (p y) (filtered p ys x rest is)
      ]
    where
      go : (t : Bool) → Contains (filter p ys) x → Contains (cond t (y ∷ filter p ys) (filter p ys)) x
      go true rest = in_tail x y (filter p ys) rest
      go false rest = rest

-- two blocks of a list that start at different addresses don't meet
pub apart_beside : (xs : List Extent) (x y : Extent) → IsDistinct meets xs → Contains xs x → Contains xs y
    → starts_at x.at y ≡ false → meets x y ≡ false
apart_beside [] x y apart has_x has_y other = absurd (in_none x has_x)
apart_beside (z ∷ zs) x y apart has_x has_y other =
    let first = IsDistinct-head meets z zs apart in
    elim (cons_cases x z zs has_x) [
      | inl is_x ↦ elim (cons_cases y z zs has_y) [
        | inl is_y ↦ absurd (false≢true (sym other ∙ eq-eqb y.at x.at (ap (λ w. w.at) (sym is_y ∙ is_x))))
        | inr rest ↦ ap (λ w. meets w y) (sym is_x) ∙ at_element (λ w. meets z w ≡ false) zs y first rest
      ]
      | inr in_x ↦ elim (cons_cases y z zs has_y) [
        | inl is_y ↦ meets-flip x y ∙ ap (λ w. meets w x) (sym is_y)
            ∙ at_element (λ w. meets z w ≡ false) zs x first in_x
        | inr in_y ↦ apart_beside zs x y (IsDistinct-tail meets z zs apart) in_x in_y other
      ]
    ]
