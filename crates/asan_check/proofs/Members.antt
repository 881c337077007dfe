-- The elements of a list, and blocks whose spans don't meet, by their addresses.
use Rattle.std.proofs.Common.{◌≡◌, ℕ, zero, suc, Bool, true, false, cond, List, [], ◌∷◌, ◌++◌, refl, sym, ap, subst}
use Rattle.std.proofs.Common.{◌∙◌, arith, inl, inr}
use Rattle.std.specs.Prelude.{◌⊎◌, filter, Contains}
use Rattle.std.specs.List.{AllByRecursion, IsDistinct, list_any}
use Rattle.std.proofs.lemmas.Bool.{false≢true, or_parts, or_right, or_left, ne_eqb, eq-eqb}
use Rattle.std.proofs.lemmas.Bool.Decides.{nat_tests}
use Rattle.std.proofs.lemmas.List.Elements.{All-from_recursion, All-contains}
use Rattle.std.proofs.lemmas.Map.Keys.{IsDistinct-head, IsDistinct-tail}
use Rattle.heap_book.specs.Spans.{Extent, meets, starts_at}
use Rattle.heap_book.proofs.NeverMeet.{meets-flip}

-- ---- any list

module _ {X : Type 0} where
  -- the first element
  pub in_head : (x : X) (xs : List X) → Contains (x ∷ xs) x
  in_head x xs = (zero, omega arith, refl)

  -- an element of the rest
  pub in_tail : (x y : X) (xs : List X) → Contains xs x → Contains (y ∷ xs) x
  in_tail x y xs (i, lt, is) = (suc i, omega arith, is)

  -- an element is the first, or one of the rest
  pub cons_cases : (x y : X) (xs : List X) → Contains (y ∷ xs) x → (y ≡ x) ⊎ Contains xs x
  cons_cases x y xs (zero, lt, is) = inl is
  cons_cases x y xs (suc i, lt, is) = inr (i, omega arith, is)

  -- the empty list has none
  pub in_none : (x : X) → Contains [] x → ⊥
  in_none x (i, lt, is) = omega arith

  -- what holds of each holds of an element
  pub at_element : (P : X → Type 0) (xs : List X) (x : X) → AllByRecursion P xs → Contains xs x → P x
  at_element P xs x all has = All-contains P xs x (All-from_recursion P xs all) has

  -- and what holds of every element holds of each
  pub at_each : (P : X → Type 0) (xs : List X) → ((x : X) → Contains xs x → P x) → AllByRecursion P xs
  at_each P [] each = tt
  at_each P (y ∷ ys) each = (each y (in_head y ys), at_each P ys (λ x has. each x (in_tail x y ys has)))

  -- an element that passes a test
  pub passes_any : (p : X → Bool) (xs : List X) (x : X) → Contains xs x → p x ≡ true → list_any p xs ≡ true
  passes_any p [] x has is = absurd (in_none x has)
  passes_any p (y ∷ ys) x has is =
      elim (cons_cases x y ys has) [
        | inl same ↦ or_left (p y) (list_any p ys) (ap p same ∙ is)
        | inr rest ↦ or_right (p y) (list_any p ys) (passes_any p ys x rest is)
      ]

  -- no element passes
  pub none_passes : (p : X → Bool) (xs : List X) (x : X) → list_any p xs ≡ false → Contains xs x → p x ≡ false
  none_passes p [] x none has = absurd (in_none x has)
  none_passes p (y ∷ ys) x none has =
      let parts = or_parts (p y) (list_any p ys) none in
      elim (cons_cases x y ys has) [
        | inl same ↦ ap p (sym same) ∙ parts.0
        | inr rest ↦ none_passes p ys x parts.1 rest
      ]

  pub none_from : (p : X → Bool) (xs : List X) → ((x : X) → Contains xs x → p x ≡ false) → list_any p xs ≡ false
  none_from p [] each = refl
  none_from p (y ∷ ys) each = rw (each y (in_head y ys)) (none_from p ys (λ x has. each x (in_tail x y ys has)))

  -- a filter that all pass, or none
  pub filter_all : (p : X → Bool) (xs : List X) → ((x : X) → Contains xs x → p x ≡ true) → filter p xs ≡ xs
  filter_all p [] each = refl
  filter_all p (y ∷ ys) each = rw (each y (in_head y ys))
      (ap (λ zs. y ∷ zs) (filter_all p ys (λ x has. each x (in_tail x y ys has))))

  pub filter_none : (p : X → Bool) (xs : List X) → ((x : X) → Contains xs x → p x ≡ false) → filter p xs ≡ []
  filter_none p [] each = refl
  filter_none p (y ∷ ys) each = rw (each y (in_head y ys)) (filter_none p ys (λ x has. each x (in_tail x y ys has)))

  -- the elements of a filter are those that pass
  pub from_filtered : (p : X → Bool) (xs : List X) (x : X) → Contains (filter p xs) x → Contains xs x × (p x ≡ true)
  from_filtered p [] x has = absurd (in_none x has)
  from_filtered p (y ∷ ys) x has = go (p y) refl has (from_filtered p ys x)
    where
      go : (t : Bool) → p y ≡ t → Contains (cond t (y ∷ filter p ys) (filter p ys)) x
          → (Contains (filter p ys) x → Contains ys x × (p x ≡ true)) → Contains (y ∷ ys) x × (p x ≡ true)
      go false is h rest = let r = rest h in (in_tail x y ys r.0, r.1)
      go true is h rest =
          elim (cons_cases x y (filter p ys) h) [
            | inl same ↦ (subst (λ z. Contains (y ∷ ys) z) same (in_head y ys), ap p (sym same) ∙ is)
            | inr more ↦ let r = rest more in (in_tail x y ys r.0, r.1)
          ]

-- ---- blocks whose spans don't meet

-- two blocks that start at one address meet
pub meets_same : (x y : Extent) → x.at ≡ y.at → meets x y ≡ true
meets_same x y same = grind (arith, nat_tests)

-- so those that don't meet start at different ones
pub apart_starts : (x y : Extent) → meets x y ≡ false → starts_at x.at y ≡ false
apart_starts x y apart = ne_eqb y.at x.at (λ same. false≢true (sym apart ∙ meets_same x y (sym same)))

-- a block of the one list meets none of the other
pub apart_across : (xs ys : List Extent) (x y : Extent) → IsDistinct meets (xs ++ ys) → Contains xs x → Contains ys y
    → meets x y ≡ false
apart_across [] ys x y apart has_x has_y = absurd (in_none x has_x)
apart_across (z ∷ zs) ys x y apart has_x has_y =
    elim (cons_cases x z zs has_x) [
      | inl same ↦ ap (λ w. meets w y) (sym same)
          ∙ at_element (λ w. meets z w ≡ false) (zs ++ ys) y (IsDistinct-head meets z (zs ++ ys) apart)
          (in_right zs has_y)
      | inr rest ↦ apart_across zs ys x y (IsDistinct-tail meets z (zs ++ ys) apart) rest has_y
    ]
  where
    in_right : (ws : List Extent) → Contains ys y → Contains (ws ++ ys) y
    in_right [] has = has
    in_right (w ∷ ws) has = in_tail y w (ws ++ ys) (in_right ws has)

-- a part of such a list is such a list
pub apart_left : (xs ys : List Extent) → IsDistinct meets (xs ++ ys) → IsDistinct meets xs
unfolding IsDistinct
apart_left [] ys apart = tt
apart_left (x ∷ xs) ys apart = (front xs apart.0, apart_left xs ys apart.1)
  where
    front : (zs : List Extent) → AllByRecursion (λ y. meets x y ≡ false) (zs ++ ys)
        → AllByRecursion (λ y. meets x y ≡ false) zs
    front [] all = tt
    front (z ∷ zs) all = (all.0, front zs all.1)

pub apart_right : (xs ys : List Extent) → IsDistinct meets (xs ++ ys) → IsDistinct meets ys
apart_right [] ys apart = apart
apart_right (x ∷ xs) ys apart = apart_right xs ys (IsDistinct-tail meets x (xs ++ ys) apart)

-- the blocks of a list that start where one of them does are that one alone
pub starts_once : (xs : List Extent) (x : Extent) (at : ℕ) → IsDistinct meets xs → Contains xs x
    → x.at ≡ at → filter (starts_at at) xs ≡ x ∷ []
starts_once [] x at apart has here = absurd (in_none x has)
starts_once (z ∷ zs) x at apart has here =
    let first = IsDistinct-head meets z zs apart in
    elim (cons_cases x z zs has) [
      | inl same ↦
          let is : starts_at at z ≡ true = eq-eqb z.at at (ap (λ w. w.at) same ∙ here) in
          let others : filter (starts_at at) zs ≡ [] =
          filter_none (starts_at at) zs (λ y in_y.
          subst (λ (q : ℕ). starts_at q y ≡ false) (ap (λ w. w.at) same
          ∙ here) (apart_starts z y (at_element (λ w. meets z w ≡ false) zs y first in_y))) in
          rw (is, others) (ap (λ w. w ∷ []) same)
      | inr rest ↦
          let off : starts_at at z ≡ false = subst (λ (q : ℕ). starts_at q z ≡ false) here
          (apart_starts x z (meets-flip x z ∙ at_element (λ w. meets z w ≡ false) zs x first rest)) in
          rw off (starts_once zs x at (IsDistinct-tail meets z zs apart) rest here)
    ]
