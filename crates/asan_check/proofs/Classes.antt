-- The class of a granule's first byte, from the granule's shadow byte.
use Rattle.std.proofs.Common.{◌≡◌, ℕ, zero, suc, ◌+◌, ◌*◌, ◌≤◌, ◌<◌, Bool, true, false, cond, leb, ltb, eqb, List, []}
use Rattle.std.proofs.Common.{◌∷◌, refl, ◌∙◌, arith}
use Rattle.std.specs.List.{list_all}
use Rattle.std.proofs.lemmas.Bool.{false≢true, and_parts, leb-true}
use Rattle.std.proofs.lemmas.Bool.Decides.{nat_tests}
use Rattle.shadow_map.specs.States.{State, Addressable, Coded, is_addressable, code_of, addressable_front, shadow_byte}
use Rattle.shadow_map.specs.States.{lift}
use Rattle.asan_check.specs.declared.report.Class.{Class}
use Rattle.asan_check.specs.declared.report.Class.TheVariants as class
use Rattle.asan_check.specs.Codes.{classes, class_among, class_of_code}

-- no row has a number of addressable bytes in the place of a code
abbrev AreHigh : List (ℕ × Class) → Bool
AreHigh rows = list_all (λ row. leb 128 row.0) rows

unknown_among : (rows : List (ℕ × Class)) → AreHigh rows ≡ true → (shadow : ℕ) → shadow ≤ 8
    → class_among rows shadow ≡ class.UnknownCrash
unknown_among [] high shadow le = refl
unknown_among (row ∷ rows) high shadow le =
    let parts = and_parts (leb 128 row.0) (AreHigh rows) high in
    let first = leb-true _ _ parts.0 in
    let other : eqb shadow row.0 ≡ false = grind (arith, nat_tests) in
    rw other (unknown_among rows parts.1 shadow le)

unknown_below : (shadow : ℕ) → shadow ≤ 8 → class_of_code shadow ≡ class.UnknownCrash
unknown_below = unknown_among classes refl

some_front : (front : ℕ) (first : State) → 0 < front → front ≤ 8 → shadow_byte front first ≤ 8
some_front front first some most = grind (arith, nat_tests)

class_by_front : (first : State) (front : ℕ) → is_addressable first ≡ ltb 0 front → front ≤ 8
    → class_of_code (shadow_byte front first) ≡ class_of_code (code_of first)
class_by_front Addressable front is most =
    unknown_below _ (some_front front Addressable (grind (arith, nat_tests)) most)
class_by_front (Coded code) zero is most = refl
class_by_front (Coded code) (suc front) is most = absurd (false≢true (is ∙ grind (arith, nat_tests)))

module _ (states : ℕ → State) where
  front_most : (byte count : ℕ) → addressable_front states byte count ≤ count
  front_most byte zero = omega arith
  front_most byte (suc count) = go (is_addressable (states byte)) (front_most (byte + 1) count)
    where
      go : (t : Bool) → addressable_front states (byte + 1) count ≤ count
          → cond t (suc (addressable_front states (byte + 1) count)) 0 ≤ suc count
      go true le = omega arith
      go false le = omega arith

  front_first : (byte count : ℕ) → is_addressable (states byte) ≡ ltb 0 (addressable_front states byte (suc count))
  front_first byte count = go (is_addressable (states byte))
    where
      go : (t : Bool) → t ≡ ltb 0 (cond t (suc (addressable_front states (byte + 1) count)) 0)
      go true = grind (arith, nat_tests)
      go false = refl

  first_is : (granule : ℕ) → is_addressable (states (8 * granule)) ≡ ltb 0 (addressable_front states (8 * granule) 8)
  first_is granule = front_first (8 * granule) 7

  -- a shadow byte decides the class of its granule's first byte
  pub class_shown : (granule : ℕ) → class_of_code (lift states granule) ≡ class_of_code (code_of (states (8 * granule)))
  class_shown granule = class_by_front (states (8 * granule)) (addressable_front states (8 * granule) 8)
      (first_is granule) (front_most (8 * granule) 8)
