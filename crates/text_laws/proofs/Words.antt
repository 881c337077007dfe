-- Words: the texts between the spaces of a line. Where two texts are equal that begin with a word and the same space or
-- line feed, the words are equal, and what follows them.
use Rattle.std.proofs.Common.{◌≡◌, ℕ, zero, suc, ◌-◌, ◌^◌, ◌<◌, ◌≤◌, false, List, [], ◌∷◌, ◌++◌, length}
use Rattle.std.proofs.Common.{get_or, drop, replicate, decimal, refl, sym, ap, ◌∙◌, arith, ⊎_elim, lt-ltb}
use Rattle.std.specs.Char.{digit_value}
use Rattle.std.specs.Fmt.{digits}
use Rattle.std.specs.Str.Parse.{AllDigits, digits_value}
use Rattle.std.proofs.lemmas.Bool.{cases_lt}
use Rattle.std.proofs.lemmas.Fmt.{decimal_injective, decimal_is_IsNumeral, digits_is_IsNumeral}
use Rattle.asan_check.specs.Lines.{hex_text}

-- each byte of a word stands above a space
abbrev pub IsWord : List ℕ → Type 0
IsWord [] = Unit {0}
IsWord (c ∷ cs) = (32 < c) × IsWord cs

IsWord-append : (v w : List ℕ) → IsWord v → IsWord w → IsWord (v ++ w)
IsWord-append [] w a b = b
IsWord-append (c ∷ v) w a b = (a.0, IsWord-append v w a.1 b)

no_digit : (c : ℕ) → c ≤ 32 → digit_value c ≡ 36
no_digit c low = rw (lt-ltb c 48 (omega arith)) refl

digit_above : (c : ℕ) → digit_value c < 16 → 32 < c
digit_above c is = ⊎_elim (λ h. h) (λ h. let k = no_digit c h in absurd (omega arith)) (cases_lt 32 c)

IsWord-digits : (radix : ℕ) (ds : List ℕ) → radix ≤ 16 → AllDigits radix ds → IsWord ds
IsWord-digits radix [] high all = tt
IsWord-digits radix (c ∷ cs) high all = (digit_above c (omega (arith, all.0)), IsWord-digits radix cs high all.1)

pub IsWord-decimal : (n : ℕ) → n < 2 ^ 64 → IsWord (decimal n)
IsWord-decimal n fits = IsWord-digits 10 _ (omega arith) (decimal_is_IsNumeral n fits).0.1

IsWord-zeros : (k : ℕ) → IsWord (replicate k 48)
IsWord-zeros zero = tt
IsWord-zeros (suc k) = (omega arith, IsWord-zeros k)

-- zeros before a number count for nothing
after_zeros : (k : ℕ) (ds : List ℕ) → digits_value 16 (replicate k 48 ++ ds) ≡ digits_value 16 ds
after_zeros zero ds = refl
after_zeros (suc k) ds = after_zeros k ds

pub IsWord-hex : (width n : ℕ) → n < 2 ^ 64 → IsWord (hex_text width n)
IsWord-hex width n fits =
    let (numeral, value) = digits_is_IsNumeral 16 false (omega arith) (omega arith) n (omega arith) in
    IsWord-append _ _ (IsWord-zeros _) (IsWord-digits 16 _ (omega arith) numeral.1)

hex_value : (width n : ℕ) → n < 2 ^ 64 → digits_value 16 (hex_text width n) ≡ n
hex_value width n fits =
    let (numeral, value) = digits_is_IsNumeral 16 false (omega arith) (omega arith) n (omega arith) in
    after_zeros (width - length (digits 16 false n)) (digits 16 false n) ∙ value

first : (x y : List ℕ) → x ≡ y → get_or x 0 0 ≡ get_or y 0 0
first x y e = ap (λ (t : List ℕ). get_or t 0 0) e

module _ (gap : ℕ) (low : gap ≤ 32) where
  words_end : (v w x y : List ℕ) → IsWord v → IsWord w → v ++ gap ∷ x ≡ w ++ gap ∷ y → (v ≡ w) × (x ≡ y)
  words_end [] [] x y a b e = (refl, ap (drop 1) e)
  words_end [] (d ∷ w) x y a b e = let k = first _ _ e in absurd (omega (arith, b.0))
  words_end (c ∷ v) [] x y a b e = let k = first _ _ e in absurd (omega (arith, a.0))
  words_end (c ∷ v) (d ∷ w) x y a b e =
      let k = first _ _ e in
      let rest = words_end v w x y a.1 b.1 (ap (drop 1) e) in
      let same : v ≡ w = rest.0 in
      (cc, rest.1)

  -- a number in decimal digits
  pub decimals_end : (m n : ℕ) (x y : List ℕ) → m < 2 ^ 64 → n < 2 ^ 64
      → decimal m ++ gap ∷ x ≡ decimal n ++ gap ∷ y → (m ≡ n) × (x ≡ y)
  decimals_end m n x y fits fits_too e =
      let ends = words_end _ _ x y (IsWord-decimal m fits) (IsWord-decimal n fits_too) e in
      (decimal_injective m n fits fits_too ends.0, ends.1)

  -- and one in hexadecimal digits, with zeros before it
  pub hex_texts_end : (width m n : ℕ) (x y : List ℕ) → m < 2 ^ 64 → n < 2 ^ 64
      → hex_text width m ++ gap ∷ x ≡ hex_text width n ++ gap ∷ y → (m ≡ n) × (x ≡ y)
  hex_texts_end width m n x y fits fits_too e =
      let ends = words_end _ _ x y (IsWord-hex width m fits) (IsWord-hex width n fits_too) e in
      (sym (hex_value width m fits) ∙ ap (digits_value 16) ends.0 ∙ hex_value width n fits_too, ends.1)
