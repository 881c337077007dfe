-- Hexadecimal digits that are written from the last to the first, into a buffer of 16 zeros.
use Rattle.std.proofs.Common.{◌≡◌, ℕ, zero, suc, ◌+◌, ◌-◌, ◌*◌, ◌/◌, ◌%◌, ◌^◌, ◌<◌, ◌≤◌, false, List, [], ◌∷◌, ◌++◌}
use Rattle.std.proofs.Common.{length, take, drop, replicate, refl, sym, ap, ◌∙◌, subst, arith, add-one, take-take}
use Rattle.std.proofs.Common.{ne_eqb}
use Rattle.std.specs.Prelude.{min, slice_set}
use Rattle.asan_check.specs.Lines.{hex_text}
use Rattle.std.proofs.Math.Nat.{pow-suc}
use Rattle.std.proofs.lemmas.List.{length-set, take-set, drop-set, take-replicate, drop-replicate, length-replicate}
use Rattle.std.proofs.lemmas.List.{take-append-drop, drop-append-le, length-drop}
use Rattle.std.proofs.lemmas.List.Elements.{All-replicate}
use Rattle.std.proofs.lemmas.Str.Ascii.{IsAscii-from_all, IsAscii-set}
use Rattle.std.specs.Str.{IsAscii}
use Rattle.std.specs.Fmt.{digit_glyph, digits, digits_onto}

-- `digits_onto` where no digit is left, and where some are
onto_none : (number : ℕ) → digits_onto 64 16 false number [] ≡ digits 16 false number
unfolding digits
onto_none number = refl

onto_last : (places number : ℕ) (after : List ℕ) → 0 < places → number / 16 ≡ 0
    → digits_onto places 16 false number after ≡ digit_glyph false (number % 16) ∷ after
onto_last zero number after more none = absurd (omega arith)
onto_last (suc places) number after more none = rw none refl

onto_next : (places number : ℕ) (after : List ℕ) → 0 < places → 0 < number / 16
    → digits_onto places 16 false number after
    ≡ digits_onto (places - 1) 16 false (number / 16) (digit_glyph false (number % 16) ∷ after)
onto_next zero number after more some = absurd (omega arith)
onto_next (suc places) number after more some =
    let less : suc places - 1 ≡ places = omega arith in rw (ne_eqb (number / 16) 0 (λ none. omega arith), less) refl

-- after the place `first` stand the last digits of the number, and `left` has those that go before them; up to `first`
-- the buffer has zeros, and enough of them
pub record IsWritten (number first left : ℕ) (buffer : List ℕ) : Type 0 where
  pub within : first < 16
  pub long : length buffer ≡ 16
  pub ascii : IsAscii buffer
  pub room : left < 16 ^ (first + 1)
  pub digits : digits_onto (first + 49) 16 false left (drop (first + 1) buffer) ≡ digits 16 false number
  pub zeros : take (first + 1) buffer ≡ replicate (first + 1) 48

pub nothing_written : (number first : ℕ) → first ≡ 15 → number < 2 ^ 64
    → IsWritten number first number (replicate 16 48)
nothing_written number first at small =
    subst (λ (k : ℕ). IsWritten number k number (replicate 16 48)) (sym at) (record {
      within = omega arith;
      long = refl;
      ascii = IsAscii-from_all (replicate 16 48) (All-replicate (λ b. b < 128) 16 48 (omega arith));
      room = omega arith;
      digits = onto_none number;
      zeros = refl;
    })

-- fewer of the zeros at the front
shorter : (first : ℕ) (buffer : List ℕ) → take (first + 1) buffer ≡ replicate (first + 1) 48
    → take first buffer ≡ replicate first 48
shorter first buffer zeros =
    sym (take-take first (first + 1) buffer (omega arith)) ∙ ap (take first) zeros
    ∙ take-replicate first (first + 1) 48 (omega arith)

-- a number that needs more than one place
more_places : (first left : ℕ) → 16 ≤ left → left < 16 ^ (first + 1) → 0 < first
more_places zero left large room = absurd (omega arith)
more_places (suc first) left large room = omega arith

-- without its last digit a number needs one place fewer
fewer_places : (first left : ℕ) → left < 16 ^ (first + 1) → left / 16 < 16 ^ first
fewer_places first left room = let wide : left < 16 ^ first * 16 = rw (add-one, pow-suc) at room in omega arith

-- one more digit written
pub digit_written : (number first left : ℕ) (buffer : List ℕ) (digit : ℕ) → IsWritten number first left buffer
    → 16 ≤ left → digit ≡ digit_glyph false (left % 16) → digit < 128
    → IsWritten number (first - 1) (left / 16) (slice_set buffer first digit)
digit_written number first left buffer digit w large is low =
    let more = more_places first left large w.room in
    let same : first - 1 + 1 ≡ first = omega arith in
    let fuel : first - 1 + 49 ≡ first + 49 - 1 = omega arith in
    let fits : first < length buffer = omega (arith, w.within, w.long) in
    record {
      within = omega arith;
      long = length-set buffer first digit ∙ w.long;
      ascii = IsAscii-set buffer first digit w.ascii low;
      room = rw same (fewer_places first left w.room);
      digits = rw (same, fuel, drop-set buffer first digit fits, is) (
          sym (onto_next (first + 49) left (drop (first + 1) buffer) (omega arith) (omega arith)) ∙ w.digits
          );
      zeros = rw (same, take-set buffer first digit) (shorter first buffer w.zeros);
    }

-- the last digit written, which is the first of the number
pub all_digits_written : (number first left : ℕ) (buffer : List ℕ) (digit : ℕ) → IsWritten number first left buffer
    → left < 16 → digit ≡ digit_glyph false left → drop first (slice_set buffer first digit) ≡ digits 16 false number
all_digits_written number first left buffer digit w small is =
    let last : left % 16 ≡ left = omega arith in
    drop-set buffer first digit (omega arith)
    ∙ ap (λ d. d ∷ drop (first + 1) buffer) (is ∙ ap (digit_glyph false) (sym last))
    ∙ sym (onto_last (first + 49) left (drop (first + 1) buffer) (omega arith) (omega arith)) ∙ w.digits

pub zeros_before : (number first left : ℕ) (buffer : List ℕ) (digit : ℕ) → IsWritten number first left buffer
    → take first (slice_set buffer first digit) ≡ replicate first 48
zeros_before number first left buffer digit w = take-set buffer first digit ∙ shorter first buffer w.zeros

-- the buffer from a place in its zeros on: the number with zeros before it up to a width
pub padded_from : (number first width start : ℕ) (buffer : List ℕ) → length buffer ≡ 16 → width ≤ 16 → first < 16
    → drop first buffer ≡ digits 16 false number → take first buffer ≡ replicate first 48
    → start ≡ min first (16 - width) → drop start buffer ≡ hex_text width number
padded_from number first width start buffer long narrow within digits_are zeros_are start_is =
    let split : buffer ≡ replicate first 48 ++ digits 16 false number =
    sym (take-append-drop first buffer) ∙ ap (λ front. front ++ drop first buffer) zeros_are
    ∙ ap (λ back. replicate first 48 ++ back) digits_are in
    let count : length (digits 16 false number) ≡ 16 - first = sym (ap length digits_are) ∙ length-drop first buffer
    ∙ ap (λ n. n - first) long in
    let zeros_left : first - start ≡ width - length (digits 16 false number) = omega arith in
    ap (drop start) split ∙ drop-append-le start (replicate first 48) (digits 16 false number)
    (omega (arith, length-replicate {A = ℕ} first 48))
    ∙ ap (λ front. front ++ digits 16 false number) (drop-replicate start first 48
    ∙ ap (λ n. replicate n 48) zeros_left)
