-- The tags of a leaf: of one line more that has an entry, of one less, and the last of them.
use Rattle.std.proofs.Common.{◌≡◌, ◌≢◌, ℕ, zero, suc, ◌+◌, ◌-◌, ◌*◌, ◌/◌, ◌%◌, ◌^◌, ◌<◌, ◌≤◌, cond, eqb, ◌⊎◌, Bool}
use Rattle.std.proofs.Common.{true, false, not, Option, Some, None, List, [], ◌∷◌, length, get_or, set, refl, sym, ap}
use Rattle.std.proofs.Common.{◌∙◌, arith, inl, inr}
use Rattle.std.specs.Prelude.{IsSome, option_map, slice_get, bit_and, bit_or, bit_xor, count_ones}
use Rattle.std.specs.List.{insert, remove}
use Rattle.std.specs.Int.{bit_at}
use lib.Pow.{pow_mono}
use Rattle.std.proofs.Math.Nat.{mod-lt, pow-suc}
use Rattle.std.proofs.lemmas.Bool.{false≢true, cases_eq, cases_lt}
use Rattle.std.proofs.lemmas.Bool.Decides.{nat_tests}
use Rattle.std.proofs.lemmas.Nat.{mod-pow-add, ones_cat, ones-le, shr_split, shr-shr, pow_pos, and_mask, zero_from_ones}
use Rattle.std.proofs.lemmas.Nat.Bits.{bit_at-lt, bit_at_or, bit_at_xor, bit_at-pow_same, bit_at-pow_other, bit_at-zero}
use Rattle.std.proofs.lemmas.Nat.Bits.{bit_at_cat_low, bit_at_cat_high, bit_at_above, same_from_bits, and_pow}
use Rattle.line_map.specs.declared.tag.Tag.{Tag}
use Rattle.line_map.specs.declared.packed_tag.PackedTag.{PackedTag}
use Rattle.line_map.specs.Tags.{tag_of}
use Rattle.line_map.specs.Leaves.{has_entry, entries_below}

-- ---- how many of the lines below one have an entry

ones_zero : count_ones 0 ≡ 0
ones_zero = omega (arith, ones-le 0 0 (omega arith))

ones_one : (b : ℕ) → b < 2 → count_ones b ≡ b
ones_one zero lt = ones_zero
ones_one (suc zero) lt = let le = ones-le 1 1 (omega arith) in
    let some : count_ones 1 ≢ 0 = λ none. (let z = zero_from_ones 1 none in absurd (omega arith)) in omega arith
ones_one (suc (suc b)) lt = absurd (omega arith)

pub below_first : (lines : ℕ) → entries_below lines 0 ≡ 0
below_first lines = let none : lines % 2 ^ 0 ≡ 0 = omega arith in rw none ones_zero

pub below_next : (lines line : ℕ) → entries_below lines (line + 1) ≡ entries_below lines line + bit_at lines line
below_next lines line =
    let b = bit_at lines line in
    let turned : line + 1 ≡ 1 + line = omega arith in
    let parts : lines % 2 ^ (line + 1) ≡ b * 2 ^ line + lines % 2 ^ line = ap (λ k. lines % 2 ^ k) turned
    ∙ mod-pow-add lines 1 line in
    let cat : count_ones (b * 2 ^ line + lines % 2 ^ line) ≡ count_ones b + count_ones (lines % 2 ^ line) =
    ones_cat line b (lines % 2 ^ line) (mod-lt lines (pow_pos line)) in
    let one : count_ones b ≡ b = ones_one b (bit_at-lt lines line) in
    let all : entries_below lines (line + 1) ≡ count_ones (b * 2 ^ line + lines % 2 ^ line) = ap count_ones parts in
    omega arith

-- the entries in all, and those below a line
pub in_all : (lines line : ℕ) → count_ones lines ≡ count_ones (lines / 2 ^ line) + entries_below lines line
in_all lines line = ap count_ones (sym (shr_split lines line))
    ∙ ones_cat line (lines / 2 ^ line) (lines % 2 ^ line) (mod-lt lines (pow_pos line))

module _ (lines low : ℕ) where
  up_to : (count : ℕ) → entries_below lines low ≤ entries_below lines (low + count)
  up_to zero = let same : low + 0 ≡ low = omega arith in rw same (omega arith)
  up_to (suc count) =
      let step = below_next lines (low + count) in
      let le = up_to count in
      let same : low + suc count ≡ low + count + 1 = omega arith in
      rw same (omega arith)

pub below_le : (lines low high : ℕ) → low ≤ high → entries_below lines low ≤ entries_below lines high
below_le lines low high le =
    let same : high ≡ low + (high - low) = omega arith in
    rw same (up_to lines low (high - low))

-- a line with an entry counts
pub below_lt : (lines low high : ℕ) → bit_at lines low ≡ 1 → low < high
    → entries_below lines low < entries_below lines high
below_lt lines low high has lt =
    let step = below_next lines low in
    let le = below_le lines (low + 1) high (omega arith) in
    omega arith

pub place_lt : (lines line : ℕ) → bit_at lines line ≡ 1 → entries_below lines line < count_ones lines
place_lt lines line has =
    let step = below_next lines line in
    let all = in_all lines (line + 1) in
    omega arith

pub place_le : (lines line : ℕ) → entries_below lines line ≤ count_ones lines
place_le lines line = let all = in_all lines line in omega arith

-- ---- what the tests of bits say

pub same_line : (a b : ℕ) → eqb a b ≡ true → a ≡ b
same_line a b same = grind (arith, nat_tests)

pub not_same : (a b : ℕ) → a ≢ b → eqb a b ≡ false
not_same a b other = grind (arith, nat_tests)

pub itself : (a : ℕ) → eqb a a ≡ true
itself a = grind (arith, nat_tests)

pub has_one : (lines line : ℕ) → has_entry lines line ≡ true → bit_at lines line ≡ 1
has_one lines line has = same_line (bit_at lines line) 1 has

pub has_none : (lines line : ℕ) → has_entry lines line ≡ false → bit_at lines line ≡ 0
has_none lines line none = let few = bit_at-lt lines line in grind (arith, nat_tests)

pub has_test : (lines line : ℕ) → not (eqb (bit_and lines (2 ^ line)) 0) ≡ has_entry lines line
has_test lines line = rw (and_pow lines line) (go (bit_at lines line) (bit_at-lt lines line))
  where
    go : (b : ℕ) → b < 2 → not (eqb (b * 2 ^ line) 0) ≡ eqb b 1
    go zero lt = let none : 0 * 2 ^ line ≡ 0 = omega arith in rw none refl
    go (suc zero) lt = let some : eqb (1 * 2 ^ line) 0 ≡ false =
        not_same (1 * 2 ^ line) 0 (λ none. (let pos = pow_pos line in absurd (omega arith))) in rw some refl
    go (suc (suc b)) lt = absurd (omega arith)

-- ---- an element of a list where one is put, taken out or changed

module _ {X : Type 0} where
  pub some_at : (xs : List X) (i : ℕ) (d : X) → i < length xs → slice_get xs i ≡ Some (get_or xs i d)
  some_at [] i d lt = absurd (omega arith)
  some_at (x ∷ xs) zero d lt = refl
  some_at (x ∷ xs) (suc i) d lt = some_at xs i d (omega arith)

  put_at : (xs : List X) (i : ℕ) (x : X) → i ≤ length xs → slice_get (insert xs i x) i ≡ Some x
  put_at xs zero x le = refl
  put_at [] (suc i) x le = absurd (omega arith)
  put_at (y ∷ xs) (suc i) x le = put_at xs i x (omega arith)

  put_past : (xs : List X) (i : ℕ) (x : X) (k : ℕ) → k < i → i ≤ length xs
      → slice_get (insert xs i x) k ≡ slice_get xs k
  put_past xs zero x k lt le = absurd (omega arith)
  put_past [] (suc i) x k lt le = absurd (omega arith)
  put_past (y ∷ xs) (suc i) x zero lt le = refl
  put_past (y ∷ xs) (suc i) x (suc k) lt le = put_past xs i x k (omega arith) (omega arith)

  put_before : (xs : List X) (i : ℕ) (x : X) (k : ℕ) → i ≤ k → i ≤ length xs
      → slice_get (insert xs i x) (suc k) ≡ slice_get xs k
  put_before xs zero x k low le = refl
  put_before [] (suc i) x k low le = absurd (omega arith)
  put_before (y ∷ xs) (suc i) x zero low le = absurd (omega arith)
  put_before (y ∷ xs) (suc i) x (suc k) low le = put_before xs i x k (omega arith) (omega arith)

  taken_past : (xs : List X) (i k : ℕ) → k < i → i < length xs → slice_get (remove xs i) k ≡ slice_get xs k
  taken_past xs zero k lt less = absurd (omega arith)
  taken_past [] (suc i) k lt less = absurd (omega arith)
  taken_past (y ∷ xs) (suc i) zero lt less = refl
  taken_past (y ∷ xs) (suc i) (suc k) lt less = taken_past xs i k (omega arith) (omega arith)

  taken_before : (xs : List X) (i k : ℕ) → i ≤ k → i < length xs → slice_get (remove xs i) k ≡ slice_get xs (suc k)
  taken_before [] i k low less = absurd (omega arith)
  taken_before (y ∷ xs) zero k low less = refl
  taken_before (y ∷ xs) (suc i) zero low less = absurd (omega arith)
  taken_before (y ∷ xs) (suc i) (suc k) low less = taken_before xs i k (omega arith) (omega arith)

  changed : (xs : List X) (i : ℕ) (x : X) → i < length xs → slice_get (set xs i x) i ≡ Some x
  changed [] i x lt = absurd (omega arith)
  changed (y ∷ xs) zero x lt = refl
  changed (y ∷ xs) (suc i) x lt = changed xs i x (omega arith)

  unchanged : (xs : List X) (i : ℕ) (x : X) (k : ℕ) → k ≢ i → slice_get (set xs i x) k ≡ slice_get xs k
  unchanged [] i x k other = refl
  unchanged (y ∷ xs) zero x zero other = absurd (other refl)
  unchanged (y ∷ xs) zero x (suc k) other = refl
  unchanged (y ∷ xs) (suc i) x zero other = refl
  unchanged (y ∷ xs) (suc i) x (suc k) other = unchanged xs i x k (λ same. other (ap suc same))

-- ---- the tags

-- the tag of a line among entries that these lines have
abbrev pub tag_at : ℕ → List PackedTag → ℕ → Option Tag
tag_at lines es line = cond (has_entry lines line) (option_map tag_of (slice_get es (entries_below lines line))) None

pub without : (lines : ℕ) (es : List PackedTag) (line : ℕ) → bit_at lines line ≡ 0 → tag_at lines es line ≡ None
without lines es line none = rw none refl

pub with_one : (lines : ℕ) (es : List PackedTag) (line : ℕ) → bit_at lines line ≡ 1
    → tag_at lines es line ≡ option_map tag_of (slice_get es (entries_below lines line))
with_one lines es line one = rw one refl

-- where a line has a tag, it has an entry
pub one_there : (lines : ℕ) (es : List PackedTag) (line : ℕ) → IsSome (tag_at lines es line) → bit_at lines line ≡ 1
one_there lines es line there = go (has_entry lines line) refl there
  where
    go : (has : Bool) → has_entry lines line ≡ has
        → IsSome (cond has (option_map tag_of (slice_get es (entries_below lines line))) None) → bit_at lines line ≡ 1
    go true has there = has_one lines line has
    go false has there = absurd (false≢true there)

-- a line without an entry stays without
pub still_none : (lines : ℕ) (es : List PackedTag) (line : ℕ) → bit_at lines line ≡ 0 → (index : ℕ)
    → tag_at lines es index ≡ cond (eqb index line) None (tag_at lines es index)
still_none lines es line none index =
    elim (cases_eq index line) [
      | inl same ↦ rw (same, itself line) (without lines es line none)
      | inr other ↦ rw (not_same index line other) refl
    ]

-- the tag is that of the entry in its place
pub tagged : (lines : ℕ) (es : List PackedTag) (line : ℕ) (d : PackedTag) → count_ones lines ≡ length es
    → bit_at lines line ≡ 1
    → tag_at lines es line ≡ Some (tag_of (get_or es (entries_below lines line) d))
tagged lines es line d counted one =
    let lt = place_lt lines line one in
    with_one lines es line one ∙ ap (option_map tag_of) (some_at es (entries_below lines line) d (omega arith))

-- a line with an entry has a tag
pub tag_there : (lines : ℕ) (es : List PackedTag) (line : ℕ) → count_ones lines ≡ length es → bit_at lines line ≡ 1
    → IsSome (tag_at lines es line)
tag_there lines es line counted one = let lt = place_lt lines line one in
    rw (with_one lines es line one) (some_in es (entries_below lines line) (omega arith))
  where
    some_in : (es : List PackedTag) (place : ℕ) → place < length es → IsSome (option_map tag_of (slice_get es place))
    some_in [] place lt = absurd (omega arith)
    some_in (e ∷ es) zero lt = refl
    some_in (e ∷ es) (suc place) lt = some_in es place (omega arith)

-- another entry in the place of a line's
pub replaced : (lines : ℕ) (es : List PackedTag) (line : ℕ) (e : PackedTag) (tag : Tag) → tag_of e ≡ tag
    → count_ones lines ≡ length es → bit_at lines line ≡ 1 → (index : ℕ) →
    tag_at lines (set es (entries_below lines line) e) index
    ≡ cond (eqb index line) (Some tag) (tag_at lines es index)
replaced lines es line e tag is counted one index =
    elim (cases_eq index line) [
      | inl same ↦
          let lt = place_lt lines line one in
          rw (same, itself line) (with_one lines (set es (entries_below lines line) e) line one
          ∙ ap (option_map tag_of) (changed es (entries_below lines line) e (omega arith)) ∙ ap Some is)
      | inr other ↦ rw (not_same index line other) (go other (bit_at lines index) refl (bit_at-lt lines index))
    ]
  where
    apart : index ≢ line → bit_at lines index ≡ 1 → entries_below lines index ≢ entries_below lines line
    apart other used =
        elim (cases_lt index line) [
          | inl lt ↦ let less = below_lt lines index line used lt in λ same. absurd (omega arith)
          | inr ge ↦ let less = below_lt lines line index one (omega arith) in λ same. absurd (omega arith)
        ]

    go : index ≢ line → (b : ℕ) → bit_at lines index ≡ b → b < 2
        → tag_at lines (set es (entries_below lines line) e) index ≡ tag_at lines es index
    go other zero none lt = without lines (set es (entries_below lines line) e) index none
        ∙ sym (without lines es index none)
    go other (suc zero) used lt =
        with_one lines (set es (entries_below lines line) e) index used
        ∙ ap (option_map tag_of) (unchanged es (entries_below lines line) e (entries_below lines index)
        (apart other used))
        ∙ sym (with_one lines es index used)
    go other (suc (suc b)) none lt = absurd (omega arith)

-- of two sets of lines, the one has one line more than the other
abbrev pub OneMore : ℕ → ℕ → ℕ → Type 0
OneMore few many line = (bit_at few line ≡ 0) × (bit_at many line ≡ 1)
    × ((other : ℕ) → other ≢ line → bit_at many other ≡ bit_at few other)

pub one_more : (lines line : ℕ) → has_entry lines line ≡ false → OneMore lines (bit_or lines (2 ^ line)) line
one_more lines line free =
    let none = has_none lines line free in (
      none,
      (let here = bit_at_or lines (2 ^ line) line in let own = bit_at-pow_same line in omega arith),
      λ other apart. (let there = bit_at_or lines (2 ^ line) other in let own = bit_at-pow_other line other apart in
          omega arith),
    )

pub one_less : (lines line : ℕ) → has_entry lines line ≡ true → OneMore (bit_xor lines (2 ^ line)) lines line
one_less lines line used =
    let one = has_one lines line used in (
      (let here = bit_at_xor lines (2 ^ line) line in let own = bit_at-pow_same line in omega arith),
      one,
      λ other apart. (let there = bit_at_xor lines (2 ^ line) other in let own = bit_at-pow_other line other apart in
          let few = bit_at-lt lines other in omega arith),
    )

module _ (few many line : ℕ) (more : OneMore few many line) where
  pub same_place : (low : ℕ) → low ≤ line → entries_below many low ≡ entries_below few low
  same_place zero le = below_first many ∙ sym (below_first few)
  same_place (suc low) le =
      let lower = same_place low (omega arith) in
      let one : suc low ≡ low + 1 = omega arith in
      let next = below_next many low in
      let before = below_next few low in
      let same = more.2 low (λ same. absurd (omega arith)) in
      rw one (omega arith)

  pub later_place : (high : ℕ) → line < high → entries_below many high ≡ suc (entries_below few high)
  later_place zero lt = absurd (omega arith)
  later_place (suc high) lt =
      let one : suc high ≡ high + 1 = omega arith in
      let next = below_next many high in
      let before = below_next few high in
      elim (cases_lt line high) [
        | inl less ↦
            let lower = later_place high less in
            let same = more.2 high (λ same. absurd (omega arith)) in
            rw one (omega arith)
        | inr ge ↦
            let last : high ≡ line = omega arith in
            let lower = same_place high (omega arith) in
            let free : bit_at few high ≡ 0 = rw last more.0 in
            let used : bit_at many high ≡ 1 = rw last more.1 in
            rw one (omega arith)
      ]

  pub one_more_in_all : count_ones many ≡ suc (count_ones few)
  one_more_in_all =
      let all = in_all few (line + 1) in
      let all' = in_all many (line + 1) in
      let same : many / 2 ^ (line + 1) ≡ few / 2 ^ (line + 1) =
      same_from_bits (many / 2 ^ (line + 1)) (few / 2 ^ (line + 1)) (λ i. bit_past many i
      ∙ more.2 (line + 1 + i) (λ same. absurd (omega arith)) ∙ sym (bit_past few i)) in
      let past : count_ones (many / 2 ^ (line + 1)) ≡ count_ones (few / 2 ^ (line + 1)) = ap count_ones same in
      let later = later_place (line + 1) (omega arith) in
      omega arith
    where
      bit_past : (lines i : ℕ) → bit_at (lines / 2 ^ (line + 1)) i ≡ bit_at lines (line + 1 + i)
      bit_past lines i = ap (λ n. n % 2) (shr-shr lines (line + 1) i)

  -- an entry more, in its place
  pub added : (es : List PackedTag) (e : PackedTag) (tag : Tag) → tag_of e ≡ tag → count_ones few ≡ length es
      → (index : ℕ)
      →
      tag_at many (insert es (entries_below few line) e) index
      ≡ cond (eqb index line) (Some tag) (tag_at few es index)
  added es e tag is counted index =
      elim (cases_eq index line) [
        | inl same ↦ rw (same, itself line)
            (with_one many (insert es (entries_below few line) e) line more.1
            ∙ ap (λ place. option_map tag_of (slice_get (insert es (entries_below few line) e) place))
            (same_place line (omega arith))
            ∙ ap (option_map tag_of) (put_at es (entries_below few line) e within) ∙ ap Some is)
        | inr other ↦ rw (not_same index line other)
            (go (more.2 index other) (bit_at few index) refl (bit_at-lt few index) (cases_lt index line) other)
      ]
    where
      within : entries_below few line ≤ length es
      within = let le = place_le few line in omega arith

      at : ℕ → Option Tag
      at place = option_map tag_of (slice_get (insert es (entries_below few line) e) place)

      go : bit_at many index ≡ bit_at few index → (b : ℕ) → bit_at few index ≡ b → b < 2
          → (index < line) ⊎ (line ≤ index) → index ≢ line →
          tag_at many (insert es (entries_below few line) e) index ≡ tag_at few es index
      go same zero none lt side other = without many (insert es (entries_below few line) e) index (same ∙ none)
          ∙ sym (without few es index none)
      go same (suc zero) used lt (inl low) other =
          with_one many (insert es (entries_below few line) e) index (same ∙ used)
          ∙ ap at (same_place index (omega arith))
          ∙ ap (option_map tag_of) (put_past es (entries_below few line) e (entries_below few index)
          (below_lt few index line used low) within)
          ∙ sym (with_one few es index used)
      go same (suc zero) used lt (inr high) other =
          with_one many (insert es (entries_below few line) e) index (same ∙ used)
          ∙ ap at (later_place index (omega arith))
          ∙ ap (option_map tag_of) (put_before es (entries_below few line) e (entries_below few index)
          (below_le few line index high) within)
          ∙ sym (with_one few es index used)
      go same (suc (suc b)) none lt side other = absurd (omega arith)

  -- an entry less
  pub left_out : (es : List PackedTag) → count_ones many ≡ length es → (index : ℕ) →
      tag_at few (remove es (entries_below many line)) index ≡ cond (eqb index line) None (tag_at many es index)
  left_out es counted index =
      elim (cases_eq index line) [
        | inl same ↦ rw (same, itself line) (without few (remove es (entries_below many line)) line more.0)
        | inr other ↦ rw (not_same index line other)
            (go (more.2 index other) (bit_at few index) refl (bit_at-lt few index) (cases_lt index line) other)
      ]
    where
      within : entries_below many line < length es
      within = let lt = place_lt many line more.1 in omega arith

      at : ℕ → Option Tag
      at place = option_map tag_of (slice_get es place)

      go : bit_at many index ≡ bit_at few index → (b : ℕ) → bit_at few index ≡ b → b < 2
          → (index < line) ⊎ (line ≤ index) → index ≢ line →
          tag_at few (remove es (entries_below many line)) index ≡ tag_at many es index
      go same zero none lt side other = without few (remove es (entries_below many line)) index none
          ∙ sym (without many es index (same ∙ none))
      go same (suc zero) used lt (inl low) other =
          let place = same_place index (omega arith) in
          let less = below_lt many index line (same ∙ used) low in
          with_one few (remove es (entries_below many line)) index used
          ∙ ap (option_map tag_of) (taken_past es (entries_below many line) (entries_below few index) (omega arith)
          within)
          ∙ sym (ap at place) ∙ sym (with_one many es index (same ∙ used))
      go same (suc zero) used lt (inr high) other =
          let place = later_place index (omega arith) in
          let less = below_lt many line index more.1 (omega arith) in
          with_one few (remove es (entries_below many line)) index used
          ∙ ap (option_map tag_of) (taken_before es (entries_below many line) (entries_below few index) (omega arith)
          within)
          ∙ sym (ap at place) ∙ sym (with_one many es index (same ∙ used))
      go same (suc (suc b)) none lt side other = absurd (omega arith)

-- ---- the last line with an entry, of those below one

module _ (lines end : ℕ) where
  bit_of_rest : (line : ℕ) → line < end → bit_at lines line ≡ bit_at (lines % 2 ^ end) line
  bit_of_rest line lt = ap (λ n. bit_at n line) (sym (shr_split lines end))
      ∙ bit_at_cat_low (lines / 2 ^ end) end (lines % 2 ^ end) line lt

  pub none_below : bit_and lines (2 ^ end - 1) ≡ 0 → (line : ℕ) → line < end → bit_at lines line ≡ 0
  none_below none line lt = bit_of_rest line lt ∙ ap (λ n. bit_at n line) (sym (and_mask lines end) ∙ none)
      ∙ bit_at-zero line

  pub last_below : (line : ℕ) → 2 ^ line ≤ bit_and lines (2 ^ end - 1) → bit_and lines (2 ^ end - 1) < 2 * 2 ^ line
      → (line < end) × (bit_at lines line ≡ 1) × ((later : ℕ) → line < later → later < end → bit_at lines later ≡ 0)
  last_below line low high = go (rw (and_mask lines end) at low) (rw (and_mask lines end) at high)
    where
      rest : ℕ
      rest = lines % 2 ^ end

      before : 2 ^ line ≤ rest → line < end
      before low =
          elim (cases_lt line end) [
            | inl lt ↦ lt
            | inr ge ↦ let more = pow_mono ge in let less = mod-lt lines (pow_pos end) in absurd (omega arith)
          ]

      top : 2 ^ line ≤ rest → rest < 2 * 2 ^ line → bit_at rest line ≡ 1
      top low high =
          let parts : rest ≡ 1 * 2 ^ line + (rest - 2 ^ line) = omega arith in
          let own : line - line ≡ 0 = omega arith in
          ap (λ n. bit_at n line) parts ∙ bit_at_cat_high 1 line (rest - 2 ^ line) line (omega arith) (omega arith)
          ∙ ap (bit_at 1) own

      above : rest < 2 * 2 ^ line → (later : ℕ) → line < later → bit_at rest later ≡ 0
      above high later lt = let two = pow-suc 2 line in bit_at_above rest (suc line) later (omega arith) (omega arith)

      go : 2 ^ line ≤ rest → rest < 2 * 2 ^ line
          → (line < end) × (bit_at lines line ≡ 1) × ((later : ℕ) → line < later → later < end → bit_at lines later ≡ 0)
      go low high = (
        before low,
        bit_of_rest line (before low) ∙ top low high,
        λ later past below. bit_of_rest later below ∙ above high later past,
      )
