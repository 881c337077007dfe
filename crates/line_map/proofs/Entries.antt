-- The entries of lines with tags, as a tag comes in, changes or goes.
use Rattle.std.proofs.Common.{◌≡◌, ◌≢◌, ℕ, zero, suc, ◌+◌, ◌*◌, ◌/◌, ◌%◌, ◌<◌, ◌≤◌, true, false, cond, eqb, [], ◌∷◌}
use Rattle.std.proofs.Common.{Option, Some, None, refl, sym, ap, ◌∙◌, arith, inl, inr}
use Rattle.std.specs.Map.{remove_entry, set_value}
use Rattle.std.specs.BTreeMap.{is_at, insert_entry}
use Rattle.std.specs.Ordering.{nat_cmp}
use Rattle.std.specs.declared.cmp.Ordering.TheVariants as order
use Rattle.std.proofs.lemmas.Bool.{cases_eq}
use Rattle.std.proofs.lemmas.Bool.Decides.{nat_tests}
use Rattle.std.proofs.lemmas.Grind.{common_steps}
use Rattle.line_map.specs.declared.tag.Slot.{Slot}
use Rattle.line_map.specs.declared.tag.Tag.{Tag}
use Rattle.line_map.specs.Maps.{slot_at}
use Rattle.line_map.specs.Entries.{with_tag, entries_from}

-- ---- addresses as keys
at_same : (at key : ℕ) → at ≡ key → is_at (nat_cmp at) key ≡ true
at_same at key same = grind (arith, common_steps)

at_other : (at key : ℕ) → at ≢ key → is_at (nat_cmp at) key ≡ false
at_other at key other = grind (arith, common_steps)

before : (at key : ℕ) → at < key → nat_cmp at key ≡ order.Less
before at key lt = grind (arith, common_steps)

after : (at key : ℕ) → key < at → nat_cmp at key ≡ order.Greater
after at key lt = grind (arith, common_steps)

-- the slot of a tag at a place in its line
abbrev pub slot_in : Option Tag → ℕ → Option Slot
slot_in None offset = None
slot_in (Some tag) offset = cond (eqb tag.offset offset) (Some tag.slot) None

-- the tags of the lines below one have their addresses in their lines
abbrev pub InLineBelow : (ℕ → Option Tag) → ℕ → Type 0
InLineBelow tags end = (line : ℕ) (tag : Tag) → line < end → tags line ≡ Some tag → tag.offset < 64

module _ (tags : ℕ → Option Tag) where
  -- ---- what is found
  -- nothing before the first line
  pub found-before : (count line at : ℕ) → at < line * 64 → slot_at (entries_from tags line count) at ≡ None
  unfolding entries_from
  found-before zero line at lt = refl
  found-before (suc count) line at lt = go (tags line) (found-before count (line + 1) at (omega arith))
    where
      go : (tag : Option Tag) → slot_at (entries_from tags (line + 1) count) at ≡ None
          → slot_at (with_tag line tag (entries_from tags (line + 1) count)) at ≡ None
      go None later = later
      go (Some tag) later = let other : is_at (nat_cmp at) (line * 64 + tag.offset) ≡ false =
          at_other at (line * 64 + tag.offset) (omega arith) in rw other later

  -- nothing past the last one
  pub found-past : (count line at : ℕ) → InLineBelow tags (line + count) → line + count ≤ at / 64
      → slot_at (entries_from tags line count) at ≡ None
  unfolding entries_from
  found-past zero line at within past = refl
  found-past (suc count) line at within past =
      go (tags line) refl (found-past count (line + 1) at (λ l m lt is. within l m (omega arith) is) (omega arith))
    where
      go : (tag : Option Tag) → tags line ≡ tag → slot_at (entries_from tags (line + 1) count) at ≡ None
          → slot_at (with_tag line tag (entries_from tags (line + 1) count)) at ≡ None
      go None is later = later
      go (Some tag) is later =
          let low : tag.offset < 64 = within line tag (omega arith) is in
          let other : is_at (nat_cmp at) (line * 64 + tag.offset) ≡ false =
          at_other at (line * 64 + tag.offset) (omega arith) in
          rw other later

  -- in a line, what its tag says
  pub found-in : (count line at : ℕ) → InLineBelow tags (line + count) → line ≤ at / 64 → at / 64 < line + count →
      slot_at (entries_from tags line count) at ≡ slot_in (tags (at / 64)) (at % 64)
  unfolding entries_from
  found-in zero line at within low high = absurd (omega arith)
  found-in (suc count) line at within low high =
      elim (cases_eq line (at / 64)) [
        | inl same ↦ rw (← same) (here (tags line) (found-before count (line + 1) at (omega arith)) same)
        | inr other ↦ there (tags line) refl other
            (found-in count (line + 1) at (λ l m lt is. within l m (omega arith) is) (omega arith) (omega arith))
      ]
    where
      here : (tag : Option Tag) → slot_at (entries_from tags (line + 1) count) at ≡ None → line ≡ at / 64 →
          slot_at (with_tag line tag (entries_from tags (line + 1) count)) at ≡ slot_in tag (at % 64)
      here None later same = later
      here (Some tag) later same =
          elim (cases_eq tag.offset (at % 64)) [
            | inl place ↦
                let yes : is_at (nat_cmp at) (line * 64 + tag.offset) ≡ true =
                at_same at (line * 64 + tag.offset) (omega arith) in
                let also : eqb tag.offset (at % 64) ≡ true = grind (arith, nat_tests) in
                rw (yes, also) refl
            | inr place ↦
                let no : is_at (nat_cmp at) (line * 64 + tag.offset) ≡ false =
                at_other at (line * 64 + tag.offset) (omega arith) in
                let also : eqb tag.offset (at % 64) ≡ false = grind (arith, nat_tests) in
                rw (no, also) later
          ]

      there : (tag : Option Tag) → tags line ≡ tag → line ≢ at / 64
          → slot_at (entries_from tags (line + 1) count) at ≡ slot_in (tags (at / 64)) (at % 64) →
          slot_at (with_tag line tag (entries_from tags (line + 1) count)) at ≡ slot_in (tags (at / 64)) (at % 64)
      there None is other later = later
      there (Some tag) is other later =
          let less : tag.offset < 64 = within line tag (omega arith) is in
          let no : is_at (nat_cmp at) (line * 64 + tag.offset) ≡ false =
          at_other at (line * 64 + tag.offset) (omega arith) in
          rw no later

  -- an entry before the first line goes to the front
  insert-front : (count line at : ℕ) (slot : Slot) → at < line * 64
      → insert_entry nat_cmp (entries_from tags line count) at slot ≡ (at, slot) ∷ entries_from tags line count
  unfolding entries_from
  insert-front zero line at slot lt = refl
  insert-front (suc count) line at slot lt = go (tags line) (insert-front count (line + 1) at slot (omega arith))
    where
      go : (tag : Option Tag) → insert_entry nat_cmp (entries_from tags (line + 1) count) at slot
          ≡ (at, slot) ∷ entries_from tags (line + 1) count →
          insert_entry nat_cmp (with_tag line tag (entries_from tags (line + 1) count)) at slot
          ≡ (at, slot) ∷ with_tag line tag (entries_from tags (line + 1) count)
      go None later = later
      go (Some tag) later = let less : nat_cmp at (line * 64 + tag.offset) ≡ order.Less =
          before at (line * 64 + tag.offset) (omega arith) in rw less refl

-- ---- tags that are the same
pub entries-same : (tags new : ℕ → Option Tag) (count line : ℕ)
    → ((l : ℕ) → line ≤ l → l < line + count → new l ≡ tags l)
    → entries_from new line count ≡ entries_from tags line count
unfolding entries_from
entries-same tags new zero line same = refl
entries-same tags new (suc count) line same =
    rw (same line (omega arith) (omega arith))
    (ap (λ es. with_tag line (tags line) es)
    (entries-same tags new count (line + 1) (λ l low high. same l (omega arith) (omega arith))))

-- ---- one tag that is another now
module _ (tags new : ℕ → Option Tag) (at : ℕ) (tag : Option Tag) where
  abbrev pub IsPutBelow : ℕ → Type 0
  IsPutBelow end = (line : ℕ) → line < end → new line ≡ cond (eqb line (at / 64)) tag (tags line)

  put-here : (end line : ℕ) → IsPutBelow end → line < end → line ≡ at / 64 → new line ≡ tag
  put-here end line put lt same = let yes : eqb line (at / 64) ≡ true = grind (arith, nat_tests) in put line lt
      ∙ rw yes refl

  put-there : (end line : ℕ) → IsPutBelow end → line < end → line ≢ at / 64 → new line ≡ tags line
  put-there end line put lt other = let no : eqb line (at / 64) ≡ false = grind (arith, nat_tests) in put line lt
      ∙ rw no refl

  -- the lines after it are what they were
  put-later : (count line : ℕ) → IsPutBelow (line + 1 + count) → line ≡ at / 64
      → entries_from new (line + 1) count ≡ entries_from tags (line + 1) count
  put-later count line put same = entries-same tags new count (line + 1)
      (λ l low high. put-there (line + 1 + count) l put high (omega arith))

module _ (tags new : ℕ → Option Tag) (at : ℕ) (slot : Slot) where
  abbrev tag : Tag
  tag = record { offset = at % 64; slot = slot }

  -- it comes in
  pub entries-insert : (count line : ℕ) → InLineBelow tags (line + count)
      → IsPutBelow tags new at (Some tag) (line + count) → tags (at / 64) ≡ None →
      line ≤ at / 64 → at / 64 < line + count → entries_from new line count
      ≡ insert_entry nat_cmp (entries_from tags line count) at slot
  unfolding entries_from
  entries-insert zero line within put none low high = absurd (omega arith)
  entries-insert (suc count) line within put none low high =
      elim (cases_eq line (at / 64)) [
        | inl same ↦
            let key : line * 64 + at % 64 ≡ at = omega arith in
            let gone : tags line ≡ None = ap tags same ∙ none in
            rw (put-here tags new at (Some tag) (line + suc count) line put (omega arith) same, gone, key)
            (ap (λ es. (at, slot) ∷ es) (put-later tags new at (Some tag) count line (λ l lt. put l (omega arith))
            same) ∙ sym (insert-front tags count (line + 1) at slot (omega arith)))
        | inr other ↦
            rw (put-there tags new at (Some tag) (line + suc count) line put (omega arith) other)
            (go (tags line) refl other (entries-insert count (line + 1) (λ l m lt is. within l m (omega arith) is)
            (λ l lt. put l (omega arith)) none (omega arith) (omega arith)))
      ]
    where
      go : (had : Option Tag) → tags line ≡ had → line ≢ at / 64
          → entries_from new (line + 1) count ≡ insert_entry nat_cmp (entries_from tags (line + 1) count) at slot →
          with_tag line had (entries_from new (line + 1) count)
          ≡ insert_entry nat_cmp (with_tag line had (entries_from tags (line + 1) count)) at slot
      go None is other later = later
      go (Some had) is other later =
          let less : had.offset < 64 = within line had (omega arith) is in
          let more : nat_cmp at (line * 64 + had.offset) ≡ order.Greater =
          after at (line * 64 + had.offset) (omega arith) in
          rw more (ap (λ es. (line * 64 + had.offset, had.slot) ∷ es) later)

  -- its slot changes
  pub entries-set : (old : Tag) → tags (at / 64) ≡ Some old → old.offset ≡ at % 64 → (count line : ℕ)
      → InLineBelow tags (line + count) → IsPutBelow tags new at (Some tag) (line + count) →
      line ≤ at / 64 → at / 64 < line + count → entries_from new line count
      ≡ set_value (is_at (nat_cmp at)) (entries_from tags line count) slot
  unfolding entries_from
  entries-set old some place zero line within put low high = absurd (omega arith)
  entries-set old some place (suc count) line within put low high =
      elim (cases_eq line (at / 64)) [
        | inl same ↦
            let yes : is_at (nat_cmp at) (line * 64 + old.offset) ≡ true =
            at_same at (line * 64 + old.offset) (omega arith) in
            let had : tags line ≡ Some old = ap tags same ∙ some in
            rw (put-here tags new at (Some tag) (line + suc count) line put (omega arith) same, had, yes, place)
            (ap (λ es. (line * 64 + at % 64, slot) ∷ es)
            (put-later tags new at (Some tag) count line (λ l lt. put l (omega arith)) same))
        | inr other ↦
            rw (put-there tags new at (Some tag) (line + suc count) line put (omega arith) other)
            (go (tags line) refl other (entries-set old some place count (line + 1)
            (λ l m lt is. within l m (omega arith) is) (λ l lt. put l (omega arith)) (omega arith) (omega arith)))
      ]
    where
      go : (had : Option Tag) → tags line ≡ had → line ≢ at / 64
          → entries_from new (line + 1) count ≡ set_value (is_at (nat_cmp at)) (entries_from tags (line + 1) count)
          slot →
          with_tag line had (entries_from new (line + 1) count)
          ≡ set_value (is_at (nat_cmp at)) (with_tag line had (entries_from tags (line + 1) count)) slot
      go None is other later = later
      go (Some had) is other later =
          let less : had.offset < 64 = within line had (omega arith) is in
          let no : is_at (nat_cmp at) (line * 64 + had.offset) ≡ false =
          at_other at (line * 64 + had.offset) (omega arith) in
          rw no (ap (λ es. (line * 64 + had.offset, had.slot) ∷ es) later)

-- it goes
module _ (tags new : ℕ → Option Tag) (at : ℕ) where
  pub entries-remove : (old : Tag) → tags (at / 64) ≡ Some old → old.offset ≡ at % 64 → (count line : ℕ)
      → InLineBelow tags (line + count) → IsPutBelow tags new at None (line + count) →
      line ≤ at / 64 → at / 64 < line + count → entries_from new line count
      ≡ remove_entry (is_at (nat_cmp at)) (entries_from tags line count)
  unfolding entries_from
  entries-remove old some place zero line within put low high = absurd (omega arith)
  entries-remove old some place (suc count) line within put low high =
      elim (cases_eq line (at / 64)) [
        | inl same ↦
            let yes : is_at (nat_cmp at) (line * 64 + old.offset) ≡ true =
            at_same at (line * 64 + old.offset) (omega arith) in
            let had : tags line ≡ Some old = ap tags same ∙ some in
            rw (put-here tags new at None (line + suc count) line put (omega arith) same, had, yes)
            (put-later tags new at None count line (λ l lt. put l (omega arith)) same)
        | inr other ↦
            rw (put-there tags new at None (line + suc count) line put (omega arith) other)
            (go (tags line) refl other (entries-remove old some place count (line + 1)
            (λ l m lt is. within l m (omega arith) is) (λ l lt. put l (omega arith)) (omega arith) (omega arith)))
      ]
    where
      go : (had : Option Tag) → tags line ≡ had → line ≢ at / 64
          → entries_from new (line + 1) count ≡ remove_entry (is_at (nat_cmp at)) (entries_from tags (line + 1) count)
          →
          with_tag line had (entries_from new (line + 1) count)
          ≡ remove_entry (is_at (nat_cmp at)) (with_tag line had (entries_from tags (line + 1) count))
      go None is other later = later
      go (Some had) is other later =
          let less : had.offset < 64 = within line had (omega arith) is in
          let no : is_at (nat_cmp at) (line * 64 + had.offset) ≡ false =
          at_other at (line * 64 + had.offset) (omega arith) in
          rw no (ap (λ es. (line * 64 + had.offset, had.slot) ∷ es) later)

-- ---- no tags
pub entries-none : (tags : ℕ → Option Tag) → ((line : ℕ) → tags line ≡ None) → (count line : ℕ)
    → entries_from tags line count ≡ []
unfolding entries_from
entries-none tags none zero line = refl
entries-none tags none (suc count) line = rw (none line) (entries-none tags none count (line + 1))
