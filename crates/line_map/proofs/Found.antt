-- What the entries of all lines have, by the tags of the lines.
use Rattle.std.proofs.Common.{◌≡◌, ◌≢◌, ℕ, suc, ◌+◌, ◌*◌, ◌/◌, ◌%◌, ◌^◌, ◌<◌, ◌≤◌, true, false, eqb, [], Option, Some}
use Rattle.std.proofs.Common.{None, Result, Ok, Err, OnOk, OnErr, refl, sym, ap, ◌∙◌, arith, inl, inr}
use Rattle.std.specs.Prelude.{IsSome, min}
use Rattle.std.specs.Map.{remove_entry, set_value}
use Rattle.std.specs.BTreeMap.{is_at, insert_entry}
use Rattle.std.specs.Ordering.{nat_cmp}
use Rattle.std.proofs.lemmas.Bool.{cases_eq, cases_lt}
use Rattle.std.proofs.lemmas.Bool.Decides.{nat_tests}
use Rattle.line_map.specs.declared.tag.Slot.{Slot}
use Rattle.line_map.specs.declared.tag.Tag.{Tag}
use Rattle.std.proofs.Math.Nat.{le-min, min-le_left}
use Rattle.line_map.specs.Nodes.{IsPut, IsLastBelow, IsLastBeforePlace, StandsFrom}
use Rattle.line_map.specs.Maps.{slot_at, IsLastBefore}
use Rattle.line_map.specs.Entries.{entries_of, AreInLine}
use Rattle.line_map.proofs.Entries.{slot_in, found-past, found-in, entries-same, entries-insert, entries-set}
use Rattle.line_map.proofs.Entries.{entries-remove, entries-none}

-- what holds whether a call succeeded or not
pub either : {T E A : Type 0} (result : Result T E) → OnOk result A → OnErr result A → A
either (Ok value) ok err = ok
either (Err error) ok err = err

pub of-none : (tags : ℕ → Option Tag) → ((line : ℕ) → tags line ≡ None) → entries_of tags ≡ []
unfolding entries_of
of-none tags none = entries-none tags none (2 ^ 41) 0

pub of-same : (tags new : ℕ → Option Tag) → ((line : ℕ) → new line ≡ tags line) → entries_of new ≡ entries_of tags
unfolding entries_of
of-same tags new same = entries-same tags new (2 ^ 41) 0 (λ line low high. same line)

module _ (tags : ℕ → Option Tag) (within : AreInLine tags) where
  pub slot-in : (at : ℕ) → at / 64 < 2 ^ 41 → slot_at (entries_of tags) at ≡ slot_in (tags (at / 64)) (at % 64)
  unfolding entries_of
  slot-in at lt = found-in tags (2 ^ 41) 0 at (λ line tag lt is. within line tag (omega arith) is) (omega arith)
      (omega arith)

  pub slot-past : (at : ℕ) → 2 ^ 41 ≤ at / 64 → slot_at (entries_of tags) at ≡ None
  unfolding entries_of
  slot-past at past = found-past tags (2 ^ 41) 0 at (λ line tag lt is. within line tag (omega arith) is)
      (omega arith)

  pub no-tag : (at : ℕ) → at / 64 < 2 ^ 41 → tags (at / 64) ≡ None → slot_at (entries_of tags) at ≡ None
  no-tag at lt none = slot-in at lt ∙ ap (λ tag. slot_in tag (at % 64)) none

  pub other-place : (at : ℕ) (tag : Tag) → at / 64 < 2 ^ 41 → tags (at / 64) ≡ Some tag → tag.offset ≢ at % 64
      → slot_at (entries_of tags) at ≡ None
  other-place at tag lt some other =
      let no : eqb tag.offset (at % 64) ≡ false = grind (arith, nat_tests) in
      slot-in at lt ∙ ap (λ tag. slot_in tag (at % 64)) some ∙ rw no refl

  pub this-place : (at : ℕ) (tag : Tag) → at / 64 < 2 ^ 41 → tags (at / 64) ≡ Some tag → tag.offset ≡ at % 64
      → slot_at (entries_of tags) at ≡ Some tag.slot
  this-place at tag lt some same =
      let yes : eqb tag.offset (at % 64) ≡ true = grind (arith, nat_tests) in
      slot-in at lt ∙ ap (λ tag. slot_in tag (at % 64)) some ∙ rw yes refl

  -- if there is a slot, its line has the tag
  pub tagged : (at : ℕ) → IsSome (slot_at (entries_of tags) at)
      → (at / 64 < 2 ^ 41) × ((tag : Tag) × (tags (at / 64) ≡ Some tag) × (tag.offset ≡ at % 64))
  tagged at there =
      elim (cases_lt (at / 64) (2 ^ 41)) [
        | inl lt ↦ (lt, go lt (tags (at / 64)) refl)
        | inr past ↦ absurd (let none = slot-past at past in cc)
      ]
    where
      go : at / 64 < 2 ^ 41 → (had : Option Tag) → tags (at / 64) ≡ had
          → (tag : Tag) × (tags (at / 64) ≡ Some tag) × (tag.offset ≡ at % 64)
      go lt None is = absurd (let none = no-tag at lt is in cc)
      go lt (Some tag) is =
          elim (cases_eq tag.offset (at % 64)) [
            | inl same ↦ (tag, is, same)
            | inr other ↦ absurd (let none = other-place at tag lt is other in cc)
          ]

  -- where a line has no slot, it has no tag
  pub unmarked : (at : ℕ) → at / 64 < 2 ^ 41
      → ((other : ℕ) → other / 64 ≡ at / 64 → slot_at (entries_of tags) other ≡ None) → tags (at / 64) ≡ None
  unmarked at lt alone = go (tags (at / 64)) refl
    where
      go : (had : Option Tag) → tags (at / 64) ≡ had → tags (at / 64) ≡ None
      go None is = is
      go (Some tag) is =
          let low : tag.offset < 64 = within (at / 64) tag lt is in
          let other : ℕ = at / 64 * 64 + tag.offset in
          let line : other / 64 ≡ at / 64 = omega arith in
          let place : tag.offset ≡ other % 64 = omega arith in
          let none : slot_at (entries_of tags) other ≡ None = alone other line in
          let some : slot_at (entries_of tags) other ≡ Some tag.slot =
          this-place other tag (omega arith) (ap tags line ∙ is) place in
          absurd cc

  -- ---- the last one before an address, if there is none from a line on
  module _ (low end : ℕ) (most : low ≤ 2 ^ 41) (rest : (at : ℕ) → at < end → low ≤ at / 64 → at / 64 < 2 ^ 41
      → slot_at (entries_of tags) at ≡ None) where
    none-from : (at : ℕ) → at < end → (at / 64 < low → slot_at (entries_of tags) at ≡ None)
        → slot_at (entries_of tags) at ≡ None
    none-from at lt below =
        elim (cases_lt (at / 64) low) [
          | inl less ↦ below less
          | inr ge ↦ elim (cases_lt (at / 64) (2 ^ 41)) [
            | inl less ↦ rest at lt ge less
            | inr past ↦ slot-past at past
          ]
        ]

    pub last-none : IsLastBelow tags low None → IsLastBefore (entries_of tags) end None
    last-none none = λ at lt. none-from at lt (λ less. no-tag at (omega arith) (none (at / 64) less))

    pub last-some : (line : ℕ) (tag : Tag) → IsLastBelow tags low (Some (line, tag)) → line * 64 + tag.offset < end
        →
        IsLastBefore (entries_of tags) end (Some (line * 64 + tag.offset, tag.slot))
    last-some line tag last lt =
        let below : line < low = last.0 in
        let place : tag.offset < 64 = within line tag (omega arith) last.1 in
        let key : ℕ = line * 64 + tag.offset in
        let here : key / 64 ≡ line = omega arith in
        let offset : tag.offset ≡ key % 64 = omega arith in (
          lt,
          this-place key tag (omega arith) (ap tags here ∙ last.1) offset,
          λ at less there.
              elim (cases_lt key at) [
                | inl past ↦
                    let none : slot_at (entries_of tags) at ≡ None = none-from at less (λ under.
                    elim (cases_eq (at / 64) line) [
                      | inl same ↦ let elsewhere : tag.offset ≢ at % 64 = omega arith in
                          other-place at tag (omega arith) (ap tags same ∙ last.1) elsewhere
                      | inr other ↦ no-tag at (omega arith) (last.2 (at / 64) (omega arith) under)
                    ]) in
                    absurd cc
                | inr le ↦ le
              ],
        )

  -- ---- the last one before an offset of a line
  module _ (line offset end : ℕ) (high : line < 2 ^ 41) (most : offset ≤ 64)
      (place : line * 64 + offset ≡ min end (2 ^ 47)) where
    -- the line has none before the end, from the offset on
    rest-from : StandsFrom offset (tags line) → (at : ℕ) → at < end → line ≤ at / 64 → at / 64 < 2 ^ 41
        → slot_at (entries_of tags) at ≡ None
    rest-from from at lt low less =
        let under : suc at ≤ min end (2 ^ 47) = le-min lt (omega arith) in
        let here : at / 64 ≡ line = omega arith in
        go here (let below : at % 64 < offset = omega arith in below) (tags line) refl
      where
        go : at / 64 ≡ line → at % 64 < offset → (had : Option Tag) → tags line ≡ had
            → slot_at (entries_of tags) at ≡ None
        go here below None is = no-tag at less (ap tags here ∙ is)
        go here below (Some tag) is =
            let past : offset ≤ tag.offset = from tag is in
            let elsewhere : tag.offset ≢ at % 64 = omega arith in
            other-place at tag less (ap tags here ∙ is) elsewhere

    pub place-none : IsLastBeforePlace tags line offset None → IsLastBefore (entries_of tags) end None
    place-none (inl (own, same, is, before)) = absurd cc
    place-none (inr below) = last-none line end (omega arith) (rest-from below.0) below.1

    pub place-some : (found : ℕ) (tag : Tag) → IsLastBeforePlace tags line offset (Some (found, tag))
        → IsLastBefore (entries_of tags) end (Some (found * 64 + tag.offset, tag.slot))
    place-some found tag (inl (own, same, is, before)) =
        let upto : min end (2 ^ 47) ≤ end = min-le_left end (2 ^ 47) in
        let pair : (found, tag) ≡ (line, own) = cc in
        let line_is : found ≡ line = ap (λ (last : ℕ × Tag). last.0) pair in
        let tag_is : tag ≡ own = ap (λ (last : ℕ × Tag). last.1) pair in
        rw (line_is, tag_is) (last-some (line + 1) end (omega arith)
        (λ at lt low less. absurd (let under : suc at ≤ min end (2 ^ 47) = le-min lt (omega arith) in omega arith))
        line own (omega arith, is, λ other past under. absurd (omega arith)) (omega arith))
    place-some found tag (inr below) =
        let upto : min end (2 ^ 47) ≤ end = min-le_left end (2 ^ 47) in
        let under : found < line = below.1.0 in
        let inside : tag.offset < 64 = within found tag (omega arith) below.1.1 in
        last-some line end (omega arith) (rest-from below.0) found tag below.1 (omega arith)

-- ---- one tag that is another now
module _ (tags new : ℕ → Option Tag) (at : ℕ) where
  -- it lies in its line
  pub in-line-put : (tag : Tag) → tag.offset < 64 → AreInLine tags → IsPut (2 ^ 41) tags new (at / 64) (Some tag)
      → AreInLine new
  in-line-put tag low within put line other lt is =
      elim (cases_eq line (at / 64)) [
        | inl same ↦
            let yes : eqb line (at / 64) ≡ true = grind (arith, nat_tests) in
            let now : new line ≡ Some tag = put line lt ∙ rw yes refl in
            let both : other ≡ tag = cc in
            rw both low
        | inr apart ↦
            let no : eqb line (at / 64) ≡ false = grind (arith, nat_tests) in
            let now : new line ≡ tags line = put line lt ∙ rw no refl in
            within line other lt (sym now ∙ is)
      ]

  pub in-line-gone : AreInLine tags → IsPut (2 ^ 41) tags new (at / 64) None → AreInLine new
  in-line-gone within put line other lt is =
      elim (cases_eq line (at / 64)) [
        | inl same ↦
            let yes : eqb line (at / 64) ≡ true = grind (arith, nat_tests) in
            let now : new line ≡ None = put line lt ∙ rw yes refl in
            absurd cc
        | inr apart ↦
            let no : eqb line (at / 64) ≡ false = grind (arith, nat_tests) in
            let now : new line ≡ tags line = put line lt ∙ rw no refl in
            within line other lt (sym now ∙ is)
      ]

  pub of-insert : (slot : Slot) → AreInLine tags
      → IsPut (2 ^ 41) tags new (at / 64) (Some (record { offset = at % 64; slot = slot })) → tags (at / 64) ≡ None
      → at / 64 < 2 ^ 41 →
      entries_of new ≡ insert_entry nat_cmp (entries_of tags) at slot
  unfolding entries_of
  of-insert slot within put none lt =
      entries-insert tags new at slot (2 ^ 41) 0 (λ line tag lt is. within line tag (omega arith) is)
      (λ line lt. put line (omega arith)) none (omega arith) (omega arith)

  pub of-set : (slot : Slot) (old : Tag) → AreInLine tags
      → IsPut (2 ^ 41) tags new (at / 64) (Some (record { offset = at % 64; slot = slot }))
      → tags (at / 64) ≡ Some old → old.offset ≡ at % 64 → at / 64 < 2 ^ 41 →
      entries_of new ≡ set_value (is_at (nat_cmp at)) (entries_of tags) slot
  unfolding entries_of
  of-set slot old within put some place lt =
      entries-set tags new at slot old some place (2 ^ 41) 0 (λ line tag lt is. within line tag (omega arith) is)
      (λ line lt. put line (omega arith)) (omega arith) (omega arith)

  pub of-remove : (old : Tag) → AreInLine tags → IsPut (2 ^ 41) tags new (at / 64) None → tags (at / 64) ≡ Some old
      → old.offset ≡ at % 64 → at / 64 < 2 ^ 41 →
      entries_of new ≡ remove_entry (is_at (nat_cmp at)) (entries_of tags)
  unfolding entries_of
  of-remove old within put some place lt =
      entries-remove tags new at old some place (2 ^ 41) 0 (λ line tag lt is. within line tag (omega arith) is)
      (λ line lt. put line (omega arith)) (omega arith) (omega arith)
