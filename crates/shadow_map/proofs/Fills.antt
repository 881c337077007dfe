-- Granules after fills. A call goes from left to right: below some place it is done, and from there on nothing has
-- changed.
use Rattle.std.proofs.Common.{◌≡◌, ◌≢◌, ℕ, ◌+◌, ◌-◌, ◌*◌, ◌/◌, ◌%◌, ◌<◌, ◌≤◌, Bool, true, false, cond, eqb, leb, ltb}
use Rattle.std.proofs.Common.{refl, ◌∙◌, arith, inl, inr}
use Rattle.std.specs.Prelude.{min, max, not, ◌&&◌, ◌⊎◌}
use Rattle.std.proofs.lemmas.Bool.{cases_eq, cases_lt}
use Rattle.std.proofs.lemmas.Bool.Decides.{nat_tests}
use Rattle.shadow_map.specs.declared.granule.Change.{Change}
use Rattle.shadow_map.specs.declared.granule.Change.TheVariants.{Poisoned, Unpoisoned}
use Rattle.shadow_map.specs.Granules.{poisoned_byte, unpoisoned_byte, changed_byte, inside_byte, block_byte}

-- the granules from one up to another have this byte now, and the others what they had
abbrev pub IsFilled : (ℕ → ℕ) → (ℕ → ℕ) → ℕ → ℕ → ℕ → Type 0
IsFilled before now from to byte = (g : ℕ) → now g ≡ cond (leb from g && ltb g to) byte (before g)

-- below a place the new bytes, and from it on the old ones
abbrev pub UpTo : (ℕ → ℕ) → (ℕ → ℕ) → (ℕ → ℕ) → ℕ → Type 0
UpTo old new now place = (g : ℕ) → now g ≡ cond (ltb g place) (new g) (old g)

pub upto_start : (old new : ℕ → ℕ) (a : ℕ) → ((g : ℕ) → g < a → new g ≡ old g) → UpTo old new old a
upto_start old new a same g =
    elim (cases_lt g a) [
      | inl lt ↦ let below : ltb g a ≡ true = grind (arith, nat_tests) in rw (below, same g lt) refl
      | inr ge ↦ let past : ltb g a ≡ false = grind (arith, nat_tests) in rw past refl
    ]

pub upto_end : (old new now : ℕ → ℕ) (a : ℕ) → UpTo old new now a → ((g : ℕ) → a ≤ g → new g ≡ old g) → (g : ℕ)
    → now g ≡ new g
upto_end old new now a upto same g =
    elim (cases_lt g a) [
      | inl lt ↦ let below : ltb g a ≡ true = grind (arith, nat_tests) in upto g ∙ rw below refl
      | inr ge ↦ let past : ltb g a ≡ false = grind (arith, nat_tests) in upto g ∙ rw (past, same g ge) refl
    ]

-- a fill of the granules from the place on
pub upto_fill : (old new now next : ℕ → ℕ) (a b byte : ℕ) → a ≤ b → UpTo old new now a
    → ((g : ℕ) → a ≤ g → g < b → new g ≡ byte) →
    IsFilled now next a b byte → UpTo old new next b
upto_fill old new now next a b byte le upto inside each g =
    elim (cases_lt g a) [
      | inl lt ↦ let out : (leb a g && ltb g b) ≡ false = grind (arith, nat_tests) in
          let before : ltb g a ≡ true = grind (arith, nat_tests) in
          let also : ltb g b ≡ true = grind (arith, nat_tests) in
          each g ∙ rw (out, upto g, before, also) refl
      | inr ge ↦ elim (cases_lt g b) [
        | inl lt ↦ let in_it : (leb a g && ltb g b) ≡ true = grind (arith, nat_tests) in
            let also : ltb g b ≡ true = grind (arith, nat_tests) in
            each g ∙ rw (in_it, also, inside g ge lt) refl
        | inr past ↦ let out : (leb a g && ltb g b) ≡ false = grind (arith, nat_tests) in
            let also : ltb g a ≡ false = grind (arith, nat_tests) in
            let third : ltb g b ≡ false = grind (arith, nat_tests) in
            each g ∙ rw (out, upto g, also, third) refl
      ]
    ]

-- a change of the one granule at the place
pub upto_one : (change : ℕ → ℕ → ℕ) (old now next : ℕ → ℕ) (a : ℕ) → UpTo old (λ g. change (old g) g) now a →
    ((g : ℕ) → next g ≡ cond (eqb g a) (change (now g) g) (now g)) → UpTo old (λ g. change (old g) g) next (a + 1)
upto_one change old now next a upto each g =
    elim (cases_eq g a) [
      | inl same ↦ let here : eqb g a ≡ true = grind (arith, nat_tests) in
          let past : ltb g a ≡ false = grind (arith, nat_tests) in
          let also : ltb g (a + 1) ≡ true = grind (arith, nat_tests) in
          each g ∙ rw (here, upto g, past, also) refl
      | inr other ↦ let here : eqb g a ≡ false = grind (arith, nat_tests) in
          let both : ltb g (a + 1) ≡ ltb g a = grind (arith, nat_tests) in
          each g ∙ rw (here, both) (upto g)
    ]

-- a fill that was broken off at a place, as a fill that is done below it
pub torn_fill : (a b place byte old g : ℕ) → place < b
    → cond (leb a g && ltb g place) byte old ≡ cond (ltb g place) (cond (leb a g && ltb g b) byte old) old
torn_fill a b place byte old g lt = grind (arith, nat_tests)

-- what holds of the old and of the new bytes holds of a call that was broken off at a place
pub either : (below : Bool) (now new old left right : ℕ) → now ≡ cond below new old → new ≡ left → old ≡ right
    → now ≡ cond below left right
either true now new old left right is p q = is ∙ p
either false now new old left right is p q = is ∙ q

-- poison and unpoison of the granules before, within and past a region
poison_before : (code byte a e g : ℕ) → g < a / 8
    → poisoned_byte code byte (min 8 (a - 8 * g)) (min 8 (e - 8 * g)) ≡ byte
poison_before code byte a e g lt = grind (arith, nat_tests)

poison_past : (code byte a e g : ℕ) → a ≤ e → (e + 7) / 8 ≤ g
    → poisoned_byte code byte (min 8 (a - 8 * g)) (min 8 (e - 8 * g)) ≡ byte
poison_past code byte a e g order le =
    let from : min 8 (a - 8 * g) ≡ 0 = omega arith in
    let to : min 8 (e - 8 * g) ≡ 0 = omega arith in
    rw (from, to) (grind (arith, nat_tests))

unpoison_nothing : (byte from to : ℕ) → to ≤ from → unpoisoned_byte byte from to ≡ byte
unpoison_nothing byte from to le = let empty : ltb from to ≡ false = grind (arith, nat_tests) in rw empty refl

-- nothing changes where no byte of the granule lies in the region
pub changed_nothing : (change : Change) (byte from to : ℕ) → to ≤ from → changed_byte change byte from to ≡ byte
changed_nothing (Poisoned code) byte from to le =
    let empty : ltb from to ≡ false = grind (arith, nat_tests) in
    let part : (eqb from 0 && eqb to 8) ≡ false = grind (arith, nat_tests) in
    rw (part, empty) (grind (arith, nat_tests))
changed_nothing Unpoisoned byte from to le = unpoison_nothing byte from to le

pub change_before : (change : Change) (byte a e g : ℕ) → g < a / 8
    → changed_byte change byte (min 8 (a - 8 * g)) (min 8 (e - 8 * g)) ≡ byte
change_before (Poisoned code) byte a e g lt = poison_before code byte a e g lt
change_before Unpoisoned byte a e g lt = unpoison_nothing byte _ _ (omega arith)

pub change_within : (change : Change) (byte a e g : ℕ) → (a + 7) / 8 ≤ g → g < e / 8 →
    changed_byte change byte (min 8 (a - 8 * g)) (min 8 (e - 8 * g)) ≡ inside_byte change
change_within (Poisoned code) byte a e g le lt =
    let from : min 8 (a - 8 * g) ≡ 0 = omega arith in
    let to : min 8 (e - 8 * g) ≡ 8 = omega arith in
    rw (from, to) refl
change_within Unpoisoned byte a e g le lt =
    let from : min 8 (a - 8 * g) ≡ 0 = omega arith in
    let to : min 8 (e - 8 * g) ≡ 8 = omega arith in
    rw (from, to) (grind (arith, nat_tests))

pub change_past : (change : Change) (byte a e g : ℕ) → a ≤ e → (e + 7) / 8 ≤ g →
    changed_byte change byte (min 8 (a - 8 * g)) (min 8 (e - 8 * g)) ≡ byte
change_past (Poisoned code) byte a e g order le = poison_past code byte a e g order le
change_past Unpoisoned byte a e g order le = unpoison_nothing byte _ _ (omega arith)

-- a change of a region from one address up to another: the granule that its first edge cuts, the whole ones, the one
-- that its last edge cuts
module _ (change : Change) (at end : ℕ) where
  abbrev pub changed_granule : ℕ → ℕ → ℕ
  changed_granule byte g = changed_byte change byte (min 8 (at - 8 * g)) (min 8 (end - 8 * g))

  -- the region is changed below a place
  abbrev pub IsChangeUpTo : (ℕ → ℕ) → (ℕ → ℕ) → ℕ → Type 0
  IsChangeUpTo old now place = UpTo old (λ g. changed_granule (old g) g) now place

  -- the granule that an edge cuts in two is changed, if it cuts one
  abbrev pub IsEdge : (ℕ → ℕ) → (ℕ → ℕ) → ℕ → Type 0
  IsEdge before now edge =
      (g : ℕ) → now g ≡ cond (eqb g (edge / 8) && not (eqb (edge % 8) 0)) (changed_granule (before g) g) (before g)

  -- whether the edge cuts a granule
  edge_cases : (before now : ℕ → ℕ) (edge : ℕ) → IsEdge before now edge →
      ((edge % 8 ≡ 0) × ((g : ℕ) → now g ≡ before g))
      ⊎ ((edge % 8 ≢ 0) × ((g : ℕ) → now g ≡ cond (eqb g (edge / 8)) (changed_granule (before g) g) (before g)))
  edge_cases before now edge each =
      elim (cases_eq (edge % 8) 0) [
        | inl even ↦ inl (
          even,
          λ g. let none : (eqb g (edge / 8) && not (eqb (edge % 8) 0)) ≡ false =
              grind (arith, nat_tests) in each g ∙ rw none refl,
        )
        | inr ragged ↦ inr (
          ragged,
          λ g. let both : (eqb g (edge / 8) && not (eqb (edge % 8) 0)) ≡ eqb g (edge / 8) =
              grind (arith, nat_tests) in each g ∙ rw both refl,
        )
      ]

  pub first_unchanged : (old : ℕ → ℕ) → IsChangeUpTo old old (at / 8)
  first_unchanged old = upto_start old (λ g. changed_granule (old g) g) (at / 8)
      (λ g lt. change_before change (old g) at end g lt)

  pub first_changed : (old next : ℕ → ℕ) → IsEdge old next at → IsChangeUpTo old next ((at + 7) / 8)
  first_changed old next each =
      elim (edge_cases old next at each) [
        | inl even ↦ let same : (at + 7) / 8 ≡ at / 8 = let is = even.0 in omega arith in λ g. even.1 g
            ∙ rw same (first_unchanged old g)
        | inr ragged ↦ let same : (at + 7) / 8 ≡ at / 8 + 1 = let is = ragged.0 in omega arith in
            rw same (upto_one changed_granule old old next (at / 8) (first_unchanged old) ragged.1)
      ]

  pub inside_changed : (old now next : ℕ → ℕ) (place : ℕ) → (at + 7) / 8 ≤ place → place ≤ max (end / 8) ((at + 7) / 8)
      → IsChangeUpTo old now ((at + 7) / 8) →
      IsFilled now next ((at + 7) / 8) place (inside_byte change) → IsChangeUpTo old next place
  inside_changed old now next place le most upto each =
      upto_fill old (λ g. changed_granule (old g) g) now next ((at + 7) / 8) place (inside_byte change) le upto
      (λ g low lt. change_within change (old g) at end g low (omega arith)) each

  -- no granule past this place lies in the region
  none_past : (old now : ℕ → ℕ) (place : ℕ) → at ≤ end → (end + 7) / 8 ≤ place → IsChangeUpTo old now place →
      (g : ℕ) → now g ≡ changed_granule (old g) g
  none_past old now place order last upto = upto_end old (λ g. changed_granule (old g) g) now place upto
      (λ g le. change_past change (old g) at end g order (omega arith))

  pub last_changed : (old now next : ℕ → ℕ) → at ≤ end → IsChangeUpTo old now (end / 8) → IsEdge now next end →
      (g : ℕ) → next g ≡ changed_granule (old g) g
  last_changed old now next order upto each =
      elim (edge_cases now next end each) [
        | inl even ↦ λ g. even.1 g ∙ none_past old now (end / 8) order (let is = even.0 in omega arith) upto g
        | inr ragged ↦ none_past old next (end / 8 + 1) order (omega arith)
            (upto_one changed_granule old now next (end / 8) upto ragged.1)
      ]

-- a block, whose span is four runs: its left redzone, its whole granules, the one that it fills in part, its right
-- redzone
module _ (at size : ℕ) where
  abbrev pub span_byte : ℕ → ℕ
  span_byte offset =
      cond (ltb offset 4) 0xfa (cond (ltb (offset - 4) (size / 8)) 0
      (cond (ltb (offset - 4 - size / 8) ((size + 7) / 8 - size / 8)) (size % 8)
      (cond (ltb (offset - 4 - size / 8 - ((size + 7) / 8 - size / 8)) 4) 0xfa 0)))

  pub block_before : (byte g : ℕ) → g < at / 8 - 4 → block_byte at size g byte ≡ byte
  block_before byte g lt = grind (arith, nat_tests)

  pub block_within : (byte g : ℕ) → 4 ≤ at / 8 → at / 8 - 4 ≤ g → g < at / 8 + (size + 7) / 8 + 4 →
      block_byte at size g byte ≡ span_byte (g - (at / 8 - 4))
  block_within byte g room low high = grind (arith, nat_tests)

  -- the runs are set below a place, and so is the block
  pub block_upto : (old now : ℕ → ℕ) (place : ℕ) → 4 ≤ at / 8 → at / 8 - 4 ≤ place → place ≤ at / 8 + (size + 7) / 8 + 4
      →
      ((g : ℕ) → now g ≡ cond (leb (at / 8 - 4) g && ltb g place) (span_byte (g - (at / 8 - 4))) (old g)) →
      UpTo old (λ g. block_byte at size g (old g)) now place
  block_upto old now place room low high each g =
      elim (cases_lt g (at / 8 - 4)) [
        | inl before ↦
            let out : (leb (at / 8 - 4) g && ltb g place) ≡ false = grind (arith, nat_tests) in
            let below : ltb g place ≡ true = grind (arith, nat_tests) in
            each g ∙ rw (out, below, block_before (old g) g before) refl
        | inr from_here ↦ elim (cases_lt g place) [
          | inl inside ↦
              let in_it : (leb (at / 8 - 4) g && ltb g place) ≡ true = grind (arith, nat_tests) in
              let below : ltb g place ≡ true = grind (arith, nat_tests) in
              each g ∙ rw (in_it, below, block_within (old g) g room from_here (omega arith)) refl
          | inr past ↦
              let out : (leb (at / 8 - 4) g && ltb g place) ≡ false = grind (arith, nat_tests) in
              let below : ltb g place ≡ false = grind (arith, nat_tests) in
              each g ∙ rw (out, below) refl
        ]
      ]
