-- What a call that was broken off has left: some marks.
use Rattle.std.proofs.Common.{◌≡◌, ℕ, ◌+◌, ◌-◌, ◌*◌, ◌/◌, ◌%◌, ◌^◌, ◌<◌, ◌≤◌, true, false, cond, leb, ltb, List, ◌∷◌}
use Rattle.std.proofs.Common.{refl, sym, ◌∙◌, arith, inl, inr}
use Rattle.std.specs.Prelude.{min, ◌&&◌}
use Rattle.std.proofs.lemmas.Bool.{cases_lt}
use Rattle.std.proofs.lemmas.Bool.Decides.{nat_tests}
use Rattle.shadow_map.specs.declared.granule.Change.{Change}
use Rattle.shadow_map.specs.declared.granule.Change.TheVariants.{Poisoned, Unpoisoned}
use Rattle.shadow_map.specs.States.{Mark, Fill, Block, Poison, Unpoison, IsMark, AreMarks, state_of, lift}
use Rattle.shadow_map.specs.Granules.{unpoisoned_byte, block_byte, changed_in}
use Rattle.shadow_map.specs.Calls.{range_from, range_to}
use Rattle.shadow_map.proofs.Bytes.{fill_makes, poison_makes, unpoison_makes}
use Rattle.shadow_map.proofs.Fills.{torn_fill, block_before, changed_nothing}

-- whatever marks came before: what a mark makes of the granules below that of a byte of its range, some marks make of
-- all
abbrev pub LeavesMarks : Mark → (ℕ → ℕ → ℕ) → Type 0
LeavesMarks mark byte_after =
    (marks : List Mark) → AreMarks marks → (byte : ℕ) → (range_from mark ≤ byte) × (byte < range_to mark) →
    (now : List Mark) × AreMarks now × ((granule shadow : ℕ) → shadow ≡ lift (state_of marks) granule →
    cond (ltb granule (byte / 8)) (byte_after shadow granule) shadow ≡ lift (state_of now) granule)

-- a fill leaves a shorter one
cut_is_mark : (from to byte code : ℕ) → IsMark (Fill from to code) → from ≤ byte → byte < to →
    IsMark (Fill from (8 * (byte / 8)) code)
cut_is_mark from to byte code mark low high = let a = mark.1 in let e = mark.4 in
    (mark.0, a, omega arith, omega arith, omega arith)

pub fill_leaves : (from to code : ℕ) → IsMark (Fill from to code) →
    LeavesMarks (Fill from to code) (λ shadow granule. cond (leb (from / 8) granule && ltb granule (to / 8)) code
    shadow)
fill_leaves from to code mark marks ok byte range =
    let low = range.0 in
    let high = range.1 in
    let aligned = mark.2 in
    let cut = cut_is_mark from to byte code mark low high in
    let whole : 8 * (byte / 8) / 8 ≡ byte / 8 = omega arith in (
      Fill from (8 * (byte / 8)) code ∷ marks,
      (cut, ok),
      λ granule shadow is.
          sym (torn_fill (from / 8) (to / 8) (byte / 8) code shadow granule (omega arith))
          ∙ rw whole at (fill_makes from (8 * (byte / 8)) code cut marks ok granule shadow is),
    )

-- poison and unpoison leave one of a shorter region
cut_change : (change : Change) (at size byte granule shadow : ℕ) → at ≤ byte → byte < at + size →
    cond (ltb granule (byte / 8)) (changed_in change at (at + size) shadow granule) shadow
    ≡ changed_in change at (at + (8 * (byte / 8) - at)) shadow granule
cut_change change at size byte granule shadow low high =
    elim (cases_lt granule (byte / 8)) [
      | inl lt ↦
          let below : ltb granule (byte / 8) ≡ true = grind (arith, nat_tests) in
          let end : min 8 (at + size - 8 * granule) ≡ 8 = omega arith in
          let also : min 8 (at + (8 * (byte / 8) - at) - 8 * granule) ≡ 8 = omega arith in
          rw (below, end, also) refl
      | inr ge ↦
          let past : ltb granule (byte / 8) ≡ false = grind (arith, nat_tests) in
          let none : min 8 (at + (8 * (byte / 8) - at) - 8 * granule) ≤ min 8 (at - 8 * granule) = omega arith in
          rw past (sym (changed_nothing change shadow _ _ none))
    ]

pub poison_leaves : (at size code : ℕ) → IsMark (Poison at size code)
    → LeavesMarks (Poison at size code) (changed_in (Poisoned code) at (at + size))
poison_leaves at size code mark marks ok byte range =
    let low = range.0 in
    let high = range.1 in
    let before = mark.1 in
    let end : at + (8 * (byte / 8) - at) ≤ 2 ^ 47 = omega arith in
    let cut : IsMark (Poison at (8 * (byte / 8) - at) code) = (mark.0, end) in (
      Poison at (8 * (byte / 8) - at) code ∷ marks,
      (cut, ok),
      λ granule shadow is. cut_change (Poisoned code) at size byte granule shadow low high
          ∙ poison_makes at (8 * (byte / 8) - at) code cut marks ok granule shadow is,
    )

pub unpoison_leaves : (at size : ℕ) → IsMark (Unpoison at size)
    → LeavesMarks (Unpoison at size) (changed_in Unpoisoned at (at + size))
unpoison_leaves at size mark marks ok byte range =
    let low = range.0 in
    let high = range.1 in
    let end : at + (8 * (byte / 8) - at) ≤ 2 ^ 47 = omega arith in (
      Unpoison at (8 * (byte / 8) - at) ∷ marks,
      (end, ok),
      λ granule shadow is. cut_change Unpoisoned at size byte granule shadow low high
          ∙ unpoison_makes at (8 * (byte / 8) - at) end marks ok granule shadow is,
    )

-- a block leaves a redzone, of which some bytes are unpoisoned
module _ (at size place granule shadow : ℕ) (aligned : at % 8 ≡ 0) (room : 32 ≤ at) where
  inside_cut : at / 8 - 4 ≤ granule → granule < place → place < at / 8 + (size + 7) / 8 + 4 →
      block_byte at size granule shadow
      ≡ unpoisoned_byte 0xfa (min 8 (at - 8 * granule)) (min 8 (at + min size (8 * place - at) - 8 * granule))
  inside_cut low high end =
      let span : (leb (at / 8 - 4) granule && ltb granule (at / 8 + (size + 7) / 8 + 4)) ≡ true =
      grind (arith, nat_tests) in
      elim (cases_lt granule (at / 8)) [
        | inl before ↦
            let whole : (leb (at / 8) granule && ltb granule (at / 8 + size / 8)) ≡ false = grind (arith, nat_tests) in
            let part : (leb (at / 8 + size / 8) granule && ltb granule (at / 8 + (size + 7) / 8)) ≡ false =
            grind (arith, nat_tests) in
            let none : min 8 (at + min size (8 * place - at) - 8 * granule) ≤ min 8 (at - 8 * granule) = omega arith in
            rw (span, whole, part) (sym (changed_nothing Unpoisoned 0xfa _ _ none))
        | inr from_here ↦
            let from : min 8 (at - 8 * granule) ≡ 0 = omega arith in
            elim (cases_lt granule (at / 8 + size / 8)) [
              | inl inside ↦
                  let whole : (leb (at / 8) granule && ltb granule (at / 8 + size / 8)) ≡ true =
                  grind (arith, nat_tests) in
                  let to : min 8 (at + min size (8 * place - at) - 8 * granule) ≡ 8 = omega arith in
                  rw (span, whole, from, to) refl
              | inr past ↦
                  let whole : (leb (at / 8) granule && ltb granule (at / 8 + size / 8)) ≡ false =
                  grind (arith, nat_tests) in
                  elim (cases_lt granule (at / 8 + (size + 7) / 8)) [
                    | inl cut ↦
                        let part : (leb (at / 8 + size / 8) granule && ltb granule (at / 8 + (size + 7) / 8)) ≡ true =
                        grind (arith, nat_tests) in
                        let to : min 8 (at + min size (8 * place - at) - 8 * granule) ≡ size % 8 = omega arith in
                        let some : 0 < size % 8 = omega arith in
                        let few : size % 8 < 8 = omega arith in
                        rw (span, whole, part, from, to) (grind (arith, nat_tests))
                    | inr out ↦
                        let part : (leb (at / 8 + size / 8) granule && ltb granule (at / 8 + (size + 7) / 8)) ≡ false =
                        grind (arith, nat_tests) in
                        let to : min 8 (at + min size (8 * place - at) - 8 * granule) ≡ 0 = omega arith in
                        rw (span, whole, part, from, to) refl
                  ]
            ]
      ]

  cut_block : at / 8 - 4 ≤ place → place < at / 8 + (size + 7) / 8 + 4 →
      cond (ltb granule place) (block_byte at size granule shadow) shadow
      ≡ unpoisoned_byte (cond (leb (at / 8 - 4) granule && ltb granule place) 0xfa shadow)
      (min 8 (at - 8 * granule)) (min 8 (at + min size (8 * place - at) - 8 * granule))
  cut_block low end =
      elim (cases_lt granule place) [
        | inr past ↦
            let below : ltb granule place ≡ false = grind (arith, nat_tests) in
            let out : (leb (at / 8 - 4) granule && ltb granule place) ≡ false = grind (arith, nat_tests) in
            let none : min 8 (at + min size (8 * place - at) - 8 * granule) ≤ min 8 (at - 8 * granule) = omega arith in
            rw (out, below) (sym (changed_nothing Unpoisoned shadow _ _ none))
        | inl lt ↦
            let below : ltb granule place ≡ true = grind (arith, nat_tests) in
            elim (cases_lt granule (at / 8 - 4)) [
              | inl before ↦
                  let out : (leb (at / 8 - 4) granule && ltb granule place) ≡ false = grind (arith, nat_tests) in
                  let none : min 8 (at + min size (8 * place - at) - 8 * granule) ≤ min 8 (at - 8 * granule) =
                  omega arith in
                  rw (out, below) (block_before at size shadow granule before
                  ∙ sym (changed_nothing Unpoisoned shadow _ _ none))
              | inr within ↦
                  let in_it : (leb (at / 8 - 4) granule && ltb granule place) ≡ true = grind (arith, nat_tests) in
                  rw (in_it, below) (inside_cut within lt end)
            ]
      ]

pub block_leaves : (at size : ℕ) → IsMark (Block at size)
    → LeavesMarks (Block at size) (λ shadow granule. block_byte at size granule shadow)
block_leaves at size mark marks ok byte range =
    let low = range.0 in
    let high = range.1 in
    let aligned = mark.0 in
    let room = mark.1 in
    let end = mark.2 in
    let redzones : IsMark (Fill (at - 32) (8 * (byte / 8)) 0xfa) =
    ((omega arith, omega arith), omega arith, omega arith, omega arith, omega arith) in
    let bytes : IsMark (Unpoison at (min size (8 * (byte / 8) - at))) = omega arith in
    let first : (at - 32) / 8 ≡ at / 8 - 4 = omega arith in
    let whole : 8 * (byte / 8) / 8 ≡ byte / 8 = omega arith in (
      Unpoison at (min size (8 * (byte / 8) - at)) ∷ Fill (at - 32) (8 * (byte / 8)) 0xfa ∷ marks,
      (bytes, (redzones, ok)),
      λ granule shadow is.
          cut_block at size (byte / 8) granule shadow aligned room (omega arith) (omega arith)
          ∙ unpoison_makes at (min size (8 * (byte / 8) - at)) bytes (Fill (at - 32) (8 * (byte / 8)) 0xfa ∷ marks)
          (redzones, ok) granule
          (cond (leb (at / 8 - 4) granule && ltb granule (byte / 8)) 0xfa shadow)
          (rw (first, whole) at (fill_makes (at - 32) (8 * (byte / 8)) 0xfa redzones marks ok granule shadow is)),
    )
