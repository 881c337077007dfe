-- Fills one after another.
use Rattle.std.proofs.Common.{◌≡◌, ◌≢◌, ℕ, ◌<◌, ◌≤◌, cond, leb, ltb, true, false, refl, ◌∙◌, arith, inl, inr}
use Rattle.std.specs.Prelude.{◌&&◌}
use Rattle.std.proofs.lemmas.Bool.{cases_lt}
use Rattle.std.proofs.lemmas.Bool.Decides.{nat_tests}
use Rattle.page_table.specs.Nodes.{IsFilled, IsFilledInPart}

goes_on : (from at next byte old index : ℕ) → from ≤ at → at ≤ next →
    cond (leb at index && ltb index next) byte (cond (leb from index && ltb index at) byte old)
    ≡ cond (leb from index && ltb index next) byte old
goes_on from at next byte old index low more = grind (arith, nat_tests)

none_filled : (width : ℕ) (old : ℕ → ℕ) (from byte : ℕ) → IsFilled width old old from from byte
none_filled width old from byte index lt = let none : (leb from index && ltb index from) ≡ false =
    grind (arith, nat_tests) in rw none refl

-- a fill goes on where one has ended
module _ (width : ℕ) (old now new : ℕ → ℕ) (from at byte : ℕ) (low : from ≤ at)
    (done : IsFilled width old now from at byte) where
  filled_on : (next : ℕ) → at ≤ next → IsFilled width now new at next byte → IsFilled width old new from next byte
  filled_on next more filled index lt = filled index lt
      ∙ rw (done index lt) (goes_on from at next byte (old index) index low more)

  pub broken_off_later : (next to : ℕ) → next ≤ to → to ≤ width →
      IsFilledInPart width now new at next byte → IsFilledInPart width old new from to byte
  broken_off_later next to end within torn = (
    torn.0,
    (let place = torn.1 in omega arith),
    (let below = torn.2 in omega arith),
    filled_on torn.0 torn.1 torn.3,
    λ same. torn.4 (done torn.0 (let below = torn.2 in omega arith) ∙ (
        let low = torn.1 in
        let past : (leb from torn.0 && ltb torn.0 at) ≡ false = grind (arith, nat_tests) in
        rw past same)),
  )

pub broken_off_at_once : (width : ℕ) (old new : ℕ → ℕ) (from to byte : ℕ) → from < to → old from ≢ byte →
    ((index : ℕ) → new index ≡ old index) → IsFilledInPart width old new from to byte
broken_off_at_once width old new from to byte order due same =
    (from, omega arith, order, λ index lt. same index ∙ none_filled width old from byte index lt, due)

-- the same of a table, whose root is wider than its granules are many: past the last one the bytes are 0
module _ (width granules from place : ℕ) (old new : ℕ → ℕ) (wide : granules ≤ width) (within : place < granules) where
  pub below_place : (given : ℕ → ℕ) →
      ((index : ℕ) → index < width → new index ≡ cond (leb from index && ltb index place) (given index) (old index)) →
      (granule : ℕ) → cond (ltb granule granules) (new granule) 0
      ≡ cond (leb from granule && ltb granule place) (given granule) (cond (ltb granule granules) (old granule) 0)
  below_place given filled granule =
      elim (cases_lt granule granules) [
        | inl lt ↦
            let yes : ltb granule granules ≡ true = grind (arith, nat_tests) in
            rw yes (filled granule (omega arith))
        | inr past ↦
            let no : ltb granule granules ≡ false = grind (arith, nat_tests) in
            let out : (leb from granule && ltb granule place) ≡ false = grind (arith, nat_tests) in
            rw (no, out) refl
      ]

  pub at_place : cond (ltb place granules) (old place) 0 ≡ old place
  at_place = let yes : ltb place granules ≡ true = grind (arith, nat_tests) in rw yes refl
