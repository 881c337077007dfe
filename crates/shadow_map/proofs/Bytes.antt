-- The shadow byte of a granule: from its first bytes, and after each mark from the one before.
use Rattle.std.proofs.Common.{◌≡◌, ℕ, zero, suc, ◌+◌, ◌-◌, ◌*◌, ◌/◌, ◌%◌, ◌<◌, ◌≤◌, Bool, true, false, cond, leb, ltb}
use Rattle.std.proofs.Common.{eqb, List, ◌∷◌, Some, None, refl, sym, ap, ◌∙◌, arith, add-zero}
use Rattle.std.specs.Prelude.{min, ◌&&◌, unwrap_or}
use Rattle.std.proofs.lemmas.Bool.Decides.{nat_tests}
use Rattle.shadow_map.specs.States.{State, Addressable, HeapRedzone, Coded, is_addressable, code_of, Mark, Fill, Block}
use Rattle.shadow_map.specs.States.{Poison, Unpoison, lies_in, state_of, addressable_front, shadow_byte, lift, IsMark}
use Rattle.shadow_map.specs.States.{AreMarks}
use Rattle.asan_units.specs.Units.{round_up}
use Rattle.shadow_map.specs.Granules.{front_of, poisoned_byte, unpoisoned_byte, block_byte}
use Rattle.shadow_map.proofs.Fronts.{Front, poisoned_front, after, front_step, front_of_marks, first_is, first_code}
use Rattle.shadow_map.proofs.Fronts.{none_from_is, granule_zero}

front_run : (states : ℕ → State) (byte front count : ℕ)
    → ((place : ℕ) → place < count → is_addressable (states (byte + place)) ≡ ltb place front) →
    addressable_front states byte count ≡ min front count
front_run states byte front zero each = grind (arith, nat_tests)
front_run states byte zero (suc count) each = let none : is_addressable (states byte) ≡ false =
    rw (← add-zero byte) (each 0 (omega arith)) in rw none (grind (arith, nat_tests))
front_run states byte (suc front) (suc count) each =
    let first : is_addressable (states byte) ≡ true =
    rw (← add-zero byte) (each 0 (omega arith) ∙ grind (arith, nat_tests)) in
    let rest : addressable_front states (byte + 1) count ≡ min front count =
    front_run states (byte + 1) front count (λ place lt. rw (one_more byte place) (each (suc place) (omega arith)
    ∙ grind (arith, nat_tests))) in
    rw (first, rest) (grind (arith, nat_tests))
  where
    one_more : (b i : ℕ) → b + 1 + i ≡ b + suc i
    one_more b i = omega arith

pub lift_is : (states : ℕ → State) (granule front : ℕ) → Front states granule front
    → lift states granule ≡ shadow_byte front (states (8 * granule))
lift_is states granule front f =
    let run : addressable_front states (8 * granule) 8 ≡ front = front_run states (8 * granule) front 8 f.each
    ∙ (let m = f.most in grind (arith, nat_tests)) in
    ap (λ (n : ℕ). shadow_byte n (states (8 * granule))) run

-- the shadow byte by the code of the first byte
abbrev pub byte_by : ℕ → ℕ → ℕ
byte_by front code = cond (eqb front 8) 0 (cond (eqb front 0) code front)

front_of_byte : (front code : ℕ) → front ≤ 8 → (front ≡ 0 → 128 ≤ code) → front_of (byte_by front code) ≡ front
front_of_byte front code most high = grind (arith, nat_tests)

pub front_of_lift : (marks : List Mark) → AreMarks marks → (granule front : ℕ) → Front (state_of marks) granule front
    → front_of (lift (state_of marks) granule) ≡ front
front_of_lift marks ok granule front f =
    ap front_of (lift_is (state_of marks) granule front f)
    ∙ front_of_byte front (code_of (state_of marks (8 * granule))) f.most (first_code marks ok granule front f)

-- a mark makes of each granule's shadow byte what this function does, whatever marks came before
abbrev pub MakesOfBytes : Mark → (ℕ → ℕ → ℕ) → Type 0
MakesOfBytes mark byte_after =
    (marks : List Mark) → AreMarks marks → (granule shadow : ℕ) → shadow ≡ lift (state_of marks) granule →
    byte_after shadow granule ≡ lift (state_of (mark ∷ marks)) granule

-- a fill
fill_byte : (covered : Bool) (front shadow code : ℕ) (old : State) → shadow ≡ shadow_byte front old →
    cond covered code shadow ≡ shadow_byte (cond covered 0 front)
    (unwrap_or (cond covered (Some (Coded code)) None) old)
fill_byte true front shadow code old is = refl
fill_byte false front shadow code old is = is

aligned_within : (from to granule : ℕ) → from % 8 ≡ 0 → to % 8 ≡ 0
    → (leb (from / 8) granule && ltb granule (to / 8)) ≡ lies_in from to (8 * granule)
aligned_within from to granule low high = grind (arith, nat_tests)

pub fill_makes : (from to code : ℕ) → IsMark (Fill from to code) →
    MakesOfBytes (Fill from to code) (λ shadow granule. cond (leb (from / 8) granule && ltb granule (to / 8)) code
    shadow)
fill_makes from to code mark marks ok granule shadow is =
    let p = front_of_marks marks ok granule in
    rw (aligned_within from to granule mark.1 mark.2)
    (fill_byte (lies_in from to (8 * granule)) p.0 shadow code (state_of marks (8 * granule)) (is
    ∙ lift_is (state_of marks) granule p.0 p.1)
    ∙ sym (lift_is (after (state_of marks) (Fill from to code)) granule _
    (front_step (state_of marks) granule p.0 (Fill from to code) mark p.1)))

-- a block
code_in_block : (covered inside : Bool) (old : State) →
    code_of (unwrap_or (cond covered (Some (cond inside Addressable HeapRedzone)) None) old)
    ≡ cond covered (cond inside 0 0xfa) (code_of old)
code_in_block true true old = refl
code_in_block true false old = refl
code_in_block false inside old = refl

-- the shadow byte in the span of a block
abbrev block_inside : ℕ → ℕ → ℕ → ℕ
block_inside at size granule =
    cond (leb (at / 8) granule && ltb granule (at / 8 + size / 8)) 0
    (cond (leb (at / 8 + size / 8) granule && ltb granule (at / 8 + (size + 7) / 8)) (size % 8) 0xfa)

block_number : (granule at size front code shadow : ℕ) → at % 8 ≡ 0 → 32 ≤ at → front ≤ 8 → shadow ≡ byte_by front code
    →
    block_byte at size granule shadow
    ≡ byte_by (cond (lies_in (at - 32) (at + round_up size + 32) (8 * granule))
    (cond (leb at (8 * granule)) (min 8 (at + size - 8 * granule)) 0) front)
    (cond (lies_in (at - 32) (at + round_up size + 32) (8 * granule))
    (cond (lies_in at (at + size) (8 * granule)) 0 0xfa) code)
block_number granule at size front code shadow aligned room most is =
    let span : lies_in (at - 32) (at + round_up size + 32) (8 * granule)
    ≡ (leb (at / 8 - 4) granule && ltb granule (at / 8 + (size + 7) / 8 + 4)) = grind (arith, nat_tests) in
    rw span (by_span (leb (at / 8 - 4) granule && ltb granule (at / 8 + (size + 7) / 8 + 4)))
  where
    inside : block_inside at size granule ≡ byte_by (cond (leb at (8 * granule)) (min 8 (at + size - 8 * granule)) 0)
        (cond (lies_in at (at + size) (8 * granule)) 0 0xfa)
    inside = grind (arith, nat_tests)

    by_span : (covered : Bool) → cond covered (block_inside at size granule) shadow
        ≡ byte_by (cond covered (cond (leb at (8 * granule)) (min 8 (at + size - 8 * granule)) 0) front)
        (cond covered (cond (lies_in at (at + size) (8 * granule)) 0 0xfa) code)
    by_span true = inside
    by_span false = is

pub block_makes : (at size : ℕ) → IsMark (Block at size)
    → MakesOfBytes (Block at size) (λ shadow granule. block_byte at size granule shadow)
block_makes at size mark marks ok granule shadow is =
    let p = front_of_marks marks ok granule in
    block_number granule at size p.0 (code_of (state_of marks (8 * granule))) shadow mark.0 mark.1 p.1.most (is
    ∙ lift_is (state_of marks) granule p.0 p.1)
    ∙ rw (
      lift_is (after (state_of marks) (Block at size)) granule _
          (front_step (state_of marks) granule p.0 (Block at size) mark p.1),
      code_in_block,
    ) refl

-- poison
code_poisoned : (whole part : Bool) (new old : State) →
    code_of (unwrap_or (cond whole (Some new) (cond part (Some new) None)) old)
    ≡ cond whole (code_of new) (cond part (code_of new) (code_of old))
code_poisoned true part new old = refl
code_poisoned false true new old = refl
code_poisoned false false new old = refl

whole_is : (x at end : ℕ) → (leb at x && leb (x + 8) end) ≡ (eqb (min 8 (at - x)) 0 && eqb (min 8 (end - x)) 8)
whole_is x at end = grind (arith, nat_tests)

cut_is : (x at end front : ℕ) → front ≤ 8 → (lies_in at end x && ltb 0 front && leb front (end - x))
    ≡ (leb front (min 8 (end - x)) && ltb (min 8 (at - x)) front && ltb (min 8 (at - x)) (min 8 (end - x)) && eqb
    (min 8 (at - x)) 0)
cut_is x at end front most = grind (arith, nat_tests)

-- in the words of the part: whole, cut, or as it was
part_byte : (whole cut from_start : Bool) (front from code poison : ℕ) → front ≤ 8 → (cut ≡ true → from < front)
    → (from_start ≡ eqb from 0) →
    byte_by (cond whole 0 (cond cut from front)) (cond whole poison (cond (cut && from_start) poison code))
    ≡ cond whole poison (cond cut (cond (eqb from 0) poison from) (byte_by front code))
part_byte true cut from_start front from code poison most h is = refl
part_byte false false from_start front from code poison most h is = refl
part_byte false true from_start front from code poison most h is = let lt = h refl in rw is (grind (arith, nat_tests))

poison_number : (x at end front code poison : ℕ) → front ≤ 8 → (front ≡ 0 → 128 ≤ code) →
    byte_by (poisoned_front front (min 8 (at - x)) (min 8 (end - x)))
    (cond (leb at x && leb (x + 8) end) poison
    (cond (lies_in at end x && ltb 0 front && leb front (end - x)) poison code))
    ≡ poisoned_byte poison (byte_by front code) (min 8 (at - x)) (min 8 (end - x))
poison_number x at end front code poison most high =
    rw (whole_is x at end, cut_is x at end front most, front_of_byte front code most high)
    (part_byte (eqb (min 8 (at - x)) 0 && eqb (min 8 (end - x)) 8)
    (leb front (min 8 (end - x)) && ltb (min 8 (at - x)) front && ltb (min 8 (at - x)) (min 8 (end - x)))
    (eqb (min 8 (at - x)) 0) front (min 8 (at - x)) code poison most (λ h. grind (arith, nat_tests)) refl)

pub poison_makes : (at size code : ℕ) → IsMark (Poison at size code) →
    MakesOfBytes (Poison at size code) (λ shadow granule. poisoned_byte code shadow (min 8 (at - 8 * granule))
    (min 8 (at + size - 8 * granule)))
poison_makes at size code mark marks ok granule shadow is =
    let p = front_of_marks marks ok granule in
    let first = first_is (state_of marks) granule p.0 p.1 in
    let none = none_from_is (state_of marks) granule p.0 (at + size) p.1 in
    rw (is, lift_is (state_of marks) granule p.0 p.1)
    (sym (poison_number (8 * granule) at (at + size) p.0 (code_of (state_of marks (8 * granule))) code p.1.most
    (first_code marks ok granule p.0 p.1))
    ∙ rw (
      lift_is (after (state_of marks) (Poison at size code)) granule _
          (front_step (state_of marks) granule p.0 (Poison at size code) mark p.1),
      granule_zero granule,
      none,
      code_poisoned,
      first,
    ) refl)

-- unpoison
code_unpoisoned : (covered : Bool) (old : State)
    → code_of (unwrap_or (cond covered (Some Addressable) None) old) ≡ cond covered 0 (code_of old)
code_unpoisoned true old = refl
code_unpoisoned false old = refl

unpoison_number : (x at size front code : ℕ) → front ≤ 8 → (front ≡ 0 → 128 ≤ code) →
    unpoisoned_byte (byte_by front code) (min 8 (at - x)) (min 8 (at + size - x))
    ≡ byte_by (cond (ltb 0 size && ltb x (at + size) && ltb at (x + 8) && ltb front (min 8 (at + size - x)))
    (min 8 (at + size - x)) front)
    (cond (ltb 0 size && ltb x (at + size) && ltb at (x + 8)) 0 code)
unpoison_number x at size front code most high = rw (front_of_byte front code most high) (grind (arith, nat_tests))

whole_base : (granule : ℕ) → 8 * (8 * granule / 8) ≡ 8 * granule
whole_base granule = omega arith

pub unpoison_makes : (at size : ℕ) → IsMark (Unpoison at size) →
    MakesOfBytes (Unpoison at size) (λ shadow granule. unpoisoned_byte shadow (min 8 (at - 8 * granule))
    (min 8 (at + size - 8 * granule)))
unpoison_makes at size mark marks ok granule shadow is =
    let p = front_of_marks marks ok granule in
    rw (is, lift_is (state_of marks) granule p.0 p.1)
    (unpoison_number (8 * granule) at size p.0 (code_of (state_of marks (8 * granule))) p.1.most
    (first_code marks ok granule p.0 p.1)
    ∙ rw (
      lift_is (after (state_of marks) (Unpoison at size)) granule _
          (front_step (state_of marks) granule p.0 (Unpoison at size) mark p.1),
      whole_base granule,
      code_unpoisoned,
    ) refl)
