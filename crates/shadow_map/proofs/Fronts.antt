-- After any marks the addressable bytes of each granule are its first ones.
use Rattle.std.proofs.Common.{◌≡◌, ℕ, ◌+◌, ◌-◌, ◌*◌, ◌/◌, ◌%◌, ◌<◌, ◌≤◌, Bool, true, false, cond, eqb, leb, ltb, List}
use Rattle.std.proofs.Common.{[], ◌∷◌, Some, None, refl, ap, ◌∙◌, arith, add-zero}
use Rattle.std.specs.Prelude.{min, not, ◌&&◌, ◌||◌, nat_lt, nat_le, unwrap_or}
use Rattle.std.proofs.lemmas.Bool.Decides.{nat_tests}
use Rattle.shadow_map.specs.States.{State, Addressable, HeapRedzone, Coded, is_addressable, code_of, Mark, Fill, Block}
use Rattle.shadow_map.specs.States.{Poison, Unpoison, lies_in, none_addressable_from, state_given, state_of, IsMark}
use Rattle.shadow_map.specs.States.{AreMarks}
use Rattle.asan_units.specs.Units.{redzone, round_up}

-- the states after one more mark
abbrev pub after : (ℕ → State) → Mark → ℕ → State
after states mark byte = unwrap_or (state_given states mark byte) (states byte)

-- how many of this number of first bytes stay addressable when those from one place up to another
-- are poisoned
abbrev pub poisoned_front : ℕ → ℕ → ℕ → ℕ
poisoned_front front from to =
    cond (eqb from 0 && eqb to 8) 0
    (cond (nat_le front to && nat_lt from front && nat_lt from to) from front)

-- the first bytes of the granule, as many as this number says, are addressable, and no others
pub record Front (states : ℕ → State) (granule front : ℕ) : Type 0 where
  pub most : front ≤ 8
  pub each : (place : ℕ) → place < 8 → is_addressable (states (8 * granule + place)) ≡ nat_lt place front

pub granule_is : (granule place : ℕ) → place < 8 → (8 * granule + place) / 8 ≡ granule
granule_is granule place lt = omega arith

pub granule_zero : (granule : ℕ) → 8 * granule / 8 ≡ granule
granule_zero granule = omega arith

base_aligned : (granule : ℕ) → 8 * granule % 8 ≡ 0
base_aligned granule = omega arith

-- the eight tests of `none_addressable_from`, as one
eight : (x end front : ℕ) → front ≤ 8 →
    ((nat_lt (x + 0) end || not (nat_lt 0 front)) &&
    ((nat_lt (x + 1) end || not (nat_lt 1 front)) &&
    ((nat_lt (x + 2) end || not (nat_lt 2 front)) &&
    ((nat_lt (x + 3) end || not (nat_lt 3 front)) &&
    ((nat_lt (x + 4) end || not (nat_lt 4 front)) &&
    ((nat_lt (x + 5) end || not (nat_lt 5 front)) &&
    ((nat_lt (x + 6) end || not (nat_lt 6 front)) && ((nat_lt (x + 7) end || not (nat_lt 7 front)) && true))))))))
    ≡ nat_le front (end - x)
eight x end front le = grind (arith, nat_tests)

pub none_from_is : (states : ℕ → State) (granule front end : ℕ) → Front states granule front →
    none_addressable_from states end granule ≡ nat_le front (end - 8 * granule)
none_from_is states granule front end f =
    rw (
      f.each 0 (omega arith),
      f.each 1 (omega arith),
      f.each 2 (omega arith),
      f.each 3 (omega arith),
      f.each 4 (omega arith),
      f.each 5 (omega arith),
      f.each 6 (omega arith),
      f.each 7 (omega arith),
    )
    (eight (8 * granule) end front f.most)

pub first_is : (states : ℕ → State) (granule front : ℕ) → Front states granule front
    → is_addressable (states (8 * granule)) ≡ nat_lt 0 front
first_is states granule front f = rw (← add-zero (8 * granule)) (f.each 0 (omega arith))

-- whether a byte is addressable that a mark may have given a state
addressable_one : (covered : Bool) (new old : State) →
    is_addressable (unwrap_or (cond covered (Some new) None) old)
    ≡ cond covered (is_addressable new) (is_addressable old)
addressable_one true new old = refl
addressable_one false new old = refl

addressable_two : (whole part : Bool) (new old : State) →
    is_addressable (unwrap_or (cond whole (Some new) (cond part (Some new) None)) old)
    ≡ cond whole (is_addressable new) (cond part (is_addressable new) (is_addressable old))
addressable_two true part new old = refl
addressable_two false true new old = refl
addressable_two false false new old = refl

pub redzone_or : (inside : Bool) → is_addressable (cond inside Addressable HeapRedzone) ≡ inside
redzone_or true = refl
redzone_or false = refl

-- how many first bytes of a granule are addressable after a mark
abbrev pub front_after : Mark → ℕ → ℕ → ℕ
front_after (Fill from to code) granule front = cond (lies_in from to (8 * granule)) 0 front
front_after (Block at size) granule front =
    cond (lies_in (at - redzone) (at + round_up size + redzone) (8 * granule))
    (cond (leb at (8 * granule)) (min 8 (at + size - 8 * granule)) 0) front
front_after (Poison at size code) granule front =
    poisoned_front front (min 8 (at - 8 * granule)) (min 8 (at + size - 8 * granule))
front_after (Unpoison at size) granule front =
    let end = min 8 (at + size - 8 * granule) in
    cond (ltb 0 size && ltb (8 * granule) (at + size) && ltb at (8 * granule + 8) && ltb front end) end front

-- the same, for the byte at one place and in numbers
fill_front : (x from to front place : ℕ) → place < 8 → x % 8 ≡ 0 → from % 8 ≡ 0 → to % 8 ≡ 0 →
    cond (lies_in from to (x + place)) false (ltb place front) ≡ ltb place (cond (lies_in from to x) 0 front)
fill_front x from to front place lt base low high = grind (arith, nat_tests)

block_front : (x at size front place : ℕ) → place < 8 → x % 8 ≡ 0 → at % 8 ≡ 0 → 32 ≤ at → front ≤ 8 →
    cond (lies_in (at - 32) (at + round_up size + 32) (x + place)) (lies_in at (at + size) (x + place))
    (ltb place front)
    ≡ ltb place (cond (lies_in (at - 32) (at + round_up size + 32) x) (cond (leb at x) (min 8 (at + size - x)) 0) front)
block_front x at size front place lt base aligned room most = grind (arith, nat_tests)

poison_front : (x at end front place : ℕ) → place < 8 → front ≤ 8 →
    cond (leb at x && leb (x + 8) end) false (cond
    (lies_in at end (x + place) && ltb place front && leb front (end - x)) false (ltb place front))
    ≡ ltb place (poisoned_front front (min 8 (at - x)) (min 8 (end - x)))
poison_front x at end front place lt most = grind (arith, nat_tests)

unpoison_front : (x at size front place : ℕ) → place < 8 → front ≤ 8 →
    cond (ltb 0 size && ltb (x + place) (at + size) && ltb at (x + 8)) true (ltb place front)
    ≡ ltb place (cond (ltb 0 size && ltb x (at + size) && ltb at (x + 8) && ltb front (min 8 (at + size - x)))
    (min 8 (at + size - x)) front)
unpoison_front x at size front place lt most = grind (arith, nat_tests)

-- each mark leaves the addressable bytes of a granule its first ones
pub front_step : (states : ℕ → State) (granule front : ℕ) (mark : Mark) → IsMark mark → Front states granule front →
    Front (after states mark) granule (front_after mark granule front)
front_step states granule front (Fill from to code) ok f = record {
  most = let m = f.most in grind (arith, nat_tests);
  each = λ place lt. rw (addressable_one, f.each place lt)
      (fill_front (8 * granule) from to front place lt (base_aligned granule) ok.1 ok.2);
}
front_step states granule front (Block at size) ok f = record {
  most = let m = f.most in grind (arith, nat_tests);
  each = λ place lt. rw (addressable_one, redzone_or, f.each place lt)
      (block_front (8 * granule) at size front place lt (base_aligned granule) ok.0 ok.1 f.most);
}
front_step states granule front (Poison at size code) ok f = record {
  most = let m = f.most in grind (arith, nat_tests);
  each = λ place lt. rw (
    granule_is granule place lt,
    none_from_is states granule front (at + size) f,
    addressable_two,
    f.each place lt,
  ) (poison_front (8 * granule) at (at + size) front place lt f.most);
}
front_step states granule front (Unpoison at size) ok f = record {
  most = let m = f.most in grind (arith, nat_tests);
  each = λ place lt. rw (granule_is granule place lt, addressable_one, f.each place lt)
      (unpoison_front (8 * granule) at size front place lt f.most);
}

-- so after any marks there is such a number of first bytes
pub front_of_marks : (marks : List Mark) → AreMarks marks → (granule : ℕ)
    → (front : ℕ) × Front (state_of marks) granule front
front_of_marks [] ok granule = (8, record { most = omega arith; each = λ place lt. grind (arith, nat_tests) })
front_of_marks (mark ∷ marks) ok granule =
    let before = front_of_marks marks ok.1 granule in
    (front_after mark granule before.0, front_step (state_of marks) granule before.0 mark ok.0 before.1)

-- and the code of each byte that is not addressable is a number that no count of bytes is
record IsHigh (state : State) : Type 0 where
  high : is_addressable state ≡ false → 128 ≤ code_of state

high_addressable : IsHigh Addressable
high_addressable = record { high = λ h. absurd cc }

high_code : (code : ℕ) → 128 ≤ code → IsHigh (Coded code)
high_code code le = record { high = λ h. le }

high_one : (covered : Bool) (new old : State) → IsHigh new → IsHigh old
    → IsHigh (unwrap_or (cond covered (Some new) None) old)
high_one true new old is was = is
high_one false new old is was = was

high_two : (whole part : Bool) (new old : State) → IsHigh new → IsHigh old
    → IsHigh (unwrap_or (cond whole (Some new) (cond part (Some new) None)) old)
high_two true part new old is was = is
high_two false true new old is was = is
high_two false false new old is was = was

high_in_block : (inside : Bool) → IsHigh (cond inside Addressable HeapRedzone)
high_in_block true = high_addressable
high_in_block false = high_code 0xfa (omega arith)

high_of_marks : (marks : List Mark) → AreMarks marks → (byte : ℕ) → IsHigh (state_of marks byte)
high_of_marks [] ok byte = high_addressable
high_of_marks (Fill from to code ∷ marks) ok byte =
    high_one _ _ _ (high_code code ok.0.0.0) (high_of_marks marks ok.1 byte)
high_of_marks (Block at size ∷ marks) ok byte = high_one _ _ _ (high_in_block _) (high_of_marks marks ok.1 byte)
high_of_marks (Poison at size code ∷ marks) ok byte =
    high_two _ _ _ _ (high_code code ok.0.0.0) (high_of_marks marks ok.1 byte)
high_of_marks (Unpoison at size ∷ marks) ok byte = high_one _ _ _ high_addressable (high_of_marks marks ok.1 byte)

pub first_code : (marks : List Mark) → AreMarks marks → (granule front : ℕ) → Front (state_of marks) granule front
    → front ≡ 0 → 128 ≤ code_of (state_of marks (8 * granule))
first_code marks ok granule front f none =
    (high_of_marks marks ok (8 * granule)).high (first_is (state_of marks) granule front f
    ∙ ap (λ (n : ℕ). nat_lt 0 n) none)
