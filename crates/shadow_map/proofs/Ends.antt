-- No mark reaches past the last address.
use Rattle.std.proofs.Common.{◌≡◌, ℕ, ◌+◌, ◌-◌, ◌*◌, ◌/◌, ◌^◌, ◌≤◌, true, false, ltb, List, [], ◌∷◌, refl, sym, ap, ◌∙◌}
use Rattle.std.proofs.Common.{arith}
use Rattle.std.specs.Prelude.{◌&&◌, nat_lt}
use Rattle.std.proofs.lemmas.Bool.Decides.{nat_tests}
use Rattle.shadow_map.specs.States.{Mark, Fill, Block, Poison, Unpoison, lies_in, granule_lies_in, is_addressable}
use Rattle.shadow_map.specs.States.{state_of, lift, AreMarks}
use Rattle.asan_units.specs.Units.{redzone, round_up}
use Rattle.shadow_map.specs.Laws.{AllPastTheEndIsAddressable}
use Rattle.shadow_map.proofs.Fronts.{front_of_marks}
use Rattle.shadow_map.proofs.Bytes.{lift_is}

pub all_past_the_end_is_addressable : AllPastTheEndIsAddressable
all_past_the_end_is_addressable [] ok byte le = refl
all_past_the_end_is_addressable (Fill from to code ∷ marks) ok byte le =
    let end : to ≤ 2 ^ 47 = ok.0.4 in
    let off : lies_in from to byte ≡ false = grind (arith, nat_tests) in
    rw off (all_past_the_end_is_addressable marks ok.1 byte le)
all_past_the_end_is_addressable (Block at size ∷ marks) ok byte le =
    let end : at + round_up size + redzone ≤ 2 ^ 47 = ok.0.2 in
    let off : lies_in (at - redzone) (at + round_up size + redzone) byte ≡ false = grind (arith, nat_tests) in
    rw off (all_past_the_end_is_addressable marks ok.1 byte le)
all_past_the_end_is_addressable (Poison at size code ∷ marks) ok byte le =
    let end : at + size ≤ 2 ^ 47 = ok.0.1 in
    let whole : granule_lies_in at (at + size) byte ≡ false = grind (arith, nat_tests) in
    let part : lies_in at (at + size) byte ≡ false = grind (arith, nat_tests) in
    rw (whole, part) (all_past_the_end_is_addressable marks ok.1 byte le)
all_past_the_end_is_addressable (Unpoison at size ∷ marks) ok byte le =
    let end : at + size ≤ 2 ^ 47 = ok.0 in
    let off : (ltb 0 size && ltb byte (at + size) && ltb at (8 * (byte / 8) + 8)) ≡ false = grind (arith, nat_tests) in
    rw off (all_past_the_end_is_addressable marks ok.1 byte le)

-- so the granules there have shadow byte 0
pub lift_past_the_end : (marks : List Mark) → AreMarks marks → (granule : ℕ) → 2 ^ 44 ≤ granule
    → 0 ≡ lift (state_of marks) granule
lift_past_the_end marks ok granule le =
    let p = front_of_marks marks ok granule in
    let last : nat_lt 7 p.0 ≡ true =
    sym (p.1.each 7 (omega arith)) ∙ ap is_addressable
    (all_past_the_end_is_addressable marks ok (8 * granule + 7) (omega arith)) in
    let whole : p.0 ≡ 8 = let most = p.1.most in grind (arith, nat_tests) in
    sym (lift_is (state_of marks) granule p.0 p.1 ∙ rw whole refl)
