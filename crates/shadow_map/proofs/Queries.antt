-- What the shadow byte of a granule answers: the bad byte of an access, and the laws of shadow bytes.
use Rattle.std.proofs.Common.{◌≡◌, ◌≢◌, ℕ, zero, suc, ◌+◌, ◌-◌, ◌*◌, ◌/◌, ◌%◌, ◌<◌, ◌≤◌, Bool, true, false, cond, leb}
use Rattle.std.proofs.Common.{ltb, eqb, List, Option, Some, None, refl, sym, ap, subst, ◌∙◌, arith, inl, inr, add-zero}
use Rattle.std.specs.List.{list_all}
use Rattle.std.specs.Prelude.{min, max, not, ◌&&◌, ◌||◌, nat_lt, nat_le, ◌↔◌, is_some, IsTrue, MatchOption}
use Rattle.std.proofs.lemmas.Bool.Decides.{nat_tests}
use Rattle.std.proofs.lemmas.Bool.{cases_lt}
use Rattle.shadow_map.specs.States.{State, Addressable, Coded, is_addressable, code_of, Mark, AreMarks, places}
use Rattle.shadow_map.specs.States.{state_of, lift, least_unaddressable, bad_byte_of}
use Rattle.shadow_map.specs.Checks.{is_negative, check_reports}
use Rattle.shadow_map.specs.Causes.{has_none_addressable, deciding_granule}
use Rattle.asan_units.specs.Units.{is_width}
use Rattle.shadow_map.specs.Granules.{front_of}
use Rattle.shadow_map.specs.Laws.{AddressableBytesLead, IsAddressableAt, IsFirstUnaddressable}
use Rattle.shadow_map.specs.Laws.{FirstUnaddressableOfARegion, BadByteOfAnAccess, ShadowByteOfAGranule}
use Rattle.shadow_map.specs.Laws.{ShadowCheckFindsTheBadByte}
use Rattle.shadow_map.proofs.Fronts.{Front, front_of_marks, first_code}
use Rattle.shadow_map.proofs.Bytes.{lift_is, front_of_lift, byte_by}

-- which of this many bytes from a place of a granule on is the first that is not addressable
least_run : (states : ℕ → State) (x front place count : ℕ)
    → ((other : ℕ) → other < 8 → is_addressable (states (x + other)) ≡ ltb other front) →
    place + count ≤ 8 → least_unaddressable states (x + place) count
    ≡ cond (ltb (max place front) (place + count)) (Some (x + max place front)) None
least_run states x front place zero each le = let past : ltb (max place front) (place + 0) ≡ false =
    grind (arith, nat_tests) in rw past refl
least_run states x front place (suc count) each le =
    elim (cases_lt place front) [
      | inl lt ↦ let here : is_addressable (states (x + place)) ≡ true = each place (omega arith)
          ∙ grind (arith, nat_tests) in
          let step : x + place + 1 ≡ x + (place + 1) = omega arith in
          let more : place + 1 + count ≡ place + suc count = omega arith in
          let same : max (place + 1) front ≡ max place front = grind (arith, nat_tests) in
          let rest = least_run states x front (place + 1) count each (omega arith) in
          rw (here, step) (subst (λ (end : ℕ). least_unaddressable states (x + (place + 1)) count
          ≡ cond (ltb (max place front) end) (Some (x + max place front)) None) more (rw same at rest))
      | inr ge ↦ let here : is_addressable (states (x + place)) ≡ false = each place (omega arith)
          ∙ grind (arith, nat_tests) in
          let same : max place front ≡ place = grind (arith, nat_tests) in
          let within : ltb place (place + suc count) ≡ true = grind (arith, nat_tests) in
          rw (here, same, within) refl
    ]

-- the bad byte of an access, by the number of its granule's first addressable bytes
bad_byte_by : (states : ℕ → State) (front at size : ℕ) → Front states (at / 8) front →
    bad_byte_of states at size ≡ cond (ltb (max (at % 8) front) (at % 8 + min size (8 - at % 8)))
    (Some (8 * (at / 8) + max (at % 8) front)) None
bad_byte_by states front at size f =
    let split : at ≡ 8 * (at / 8) + at % 8 = omega arith in
    let family : ℕ → Type 0 = λ byte. least_unaddressable states byte (min size (8 - at % 8))
    ≡ cond (ltb (max (at % 8) front) (at % 8 + min size (8 - at % 8))) (Some (8 * (at / 8) + max (at % 8) front))
    None in
    subst family (sym split) (least_run states (8 * (at / 8)) front (at % 8) (min size (8 - at % 8)) f.each
    (grind (arith, nat_tests)))

pub bad_byte_shown : (marks : List Mark) → AreMarks marks → (at size shadow : ℕ)
    → shadow ≡ lift (state_of marks) (at / 8) →
    bad_byte_of (state_of marks) at size
    ≡ cond (ltb (max (at % 8) (front_of shadow)) (at % 8 + min size (8 - at % 8)))
    (Some (at - at % 8 + max (at % 8) (front_of shadow))) None
bad_byte_shown marks ok at size shadow is =
    let p = front_of_marks marks ok (at / 8) in
    let front : p.0 ≡ front_of shadow = sym (ap front_of is ∙ front_of_lift marks ok (at / 8) p.0 p.1) in
    let base : at - at % 8 ≡ 8 * (at / 8) = omega arith in
    rw (← front, base) (bad_byte_by (state_of marks) p.0 at size p.1)

-- whether a byte is addressable, by its granule's shadow byte
pub addressable_shown : (marks : List Mark) → AreMarks marks → (at shadow : ℕ) → shadow ≡ lift (state_of marks) (at / 8)
    →
    not (is_addressable (state_of marks at)) ≡ nat_le (front_of shadow) (at % 8)
addressable_shown marks ok at shadow is =
    let p = front_of_marks marks ok (at / 8) in
    let front : p.0 ≡ front_of shadow = sym (ap front_of is ∙ front_of_lift marks ok (at / 8) p.0 p.1) in
    let split : 8 * (at / 8) + at % 8 ≡ at = omega arith in
    let here = rw split at (p.1.each (at % 8) (omega arith)) in
    rw (here, front) (grind (arith, nat_tests))

-- the granule that decides why an access is bad, by the shadow byte of the granule of its first byte
none_of_front : (front : ℕ) → list_all (λ place. not (nat_lt place front)) places ≡ nat_le front 0
none_of_front zero = refl
none_of_front (suc front) = let first : nat_lt 0 (suc front) ≡ true = grind (arith, nat_tests) in
    let some : nat_le (suc front) 0 ≡ false = grind (arith, nat_tests) in rw (first, some) refl

negative_without_front : (front code : ℕ) → front ≤ 8 → (front ≡ 0 → 128 ≤ code)
    → nat_le front 0 ≡ is_negative (byte_by front code)
negative_without_front front code most high = grind (arith, nat_tests)

none_addressable_shown : (marks : List Mark) → AreMarks marks → (granule : ℕ) →
    has_none_addressable (state_of marks) granule ≡ is_negative (lift (state_of marks) granule)
none_addressable_shown marks ok granule =
    let states : ℕ → State = state_of marks in
    let p = front_of_marks marks ok granule in
    let each = p.1.each in
    let front : has_none_addressable states granule ≡ nat_le p.0 0 =
    rw (
      each 0 (omega arith),
      each 1 (omega arith),
      each 2 (omega arith),
      each 3 (omega arith),
      each 4 (omega arith),
      each 5 (omega arith),
      each 6 (omega arith),
      each 7 (omega arith),
    )
    (none_of_front p.0) in
    front ∙ negative_without_front p.0 (code_of (states (8 * granule))) p.1.most (first_code marks ok granule p.0 p.1)
    ∙ ap is_negative (sym (lift_is states granule p.0 p.1))

pub deciding_shown : (marks : List Mark) → AreMarks marks → (at shadow : ℕ) → shadow ≡ lift (state_of marks) (at / 8) →
    deciding_granule (state_of marks) at ≡ cond (is_negative shadow) (at / 8) (at / 8 + 1)
deciding_shown marks ok at shadow is = rw (none_addressable_shown marks ok (at / 8), is) refl

-- a search for the first byte that is not addressable: what it finds among some bytes it finds among more
pub least_found : (states : ℕ → State) (byte count more found : ℕ) → least_unaddressable states byte count ≡ Some found
    →
    least_unaddressable states byte (count + more) ≡ Some found
least_found states byte zero more found is = absurd cc
least_found states byte (suc count) more found is =
    let longer : suc count + more ≡ suc (count + more) = omega arith in
    rw longer (here (is_addressable (states byte)) (least_found states (byte + 1) count more found) is)
  where
    here : {one two : Option ℕ} (first : Bool) → (one ≡ Some found → two ≡ Some found)
        → cond first one (Some byte) ≡ Some found → cond first two (Some byte) ≡ Some found
    here true goes_on h = goes_on h
    here false goes_on h = h

-- and it goes on past bytes that are all addressable
pub least_goes_on : (states : ℕ → State) (byte count more : ℕ) → least_unaddressable states byte count ≡ None →
    least_unaddressable states byte (count + more) ≡ least_unaddressable states (byte + count) more
least_goes_on states byte zero more is =
    let first : 0 + more ≡ more = omega arith in
    rw (first, add-zero byte) refl
least_goes_on states byte (suc count) more is =
    let longer : suc count + more ≡ suc (count + more) = omega arith in
    let farther : byte + suc count ≡ byte + 1 + count = omega arith in
    rw (longer, farther) (here (is_addressable (states byte)) (least_goes_on states (byte + 1) count more) is)
  where
    here : {one two three : Option ℕ} (first : Bool) → (one ≡ None → two ≡ three) → cond first one (Some byte) ≡ None
        → cond first two (Some byte) ≡ three
    here true goes_on h = goes_on h
    here false goes_on h = absurd cc

-- the first byte of a region that is not addressable, by the bad byte of the region taken as an access
pub found_in_granule : (states : ℕ → State) (byte size found : ℕ) → bad_byte_of states byte size ≡ Some found
    → least_unaddressable states byte size ≡ Some found
found_in_granule states byte size found is =
    let split : size ≡ min size (8 - byte % 8) + (size - (8 - byte % 8)) = omega arith in
    rw split (least_found states byte (min size (8 - byte % 8)) (size - (8 - byte % 8)) found is)

pub past_granule : (states : ℕ → State) (byte end : ℕ) → byte < end → bad_byte_of states byte (end - byte) ≡ None →
    least_unaddressable states byte (end - byte)
    ≡ least_unaddressable states ((byte / 8 + 1) * 8) (end - (byte / 8 + 1) * 8)
past_granule states byte end lt is =
    let split : min (end - byte) (8 - byte % 8) + (end - byte - (8 - byte % 8)) ≡ end - byte = omega arith in
    let family : ℕ → Type 0 = λ size. least_unaddressable states byte size
    ≡ least_unaddressable states ((byte / 8 + 1) * 8) (end - (byte / 8 + 1) * 8) in
    subst family split (least_goes_on states byte (min (end - byte) (8 - byte % 8)) (end - byte - (8 - byte % 8)) is
    ∙ rest)
  where
    rest : least_unaddressable states (byte + min (end - byte) (8 - byte % 8)) (end - byte - (8 - byte % 8))
        ≡ least_unaddressable states ((byte / 8 + 1) * 8) (end - (byte / 8 + 1) * 8)
    rest = elim (cases_lt (8 - byte % 8) (end - byte)) [
      | inl more ↦ let next : byte + min (end - byte) (8 - byte % 8) ≡ (byte / 8 + 1) * 8 = omega arith in
          let left : end - byte - (8 - byte % 8) ≡ end - (byte / 8 + 1) * 8 = omega arith in
          rw (next, left) refl
      | inr none ↦ let left : end - byte - (8 - byte % 8) ≡ 0 = omega arith in
          let also : end - (byte / 8 + 1) * 8 ≡ 0 = omega arith in
          rw (left, also) refl
    ]

-- granules whose shadow bytes are 0 have no bad byte
none_in_whole : (marks : List Mark) → AreMarks marks → (granule size : ℕ) → lift (state_of marks) granule ≡ 0 →
    bad_byte_of (state_of marks) (8 * granule) size ≡ None
none_in_whole marks ok granule size is =
    let base : 8 * granule / 8 ≡ granule = omega arith in
    let aligned : 8 * granule % 8 ≡ 0 = omega arith in
    let past : ltb 8 (0 + min size 8) ≡ false = grind (arith, nat_tests) in
    bad_byte_shown marks ok (8 * granule) size 0 (rw base (sym is)) ∙ rw (aligned, past) refl

pub past_whole : (marks : List Mark) → AreMarks marks → (end count from : ℕ) → 8 * (from + count) < end + 8 →
    ((granule : ℕ) → from ≤ granule → granule < from + count → lift (state_of marks) granule ≡ 0) →
    least_unaddressable (state_of marks) (8 * from) (end - 8 * from)
    ≡ least_unaddressable (state_of marks) (8 * (from + count)) (end - 8 * (from + count))
past_whole marks ok end zero from room none = let same : from + 0 ≡ from = omega arith in rw same refl
past_whole marks ok end (suc count) from room none =
    let here = none_in_whole marks ok from (end - 8 * from) (none from (omega arith) (omega arith)) in
    let next : (8 * from / 8 + 1) * 8 ≡ 8 * (from + 1) = omega arith in
    let more : from + 1 + count ≡ from + suc count = omega arith in
    rw next at (past_granule (state_of marks) (8 * from) end (omega arith) here)
    ∙ rw more at (past_whole marks ok end count (from + 1) (omega arith)
    (λ granule low high. none granule (omega arith) (omega arith)))

-- and where the bytes of one with another shadow byte have no bad byte, none of them lies in a later granule
front_is_part : (shadow : ℕ) → shadow ≢ 0 → front_of shadow < 8
front_is_part shadow some = grind (arith, nat_tests)

pub none_in_part : (marks : List Mark) → AreMarks marks → (granule size : ℕ) → lift (state_of marks) granule ≢ 0 →
    bad_byte_of (state_of marks) (8 * granule) size ≡ None
    → least_unaddressable (state_of marks) (8 * granule) size ≡ None
none_in_part marks ok granule size some is =
    let base : 8 * granule / 8 ≡ granule = omega arith in
    let aligned : 8 * granule % 8 ≡ 0 = omega arith in
    elim (cases_lt 8 size) [
      | inl long ↦
          let shadow = lift (state_of marks) granule in
          let part = front_is_part shadow some in
          let reached : ltb (max 0 (front_of shadow)) (0 + min size 8) ≡ true = grind (arith, nat_tests) in
          let impossible : None ≡ Some (8 * granule - 8 * granule % 8 + max (8 * granule % 8) (front_of shadow)) =
          sym is ∙ bad_byte_shown marks ok (8 * granule) size shadow (rw base refl) ∙ rw (aligned, reached) refl in
          absurd cc
      | inr short ↦
          let whole : min size 8 ≡ size = omega arith in
          rw (aligned, whole) at is
    ]

-- so the search goes from the first granule to the next one whose shadow byte is not 0
past_first : (states : ℕ → State) (at size : ℕ) → 0 < size → bad_byte_of states at size ≡ None →
    least_unaddressable states at size ≡ least_unaddressable states (8 * (at / 8 + 1)) (at + size - 8 * (at / 8 + 1))
past_first states at size some is =
    let whole : at + size - at ≡ size = omega arith in
    let turn : (at / 8 + 1) * 8 ≡ 8 * (at / 8 + 1) = omega arith in
    rw (whole, turn) at (past_granule states at (at + size) (omega arith) (rw whole is))

module _ (marks : List Mark) (ok : AreMarks marks) (at size : ℕ) (some : 0 < size)
    (is : bad_byte_of (state_of marks) at size ≡ None) where
  pub none_marked : ((granule : ℕ) → at / 8 + 1 ≤ granule → granule < (at + size + 7) / 8
      → lift (state_of marks) granule ≡ 0) →
      least_unaddressable (state_of marks) at size ≡ None
  none_marked none =
      let from = at / 8 + 1 in
      let count = (at + size + 7) / 8 - from in
      let left : at + size - 8 * (from + count) ≡ 0 = omega arith in
      past_first (state_of marks) at size some is
      ∙ past_whole marks ok (at + size) count from (omega arith) (λ granule low high. none granule low (omega arith))
      ∙ rw left refl

  pub first_marked : (granule : ℕ) → at / 8 + 1 ≤ granule → granule < (at + size + 7) / 8 →
      ((other : ℕ) → at / 8 + 1 ≤ other → other < granule → lift (state_of marks) other ≡ 0)
      → lift (state_of marks) granule ≢ 0 →
      least_unaddressable (state_of marks) at size
      ≡ bad_byte_of (state_of marks) (8 * granule) (at + size - 8 * granule)
  first_marked granule low high none marked =
      let from = at / 8 + 1 in
      let whole : from + (granule - from) ≡ granule = omega arith in
      past_first (state_of marks) at size some is
      ∙ rw whole at (past_whole marks ok (at + size) (granule - from) from (omega arith)
      (λ other low high. none other low (omega arith)))
      ∙ here (bad_byte_of (state_of marks) (8 * granule) (at + size - 8 * granule)) refl
    where
      here : (bad : Option ℕ) → bad_byte_of (state_of marks) (8 * granule) (at + size - 8 * granule) ≡ bad →
          least_unaddressable (state_of marks) (8 * granule) (at + size - 8 * granule)
          ≡ bad_byte_of (state_of marks) (8 * granule) (at + size - 8 * granule)
      here None none = none_in_part marks ok granule (at + size - 8 * granule) marked none ∙ sym none
      here (Some found) found_is = found_in_granule (state_of marks) (8 * granule) (at + size - 8 * granule) found
          found_is ∙ sym found_is

-- the laws
is_addressable_state : (state : State) → is_addressable state ≡ true → state ≡ Addressable
is_addressable_state Addressable h = refl
is_addressable_state (Coded code) h = absurd cc

-- a region all of whose bytes are addressable but for one more at its front
front_byte : (P : ℕ → Type 0) (at size : ℕ) → P at → ((byte : ℕ) → at + 1 ≤ byte → byte < at + 1 + size → P byte) →
    (byte : ℕ) → at ≤ byte → byte < at + suc size → P byte
front_byte P at size here rest byte le lt =
    elim (cases_lt at byte) [
      | inl more ↦ rest byte (omega arith) (omega arith)
      | inr none ↦ let same : at ≡ byte = omega arith in subst P same here
    ]

pub first_unaddressable_of_a_region : FirstUnaddressableOfARegion
first_unaddressable_of_a_region states at zero = λ byte le lt. absurd (omega arith)
first_unaddressable_of_a_region states at (suc size) =
    here (is_addressable (states at)) refl (least_unaddressable states (at + 1) size)
    (first_unaddressable_of_a_region states (at + 1) size)
  where
    IsAddressable : ℕ → Type 0
    IsAddressable byte = states byte ≡ Addressable

    here : (first : Bool) → is_addressable (states at) ≡ first → (rest : Option ℕ) →
        MatchOption rest ((byte : ℕ) → at + 1 ≤ byte → byte < at + 1 + size
        → states byte ≡ Addressable) (λ found. (found < at + 1 + size) × IsFirstUnaddressable states (at + 1) found)
        →
        MatchOption (cond first rest (Some at)) ((byte : ℕ) → at ≤ byte → byte < at + suc size
        → states byte ≡ Addressable) (λ found. (found < at + suc size) × IsFirstUnaddressable states at found)
    here true is None h = front_byte IsAddressable at size (is_addressable_state _ is) h
    here true is (Some found) h =
        let lt = h.0 in
        let reached = h.1.reached in (
          omega arith,
          record {
            reached = omega arith;
            unaddressable = h.1.unaddressable;
            addressable_before = λ byte le below. front_byte IsAddressable at (found - (at + 1))
                (is_addressable_state _ is)
                (λ later low high. h.1.addressable_before later low (omega arith)) byte le (omega arith);
          },
        )
    here false is rest h = (
      omega arith,
      record {
        reached = omega arith;
        unaddressable = λ addressable. let impossible : true ≡ false = sym (ap is_addressable addressable) ∙ is in
            absurd cc;
        addressable_before = λ byte le lt. absurd (omega arith);
      },
    )

pub bad_byte_of_an_access : BadByteOfAnAccess
bad_byte_of_an_access states at width =
    here (bad_byte_of states at width) (first_unaddressable_of_a_region states at (min width (8 - at % 8)))
  where
    here : (bad : Option ℕ) →
        MatchOption bad ((byte : ℕ) → at ≤ byte → byte < at + min width (8 - at % 8) → states byte ≡ Addressable)
        (λ found. (found < at + min width (8 - at % 8)) × IsFirstUnaddressable states at found) →
        MatchOption bad ((byte : ℕ) → at ≤ byte → byte < at + width → byte / 8 ≡ at / 8 → states byte ≡ Addressable)
        (λ found. (found < at + width) × (found / 8 ≡ at / 8) × IsFirstUnaddressable states at found)
    here None h = λ byte le lt same. h byte le (omega arith)
    here (Some found) h =
        let lt = h.0 in
        let reached = h.1.reached in
        (omega arith, omega arith, h.1)

pub addressable_bytes_lead : AddressableBytesLead
addressable_bytes_lead marks ok byte earlier le same is =
    let p = front_of_marks marks ok (byte / 8) in
    let late : 8 * (byte / 8) + byte % 8 ≡ byte = omega arith in
    let early : 8 * (byte / 8) + earlier % 8 ≡ earlier = omega arith in
    let below : nat_lt (byte % 8) p.0 ≡ true = sym (p.1.each (byte % 8) (omega arith))
    ∙ rw late (ap is_addressable is) in
    let also : nat_lt (earlier % 8) p.0 ≡ true = grind (arith, nat_tests) in
    is_addressable_state _ (rw early at (p.1.each (earlier % 8) (omega arith)) ∙ also)

check_number : (place width front code : ℕ) → place < 8 → IsTrue (is_width width) → front ≤ 8 → (front ≡ 0 → 128 ≤ code)
    →
    let shadow = byte_by front code in
    (not (eqb shadow 0) && (eqb width 8 || leb 128 shadow || ltb shadow (place + width)))
    ≡ ltb (max place front) (place + min width (8 - place))
check_number place width front code lt is most high = grind (arith, nat_tests)

some_cond : (b : Bool) (n : ℕ) → b ≡ is_some (cond b (Some n) None)
some_cond true n = refl
some_cond false n = refl

pub shadow_check_finds_the_bad_byte : ShadowCheckFindsTheBadByte
shadow_check_finds_the_bad_byte marks ok at width is =
    let p = front_of_marks marks ok (at / 8) in
    ap (λ (shadow : ℕ). check_reports shadow at width) (lift_is (state_of marks) (at / 8) p.0 p.1)
    ∙ check_number (at % 8) width p.0 (code_of (state_of marks (8 * (at / 8)))) (omega arith) is p.1.most
    (first_code marks ok (at / 8) p.0 p.1)
    ∙ some_cond _ (8 * (at / 8) + max (at % 8) p.0) ∙ sym (ap is_some (bad_byte_by (state_of marks) p.0 at width p.1))

-- the numbers of a shadow byte
zero_is_whole : (front code : ℕ) → front ≤ 8 → (front ≡ 0 → 128 ≤ code) → byte_by front code ≡ 0 → front ≡ 8
zero_is_whole front code most high is = grind (arith, nat_tests)

count_is_front : (front code count : ℕ) → 0 < count → count < 8 → front ≤ 8 → (front ≡ 0 → 128 ≤ code)
    → byte_by front code ≡ count → front ≡ count
count_is_front front code count some few most high is = grind (arith, nat_tests)

front_is_count : (front code count : ℕ) → 0 < count → count < 8 → front ≡ count → byte_by front code ≡ count
front_is_count front code count some few is = grind (arith, nat_tests)

negative_is_none : (front code : ℕ) → IsTrue (is_negative (byte_by front code)) → front ≤ 8 → front ≡ 0
negative_is_none front code negative most = grind (arith, nat_tests)

none_is_negative : (code : ℕ) → 128 ≤ code → IsTrue (is_negative code)
none_is_negative code high = grind (arith, nat_tests)

-- how many first bytes are addressable, where these and no others are, and where none is
front_by_places : (states : ℕ → State) (granule front count : ℕ) → Front states granule front → 0 < count → count < 8 →
    ((place : ℕ) → place < 8 → IsAddressableAt states granule place ↔ (place < count)) → front ≡ count
front_by_places states granule front count f some few each =
    let last : count - 1 < count = omega arith in
    let low : nat_lt (count - 1) front ≡ true = sym (f.each (count - 1) (omega arith))
    ∙ ap is_addressable ((each (count - 1) (omega arith)).1 last) in
    elim (cases_lt count front) [
      | inl lt ↦ let past : count < count = (each count few).0
          (is_addressable_state _ (f.each count few ∙ grind (arith, nat_tests))) in absurd (omega arith)
      | inr ge ↦ grind (arith, nat_tests)
    ]

front_by_none : (states : ℕ → State) (granule front : ℕ) → Front states granule front →
    ((place : ℕ) → place < 8 → ¬ IsAddressableAt states granule place) → front ≡ 0
front_by_none states granule front f none =
    elim (cases_lt 0 front) [
      | inl lt ↦ absurd (none 0 (omega arith) (is_addressable_state _ (f.each 0 (omega arith)
          ∙ grind (arith, nat_tests))))
      | inr ge ↦ omega arith
    ]

pub shadow_byte_of_a_granule : ShadowByteOfAGranule
shadow_byte_of_a_granule marks ok granule =
    let states : ℕ → State = state_of marks in
    let p = front_of_marks marks ok granule in
    let is = lift_is states granule p.0 p.1 in
    let code = code_of (states (8 * granule)) in
    let high = first_code marks ok granule p.0 p.1 in
    record {
      all = (
        λ zero place lt. is_addressable_state _ (p.1.each place lt
            ∙ (let whole = zero_is_whole p.0 code p.1.most high (sym is ∙ zero) in grind (arith, nat_tests))),
        λ each. is ∙ (let last : nat_lt 7 p.0 ≡ true = sym (p.1.each 7 (omega arith))
            ∙ ap is_addressable (each 7 (omega arith)) in
            let most = p.1.most in let whole : p.0 ≡ 8 = grind (arith, nat_tests) in rw whole refl),
      );
      some = λ count some few. (
        λ shown place lt.
            let same : p.0 ≡ count = count_is_front p.0 code count some few p.1.most high (sym is ∙ shown) in (
              λ here. let below : nat_lt place p.0 ≡ true = sym (p.1.each place lt) ∙ ap is_addressable here in
                  grind (arith, nat_tests),
              λ below. is_addressable_state _ (p.1.each place lt ∙ grind (arith, nat_tests)),
            ),
        λ each. is ∙ front_is_count p.0 code count some few
            (front_by_places states granule p.0 count p.1 some few each),
      );
      none = (
        λ negative place lt here.
            let none : p.0 ≡ 0 = negative_is_none p.0 code (rw is at negative) p.1.most in
            let below : nat_lt place p.0 ≡ true = sym (p.1.each place lt) ∙ ap is_addressable here in
            absurd (grind (arith, nat_tests)),
        λ each. let none : p.0 ≡ 0 = front_by_none states granule p.0 p.1 each in
            rw (is, none) (none_is_negative code (high none)),
      );
      kind = λ negative. is ∙ (let none : p.0 ≡ 0 = negative_is_none p.0 code (rw is at negative) p.1.most in
          rw none refl);
    }
