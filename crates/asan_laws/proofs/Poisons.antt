-- What is reported of an access to poison that no mark has covered since.
use Rattle.std.proofs.Common.{◌≡◌, ℕ, ◌+◌, ◌*◌, ◌/◌, ◌≤◌, ◌<◌, Bool, true, false, cond, leb, List, [], ◌∷◌, ◌++◌, Some}
use Rattle.std.proofs.Common.{refl, sym, ap, ◌∙◌, arith, append_assoc}
use Rattle.std.specs.Prelude.{◌&&◌, filter}
use Rattle.std.proofs.lemmas.Bool.Decides.{nat_tests}
use Rattle.trace_record.specs.declared.event.Event.{Event}
use Rattle.trace_record.specs.declared.event.Event.TheVariants as event
use Rattle.trace_record.specs.declared.event.Access.{Access}
use Rattle.trace_record.specs.declared.shade.Shade.{Shade}
use Rattle.trace_record.specs.Shades.{shade_size, shade_kind}
use Rattle.shadow_map.specs.States.{State, Mark, Block, Poison, Coded, is_addressable, code_of, granule_lies_in}
use Rattle.shadow_map.specs.States.{state_of}
use Rattle.heap_book.specs.Spans.{Extent, starts_at}
use Rattle.asan_check.specs.Codes.{class_of_code, code_of_kind}
use Rattle.asan_check.specs.History.{block_of, live, held, admits, marks, with_marks, freed_mark, released_mark}
use Rattle.asan_check.specs.History.{released_from, own_marks}
use Rattle.asan_check.specs.Verdicts.{verdict}
use Rattle.asan_laws.specs.Laws.{access_event, first_byte_report, NoneCovers, IsPoisonedSince}
use Rattle.asan_laws.proofs.Accesses.{class_of_its_code, verdict_from, first_fault, own_class, own_shadow, some_report}

-- ---- bytes that no mark covers keep their states

pub stays : (laid before : List Mark) (granule byte : ℕ) → NoneCovers laid before granule → byte / 8 ≡ granule
    → state_of (laid ++ before) byte ≡ state_of before byte
stays [] before granule byte none here = refl
stays (mark ∷ laid) before granule byte none here = rw (none.0 byte here) (stays laid before granule byte none.1 here)

-- the bytes of a granule that lies wholly in the region of a poison have its code
pub poisoned : (at size code : ℕ) (before : List Mark) (granule byte : ℕ) → at ≤ 8 * granule
    → 8 * granule + 8 ≤ at + size → byte / 8 ≡ granule →
    state_of (Poison at size code ∷ before) byte ≡ Coded code
poisoned at size code before granule byte from to here =
    let whole : granule_lies_in at (at + size) byte ≡ true = rw here (inside at (at + size) granule from to) in
    rw whole refl
  where
    inside : (least most granule : ℕ) → least ≤ 8 * granule → 8 * granule + 8 ≤ most
        → (leb least (8 * granule) && leb (8 * granule + 8) most) ≡ true
    inside least most granule low high = grind (arith, nat_tests)

-- ---- an access to them

module _ (bound : ℕ) (past : List Event) (s : Shade) (a : Access) (p : IsPoisonedSince bound past s (a.at / 8)) where
  each : (byte : ℕ) → byte / 8 ≡ a.at / 8 → state_of (marks bound past) byte ≡ Coded (code_of_kind (shade_kind s))
  each byte here =
      ap (λ ms. state_of ms byte) p.laid_since
      ∙ stays p.laid (marks bound (event.Poison s ∷ p.before)) (a.at / 8) byte p.uncovered here
      ∙ poisoned s.at (shade_size s) (code_of_kind (shade_kind s)) (marks bound p.before) (a.at / 8) byte p.whole.0
      p.whole.1 here

  place_in : (i : ℕ) → i < 8 → (8 * (a.at / 8) + i) / 8 ≡ a.at / 8
  place_in i lt = omega arith

  pub reported : (is_store : Bool) →
      verdict bound past (access_event is_store a)
      ≡ Some (first_byte_report past is_store a (class_of_code (code_of_kind (shade_kind s)))
      (code_of_kind (shade_kind s)))
  reported is_store =
      let states : ℕ → State = state_of (marks bound past) in
      let base = each (8 * (a.at / 8)) (omega arith) in
      let bad : is_addressable (states a.at) ≡ false = ap is_addressable (each a.at refl) in
      let closed : is_addressable (states (8 * (a.at / 8))) ≡ false = ap is_addressable base in
      let none : (i : ℕ) → i < 8 → is_addressable (states (8 * (a.at / 8) + i)) ≡ false =
      λ i lt. ap is_addressable (each (8 * (a.at / 8) + i) (place_in i lt)) in
      verdict_from bound past is_store a _ (first_fault states is_store a bad)
      ∙ some_report past is_store a _ _ _ _ (own_class states a.at none
      ∙ ap class_of_its_code base) (own_shadow states (a.at / 8) closed ∙ ap code_of base)

-- ---- marks are only added

with_marks_adds : (mark : Extent → Mark) (blocks : List Extent) (before : List Mark)
    → (laid : List Mark) × (with_marks mark blocks before ≡ laid ++ before)
with_marks_adds mark [] before = ([], refl)
with_marks_adds mark (b ∷ blocks) before =
    let rest = with_marks_adds mark blocks (mark b ∷ before) in
    (rest.0 ++ mark b ∷ [], rest.1 ∙ sym (append_assoc rest.0 (mark b ∷ []) before))

one_adds : (bound : ℕ) (e : Event) (past : List Event)
    → (laid : List Mark) × (marks bound (e ∷ past) ≡ laid ++ marks bound past)
one_adds bound (event.Malloc r) past = go (admits bound past (block_of r))
  where
    go : (t : Bool) → (laid : List Mark) × (cond t (Block r.at r.size ∷ marks bound past) (marks bound past)
        ≡ laid ++ marks bound past)
    go true = (Block r.at r.size ∷ [], refl)
    go false = ([], refl)
one_adds bound (event.Free p) past =
    let freed_now = filter (starts_at p.at) (live bound past) in
    let first = with_marks_adds freed_mark freed_now (marks bound past) in
    let second = with_marks_adds released_mark
    (released_from (held bound past ++ freed_now) (held bound (event.Free p ∷ past)))
    (with_marks freed_mark freed_now (marks bound past)) in (
      second.0 ++ first.0,
      second.1 ∙ ap (λ ms. second.0 ++ ms) first.1
          ∙ sym (append_assoc second.0 first.0 (marks bound past)),
    )
one_adds bound e past = (own_marks e, refl)

pub only_added : (bound : ℕ) (past since : List Event)
    → (laid : List Mark) × (marks bound (since ++ past) ≡ laid ++ marks bound past)
only_added bound past [] = ([], refl)
only_added bound past (e ∷ since) =
    let rest = only_added bound past since in
    let one = one_adds bound e (since ++ past) in
    (one.0 ++ rest.0, one.1 ∙ ap (λ ms. one.0 ++ ms) rest.1 ∙ sym (append_assoc one.0 rest.0 (marks bound past)))
