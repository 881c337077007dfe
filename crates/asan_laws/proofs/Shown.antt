-- The shadow byte of a granule after a history: what each event makes of it, and what stands there and says it.
use Rattle.std.proofs.Common.{◌≡◌, ℕ, ◌+◌, ◌-◌, ◌*◌, ◌/◌, ◌%◌, ◌<◌, ◌≤◌, Bool, true, false, cond, leb, ltb, List, []}
use Rattle.std.proofs.Common.{◌∷◌, ◌++◌, refl, sym, ap, ◌∙◌, arith, inl, inr}
use Rattle.std.specs.Prelude.{min, ◌&&◌, Contains}
use Rattle.std.specs.List.{list_any}
use Rattle.std.proofs.lemmas.Bool.{false≢true}
use Rattle.std.proofs.lemmas.Bool.Decides.{nat_tests}
use Rattle.std.proofs.lemmas.List.{append-nil}
use Rattle.trace_record.specs.declared.event.Event.{Event}
use Rattle.trace_record.specs.declared.event.Event.TheVariants as event
use Rattle.trace_record.specs.declared.event.Access.{Access}
use Rattle.trace_record.specs.declared.event.Place.{Place}
use Rattle.trace_record.specs.declared.event.Region.{Region}
use Rattle.trace_record.specs.declared.shade.Shade.{Shade}
use Rattle.trace_record.specs.Shades.{shade_size, shade_kind}
use Rattle.shadow_map.specs.States.{Coded, HeapRedzone, Mark, Fill, Block, IsMark, AreMarks, code_of, lies_in}
use Rattle.shadow_map.specs.States.{state_of, lift}
use Rattle.shadow_map.specs.Causes.{has_none_addressable}
use Rattle.shadow_map.specs.Granules.{block_byte, front_of, poisoned_byte, unpoisoned_byte}
use Rattle.shadow_map.proofs.Bytes.{fill_makes, block_makes, poison_makes, unpoison_makes}
use Rattle.heap_book.specs.Spans.{Extent, span_from, span_to, starts_at}
use Rattle.asan_units.specs.Units.{round_up}
use Rattle.asan_check.specs.Codes.{Freed, code_of_kind}
use Rattle.asan_check.specs.History.{block_of, live, held, admits, marks, with_marks, released_mark}
use Rattle.asan_check.specs.Verdicts.{is_access}
use Rattle.asan_check.proofs.Blocks.{live_placed}
use Rattle.asan_check.proofs.Frees as frees
use Rattle.asan_laws.specs.Laws.{since_malloc, since_free, NoneCovers, IsPoisonedSince}
use Rattle.asan_laws.specs.Recording.{shadow_bytes}
use Rattle.asan_laws.specs.Runs.{Step, marks_in, shadow_in}
use Rattle.asan_laws.specs.Snapshots.{is_shade, NoneShares, LiesInSpan, LiesInBytes}
use Rattle.asan_laws.specs.LeanRecording.{shadow_after, filled_byte, freed_byte, released_byte, shaded_byte, IsShown}
use Rattle.asan_laws.specs.LeanRecording.{in_live, in_held, around_held, in_poison, untouched, IsShownForAccess}
use Rattle.asan_laws.specs.LeanRecording.{FindsInRun}
use Rattle.asan_laws.proofs.Blocks.{held_placed}
use Rattle.asan_laws.proofs.Bytes.{live_span, held_bytes, held_redzone, own_byte}
use Rattle.asan_laws.proofs.Marks.{are_marks}
use Rattle.asan_laws.proofs.Poisons.{stays, poisoned}
use Rattle.asan_laws.proofs.Snapshots.{lift_same, granule_in_span, out_of_bytes, shaded_granule}

-- ---- what marks make of it

-- a fill
whole_granules : (from to granule : ℕ) → from % 8 ≡ 0 → to % 8 ≡ 0
    → (leb (from / 8) granule && ltb granule (to / 8)) ≡ lies_in from to (8 * granule)
whole_granules from to granule low high = grind (arith, nat_tests)

pub one_fill : (from to code granule : ℕ) → IsMark (Fill from to code) → (ms : List Mark) → AreMarks ms →
    lift (state_of (Fill from to code ∷ ms)) granule ≡ filled_byte from to code granule (lift (state_of ms) granule)
one_fill from to code granule is ms ok =
    sym (fill_makes from to code is ms ok granule (lift (state_of ms) granule) refl)
    ∙ ap (λ t. cond t code (lift (state_of ms) granule)) (whole_granules from to granule is.1 is.2)

-- the releases of blocks
are_below : (blocks : List Extent) (ms : List Mark) → AreMarks (with_marks released_mark blocks ms) → AreMarks ms
are_below [] ms are = are
are_below (b ∷ blocks) ms are = (are_below blocks (released_mark b ∷ ms) are).1

released_shown : (blocks : List Extent) (granule : ℕ) (ms : List Mark) → AreMarks (with_marks released_mark blocks ms) →
    lift (state_of (with_marks released_mark blocks ms)) granule
    ≡ released_byte blocks granule (lift (state_of ms) granule)
released_shown [] granule ms are = refl
released_shown (b ∷ blocks) granule ms are =
    let below = are_below blocks (released_mark b ∷ ms) are in
    released_shown blocks granule (released_mark b ∷ ms) are
    ∙ ap (released_byte blocks granule)
    (one_fill (span_from b) (span_to b) (code_of HeapRedzone) granule below.0 ms below.1)

-- ---- what events make of it

module _ (bound : ℕ) (past : List Event) where
  pub shadow_malloc : (r : Region) (granule : ℕ) → admits bound past (block_of r) ≡ true →
      shadow_after bound (event.Malloc r ∷ past) granule
      ≡ block_byte r.at r.size granule (shadow_after bound past granule)
  shadow_malloc r granule ok =
      let is : AreMarks (Block r.at r.size ∷ marks bound past) = rw ok at (are_marks bound (event.Malloc r ∷ past)) in
      rw ok (sym (block_makes r.at r.size is.0 (marks bound past) is.1 granule (shadow_after bound past granule) refl))

  pub shadow_free : (p : Place) (b : Extent) (released : List Extent) (granule : ℕ) → Contains (live bound past) b
      → b.at ≡ p.at → released ++ held bound (event.Free p ∷ past) ≡ held bound past ++ b ∷ [] →
      shadow_after bound (event.Free p ∷ past) granule
      ≡ released_byte released granule (freed_byte b granule (shadow_after bound past granule))
  shadow_free p b released granule has here parts =
      let laid = frees.marks_after bound past p b has here released parts in
      let are = rw laid at (are_marks bound (event.Free p ∷ past)) in
      let all = are_below released _ are in
      ap (λ ms. lift (state_of ms) granule) laid
      ∙ released_shown released granule _ are
      ∙ ap (released_byte released granule)
      (one_fill b.at (b.at + round_up b.size) (code_of Freed) granule all.0 (marks bound past) all.1)

  pub shadow_shade : (e : Event) (granule : ℕ) → is_shade e ≡ true →
      shadow_after bound (e ∷ past) granule ≡ shaded_byte e granule (shadow_after bound past granule)
  shadow_shade (event.Poison s) granule is =
      let are = are_marks bound (event.Poison s ∷ past) in
      sym (poison_makes s.at (shade_size s) (code_of_kind (shade_kind s)) are.0 (marks bound past) are.1 granule
      (shadow_after bound past granule) refl)
  shadow_shade (event.Unpoison r) granule is =
      let are = are_marks bound (event.Unpoison r ∷ past) in
      sym (unpoison_makes r.at r.size are.0 (marks bound past) are.1 granule (shadow_after bound past granule) refl)
  shadow_shade e granule is = absurd (false≢true is)

  pub shadow_access : (e : Event) (granule : ℕ) → is_access e ≡ true
      → shadow_after bound (e ∷ past) granule ≡ shadow_after bound past granule
  shadow_access (event.Load a) granule is = refl
  shadow_access (event.Store a) granule is = refl
  shadow_access e granule is = absurd (false≢true is)

  pub shadow_refused : (r : Region) (granule : ℕ) → admits bound past (block_of r) ≡ false
      → shadow_after bound (event.Malloc r ∷ past) granule ≡ shadow_after bound past granule
  shadow_refused r granule refused = rw refused refl

  pub shadow_bad_free : (p : Place) (granule : ℕ) → list_any (starts_at p.at) (live bound past) ≡ false
      → shadow_after bound (event.Free p ∷ past) granule ≡ shadow_after bound past granule
  shadow_bad_free p granule none = ap (λ ms. lift (state_of ms) granule) (frees.marks_stay bound past p none)

-- ---- what poison and unpoison can state

poisoned_part : (code shadow from : ℕ) → 0 < from → from < front_of shadow → poisoned_byte code shadow from 8 ≡ from
poisoned_part code shadow from some less = grind (arith, nat_tests)

unpoisoned_whole : (shadow : ℕ) → unpoisoned_byte shadow 0 8 ≡ 0
unpoisoned_whole shadow = grind (arith, nat_tests)

unpoisoned_part : (shadow to : ℕ) → to < 8 → front_of shadow < to → unpoisoned_byte shadow 0 to ≡ to
unpoisoned_part shadow to less more = grind (arith, nat_tests)

module _ (bound : ℕ) (past : List Event) where
  pub poison_whole : (s : Shade) (granule : ℕ) → s.at ≤ 8 * granule → 8 * granule + 8 ≤ s.at + shade_size s →
      shadow_after bound (event.Poison s ∷ past) granule ≡ code_of_kind (shade_kind s)
  poison_whole s granule low high =
      let from : min 8 (s.at - 8 * granule) ≡ 0 = omega arith in
      let to : min 8 (s.at + shade_size s - 8 * granule) ≡ 8 = omega arith in
      shadow_shade bound past (event.Poison s) granule refl ∙ rw (from, to) refl

  pub unpoison_whole : (r : Region) (granule : ℕ) → r.at ≤ 8 * granule → 8 * granule + 8 ≤ r.at + r.size →
      shadow_after bound (event.Unpoison r ∷ past) granule ≡ 0
  unpoison_whole r granule low high =
      let from : min 8 (r.at - 8 * granule) ≡ 0 = omega arith in
      let to : min 8 (r.at + r.size - 8 * granule) ≡ 8 = omega arith in
      shadow_shade bound past (event.Unpoison r) granule refl
      ∙ rw (from, to) (unpoisoned_whole (shadow_after bound past granule))

  pub poison_part : (s : Shade) (granule count : ℕ) → 0 < count → s.at ≡ 8 * granule + count
      → 8 * granule + 8 ≤ s.at + shade_size s → count < front_of (shadow_after bound past granule) →
      shadow_after bound (event.Poison s ∷ past) granule ≡ count
  poison_part s granule count some low high less =
      let most = front_most (shadow_after bound past granule) in
      let from : min 8 (s.at - 8 * granule) ≡ count = omega arith in
      let to : min 8 (s.at + shade_size s - 8 * granule) ≡ 8 = omega arith in
      shadow_shade bound past (event.Poison s) granule refl
      ∙ rw (from, to) (poisoned_part (code_of_kind (shade_kind s)) (shadow_after bound past granule) count some less)
    where
      front_most : (shadow : ℕ) → front_of shadow ≤ 8
      front_most shadow = grind (arith, nat_tests)

  pub unpoison_part : (r : Region) (granule count : ℕ) → count < 8 → r.at ≤ 8 * granule
      → r.at + r.size ≡ 8 * granule + count → front_of (shadow_after bound past granule) < count →
      shadow_after bound (event.Unpoison r ∷ past) granule ≡ count
  unpoison_part r granule count less low high more =
      let from : min 8 (r.at - 8 * granule) ≡ 0 = omega arith in
      let to : min 8 (r.at + r.size - 8 * granule) ≡ count = omega arith in
      shadow_shade bound past (event.Unpoison r) granule refl
      ∙ rw (from, to) (unpoisoned_part (shadow_after bound past granule) count less more)

  pub shade_beside : (e : Event) (granule : ℕ) → is_shade e ≡ true → NoneShares (e ∷ []) granule →
      shadow_after bound (e ∷ past) granule ≡ shadow_after bound past granule
  shade_beside e granule is clear = shaded_granule bound past granule (e ∷ []) (rw is refl) clear

-- ---- what stands there

module _ (bound : ℕ) (past : List Event) (granule : ℕ) where
  -- a live block, with the byte that its malloc gives
  live_shown : (b : Extent) → Contains (live bound past) b → LiesInSpan b granule
      → NoneShares (since_malloc bound past b) granule →
      shadow_after bound past granule ≡ block_byte b.at b.size granule 0
  live_shown b has inside clear =
      let placed = live_placed bound past b has in
      lift_same (state_of (marks bound past)) (state_of (Block b.at b.size ∷ [])) granule (λ byte above below.
      let in_span = granule_in_span b granule byte placed inside above below in
      live_span bound past b byte (8 * granule) (8 * granule + 8) has in_span above below clear
      ∙ sym (own_byte b [] byte in_span))
      ∙ sym (block_makes b.at b.size placed [] tt granule 0 refl)

  held_shown : (b : Extent) → Contains (held bound past) b → LiesInBytes b granule
      → NoneShares (since_free bound past b) granule → shadow_after bound past granule ≡ code_of Freed
  held_shown b has inside clear =
      let placed = held_placed bound past b has in
      let start = placed.0 in
      let from = inside.0 in
      let to = inside.1 in
      lift_same (state_of (marks bound past)) (λ byte. Freed) granule (λ byte above below.
      held_bytes bound past b byte (8 * granule) (8 * granule + 8) has (omega arith) (omega arith) above below clear)

  around_shown : (b : Extent) → Contains (held bound past) b → LiesInSpan b granule → ¬ LiesInBytes b granule
      → NoneShares (since_malloc bound past b) granule → shadow_after bound past granule ≡ code_of HeapRedzone
  around_shown b has inside outside clear =
      let placed = held_placed bound past b has in
      lift_same (state_of (marks bound past)) (λ byte. HeapRedzone) granule (λ byte above below.
      let in_span = granule_in_span b granule byte placed inside above below in
      let out = out_of_bytes bound past past granule b placed outside byte above below in
      held_redzone bound past b byte (8 * granule) (8 * granule + 8) has in_span out above below clear)

  poison_shown : (s : Shade) → IsPoisonedSince bound past s granule
      → shadow_after bound past granule ≡ code_of_kind (shade_kind s)
  poison_shown s is =
      lift_same (state_of (marks bound past)) (λ byte. Coded (code_of_kind (shade_kind s))) granule (λ byte above below.
      let here : byte / 8 ≡ granule = omega arith in
      ap (λ ms. state_of ms byte) is.laid_since
      ∙ stays is.laid (marks bound (event.Poison s ∷ is.before)) granule byte is.uncovered here
      ∙ poisoned s.at (shade_size s) (code_of_kind (shade_kind s)) (marks bound is.before) granule byte is.whole.0
      is.whole.1 here)

  unmarked_shown : NoneCovers (marks bound past) [] granule → shadow_after bound past granule ≡ 0
  unmarked_shown none =
      lift_same (state_of (marks bound past)) (state_of []) granule (λ byte above below.
      let here : byte / 8 ≡ granule = omega arith in
      rw (append-nil (marks bound past)) at (stays (marks bound past) [] granule byte none here))

  pub byte_shown : (shadow : ℕ) → IsShown bound past granule shadow → shadow_after bound past granule ≡ shadow
  byte_shown shadow (in_live b has inside clear) = live_shown b has inside clear
  byte_shown shadow (in_held b has inside clear) = held_shown b has inside clear
  byte_shown shadow (around_held b has inside outside clear) = around_shown b has inside outside clear
  byte_shown shadow (in_poison s is) = poison_shown s is
  byte_shown shadow (untouched none) = unmarked_shown none

-- ---- in a recording and in its run

pub both_shown : (bound : ℕ) (recorded run : List Event) (granule shadow : ℕ) → IsShown bound recorded granule shadow
    → IsShown bound run granule shadow → shadow_after bound recorded granule ≡ shadow_after bound run granule
both_shown bound recorded run granule shadow one other =
    byte_shown bound recorded granule shadow one ∙ sym (byte_shown bound run granule shadow other)

pub found_shown : (bound : ℕ) (recorded : List Event) (run : List Step) (a : Access)
    → IsShownForAccess bound recorded run a → FindsInRun bound shadow_bytes recorded run a
found_shown bound recorded run a shown = record {
  here = here;
  class_there = λ bad. elim shown.class_there [
    | inl none ↦ rw none here
    | inr next ↦ go (has_none_addressable (state_of (marks_in run)) (a.at / 8))
        (byte_shown bound recorded (a.at / 8 + 1) _ next)
  ];
}
  where
    here : shadow_after bound recorded (a.at / 8) ≡ shadow_in run (a.at / 8)
    here = byte_shown bound recorded (a.at / 8) _ shown.here

    go : (t : Bool) → shadow_after bound recorded (a.at / 8 + 1) ≡ shadow_in run (a.at / 8 + 1)
        → shadow_after bound recorded (cond t (a.at / 8) (a.at / 8 + 1))
        ≡ shadow_in run (cond t (a.at / 8) (a.at / 8 + 1))
    go true next = here
    go false next = next
