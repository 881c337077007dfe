-- The shadow byte of a granule after a run: what each step makes of it, and what stands there and says it.
use Rattle.std.proofs.Common.{◌≡◌, ℕ, ◌+◌, ◌*◌, ◌/◌, true, false, List, [], ◌∷◌, refl, sym, ap, ◌∙◌, arith}
use Rattle.std.specs.Prelude.{filter, Contains}
use Rattle.std.specs.List.{list_any}
use Rattle.std.proofs.lemmas.Bool.{false≢true}
use Rattle.std.proofs.lemmas.List.{append-nil}
use Rattle.trace_record.specs.declared.event.Event.{Event}
use Rattle.trace_record.specs.declared.event.Event.TheVariants as event
use Rattle.trace_record.specs.declared.event.Place.{Place}
use Rattle.trace_record.specs.declared.event.Region.{Region}
use Rattle.trace_record.specs.declared.shade.Shade.{Shade}
use Rattle.trace_record.specs.Shades.{shade_size, shade_kind}
use Rattle.shadow_map.specs.States.{Coded, HeapRedzone, Block, AreMarks, code_of, state_of, lift}
use Rattle.shadow_map.specs.Granules.{block_byte}
use Rattle.shadow_map.proofs.Bytes.{block_makes, poison_makes, unpoison_makes}
use Rattle.heap_book.specs.Spans.{Extent, span_from, span_to, starts_at}
use Rattle.asan_units.specs.Units.{round_up}
use Rattle.asan_check.specs.Codes.{Freed, code_of_kind}
use Rattle.asan_check.specs.History.{block_of, with_marks, freed_mark, released_mark}
use Rattle.asan_check.specs.Verdicts.{is_access}
use Rattle.asan_check.proofs.Members.{none_passes, filter_none, apart_left, apart_right, starts_once}
use Rattle.asan_laws.specs.Laws.{NoneCovers}
use Rattle.asan_laws.specs.Snapshots.{is_shade, NoneShares, LiesInSpan, LiesInBytes}
use Rattle.asan_laws.specs.Runs.{Step, Does, Releases, live_in, held_in, admits_in, marks_in, shadow_in}
use Rattle.asan_laws.specs.Runs.{since_malloc_in, since_free_in, IsPoisonedSinceIn, IsShownIn}
use Rattle.asan_laws.specs.Runs.{in_live, in_held, around_held, in_poison, untouched}
use Rattle.asan_laws.specs.LeanRecording.{shadow_after, freed_byte, released_byte, shaded_byte, IsShown}
use Rattle.asan_laws.proofs.Bytes.{own_byte}
use Rattle.asan_laws.proofs.Poisons.{stays, poisoned}
use Rattle.asan_laws.proofs.RunBlocks.{live_placed_in, held_placed_in, are_marks_in, apart_in}
use Rattle.asan_laws.proofs.RunBytes.{live_span_in, held_bytes_in, held_redzone_in}
use Rattle.asan_laws.proofs.Shown.{one_fill, byte_shown}
use Rattle.asan_laws.proofs.Snapshots.{lift_same, granule_in_span, out_of_bytes}

-- ---- what each step makes of it

module _ (run : List Step) where
  pub malloc_makes : (r : Region) (granule : ℕ) → admits_in run (block_of r) ≡ true →
      shadow_in (Does (event.Malloc r) ∷ run) granule ≡ block_byte r.at r.size granule (shadow_in run granule)
  malloc_makes r granule ok =
      let is : AreMarks (Block r.at r.size ∷ marks_in run) = rw ok at (are_marks_in (Does (event.Malloc r) ∷ run)) in
      rw ok (sym (block_makes r.at r.size is.0 (marks_in run) is.1 granule (shadow_in run granule) refl))

  pub free_makes : (p : Place) (b : Extent) (granule : ℕ) → Contains (live_in run) b → b.at ≡ p.at →
      shadow_in (Does (event.Free p) ∷ run) granule ≡ freed_byte b granule (shadow_in run granule)
  free_makes p b granule has here =
      let alone : filter (starts_at p.at) (live_in run) ≡ b ∷ [] =
      starts_once (live_in run) b p.at (apart_left (live_in run) (held_in run) (apart_in run)) has here in
      let is : AreMarks (freed_mark b ∷ marks_in run) = rw alone at (are_marks_in (Does (event.Free p) ∷ run)) in
      ap (λ bs. lift (state_of (with_marks freed_mark bs (marks_in run))) granule) alone
      ∙ one_fill b.at (b.at + round_up b.size) (code_of Freed) granule is.0 (marks_in run) is.1

  pub release_makes : (b : Extent) (granule : ℕ) → Contains (held_in run) b →
      shadow_in (Releases b.at ∷ run) granule ≡ released_byte (b ∷ []) granule (shadow_in run granule)
  release_makes b granule has =
      let alone : filter (starts_at b.at) (held_in run) ≡ b ∷ [] =
      starts_once (held_in run) b b.at (apart_right (live_in run) (held_in run) (apart_in run)) has refl in
      let is : AreMarks (released_mark b ∷ marks_in run) = rw alone at (are_marks_in (Releases b.at ∷ run)) in
      ap (λ bs. lift (state_of (with_marks released_mark bs (marks_in run))) granule) alone
      ∙ one_fill (span_from b) (span_to b) (code_of HeapRedzone) granule is.0 (marks_in run) is.1

  pub shade_makes : (e : Event) (granule : ℕ) → is_shade e ≡ true →
      shadow_in (Does e ∷ run) granule ≡ shaded_byte e granule (shadow_in run granule)
  shade_makes (event.Poison s) granule is =
      let are = are_marks_in (Does (event.Poison s) ∷ run) in
      sym (poison_makes s.at (shade_size s) (code_of_kind (shade_kind s)) are.0 (marks_in run) are.1 granule
      (shadow_in run granule) refl)
  shade_makes (event.Unpoison r) granule is =
      let are = are_marks_in (Does (event.Unpoison r) ∷ run) in
      sym (unpoison_makes r.at r.size are.0 (marks_in run) are.1 granule (shadow_in run granule) refl)
  shade_makes e granule is = absurd (false≢true is)

  pub access_makes : (e : Event) (granule : ℕ) → is_access e ≡ true
      → shadow_in (Does e ∷ run) granule ≡ shadow_in run granule
  access_makes (event.Load a) granule is = refl
  access_makes (event.Store a) granule is = refl
  access_makes e granule is = absurd (false≢true is)

  pub refused_makes : (r : Region) (granule : ℕ) → admits_in run (block_of r) ≡ false
      → shadow_in (Does (event.Malloc r) ∷ run) granule ≡ shadow_in run granule
  refused_makes r granule refused = rw refused refl

  pub bad_free_makes : (p : Place) (granule : ℕ) → list_any (starts_at p.at) (live_in run) ≡ false
      → shadow_in (Does (event.Free p) ∷ run) granule ≡ shadow_in run granule
  bad_free_makes p granule none =
      ap (λ bs. lift (state_of (with_marks freed_mark bs (marks_in run))) granule)
      (filter_none (starts_at p.at) (live_in run) (λ x has. none_passes (starts_at p.at) (live_in run) x none has))

  pub none_released_makes : (at granule : ℕ) → list_any (starts_at at) (held_in run) ≡ false
      → shadow_in (Releases at ∷ run) granule ≡ shadow_in run granule
  none_released_makes at granule none =
      ap (λ bs. lift (state_of (with_marks released_mark bs (marks_in run))) granule)
      (filter_none (starts_at at) (held_in run) (λ x has. none_passes (starts_at at) (held_in run) x none has))

-- ---- what stands there

module _ (run : List Step) (granule : ℕ) where
  live_shown : (b : Extent) → Contains (live_in run) b → LiesInSpan b granule
      → NoneShares (since_malloc_in run b) granule → shadow_in run granule ≡ block_byte b.at b.size granule 0
  live_shown b has inside clear =
      let placed = live_placed_in run b has in
      lift_same (state_of (marks_in run)) (state_of (Block b.at b.size ∷ [])) granule (λ byte above below.
      let in_span = granule_in_span b granule byte placed inside above below in
      live_span_in run b byte (8 * granule) (8 * granule + 8) has in_span above below clear
      ∙ sym (own_byte b [] byte in_span))
      ∙ sym (block_makes b.at b.size placed [] tt granule 0 refl)

  held_shown : (b : Extent) → Contains (held_in run) b → LiesInBytes b granule
      → NoneShares (since_free_in run b) granule → shadow_in run granule ≡ code_of Freed
  held_shown b has inside clear =
      let placed = held_placed_in run b has in
      let start = placed.0 in
      let from = inside.0 in
      let to = inside.1 in
      lift_same (state_of (marks_in run)) (λ byte. Freed) granule (λ byte above below.
      held_bytes_in run b byte (8 * granule) (8 * granule + 8) has (omega arith) (omega arith) above below clear)

  around_shown : (b : Extent) → Contains (held_in run) b → LiesInSpan b granule → ¬ LiesInBytes b granule
      → NoneShares (since_malloc_in run b) granule → shadow_in run granule ≡ code_of HeapRedzone
  around_shown b has inside outside clear =
      let placed = held_placed_in run b has in
      lift_same (state_of (marks_in run)) (λ byte. HeapRedzone) granule (λ byte above below.
      let in_span = granule_in_span b granule byte placed inside above below in
      let out = out_of_bytes 0 [] [] granule b placed outside byte above below in
      held_redzone_in run b byte (8 * granule) (8 * granule + 8) has in_span out above below clear)

  poison_shown : (s : Shade) → IsPoisonedSinceIn run s granule → shadow_in run granule ≡ code_of_kind (shade_kind s)
  poison_shown s is =
      lift_same (state_of (marks_in run)) (λ byte. Coded (code_of_kind (shade_kind s))) granule (λ byte above below.
      let here : byte / 8 ≡ granule = omega arith in
      ap (λ ms. state_of ms byte) is.laid_since
      ∙ stays is.laid (marks_in (Does (event.Poison s) ∷ is.before)) granule byte is.uncovered here
      ∙ poisoned s.at (shade_size s) (code_of_kind (shade_kind s)) (marks_in is.before) granule byte is.whole.0
      is.whole.1 here)

  unmarked_shown : NoneCovers (marks_in run) [] granule → shadow_in run granule ≡ 0
  unmarked_shown none =
      lift_same (state_of (marks_in run)) (state_of []) granule (λ byte above below.
      let here : byte / 8 ≡ granule = omega arith in
      rw (append-nil (marks_in run)) at (stays (marks_in run) [] granule byte none here))

  pub byte_in_run : (shadow : ℕ) → IsShownIn run granule shadow → shadow_in run granule ≡ shadow
  byte_in_run shadow (in_live b has inside clear) = live_shown b has inside clear
  byte_in_run shadow (in_held b has inside clear) = held_shown b has inside clear
  byte_in_run shadow (around_held b has inside outside clear) = around_shown b has inside outside clear
  byte_in_run shadow (in_poison s is) = poison_shown s is
  byte_in_run shadow (untouched none) = unmarked_shown none

pub shown_as_in_run : (bound : ℕ) (recorded : List Event) (run : List Step) (granule shadow : ℕ)
    → IsShown bound recorded granule shadow → IsShownIn run granule shadow
    → shadow_after bound recorded granule ≡ shadow_in run granule
shown_as_in_run bound recorded run granule shadow one other =
    byte_shown bound recorded granule shadow one ∙ sym (byte_in_run run granule shadow other)
