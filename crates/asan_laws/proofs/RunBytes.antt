-- What the bytes of live and held blocks of a run are, as long as no poison and no unpoison comes near them.
use Rattle.std.proofs.Common.{◌≡◌, ℕ, ◌+◌, ◌≤◌, ◌<◌, Bool, true, false, cond, eqb, List, [], ◌∷◌, ◌++◌, refl, sym, ap}
use Rattle.std.proofs.Common.{subst, ◌∙◌, arith, inl, inr}
use Rattle.std.specs.Prelude.{not, ◌&&◌, ◌⊎◌, filter, Contains}
use Rattle.std.specs.List.{IsDistinct, list_any}
use Rattle.std.proofs.lemmas.Bool.{both_ways, not-true, and_parts, and_from, and_right, cases_Bool, false_from_ne_true}
use Rattle.std.proofs.lemmas.Bool.{eqb-true, eq-eqb}
use Rattle.std.proofs.lemmas.Bool.Decides.{nat_tests}
use Rattle.std.proofs.lemmas.List.Elements.{Contains-append_left, Contains-append_right, Contains-append_cases}
use Rattle.std.proofs.lemmas.List.Elements.{Contains-push_cases}
use Rattle.trace_record.specs.declared.event.Event.TheVariants as event
use Rattle.trace_record.specs.declared.event.Place.{Place}
use Rattle.trace_record.specs.declared.event.Region.{Region}
use Rattle.shadow_map.specs.States.{Addressable, HeapRedzone, Block, lies_in, state_of}
use Rattle.heap_book.specs.Spans.{Extent, meets, starts_at}
use Rattle.asan_units.specs.Units.{round_up}
use Rattle.heap_book.proofs.NeverMeet.{meets-flip, unmet-admitted}
use Rattle.asan_check.specs.Codes.{Freed}
use Rattle.asan_check.specs.History.{block_of, freed_mark, released_mark}
use Rattle.asan_check.proofs.Members.{in_none, from_filtered, none_passes, apart_across, apart_left, apart_right}
use Rattle.asan_check.proofs.Members.{starts_once, meets_same}
use Rattle.asan_check.proofs.Steps.{eqb_flips}
use Rattle.asan_laws.specs.Laws.{asks_for}
use Rattle.asan_laws.specs.Runs.{Step, Does, Releases, live_in, held_in, admits_in, marks_in, since_malloc_in}
use Rattle.asan_laws.specs.Runs.{since_free_in}
use Rattle.asan_laws.proofs.Bytes.{NeitherShares, NeitherShares-tail, own_marks_leave, own_byte, bytes_in_span}
use Rattle.asan_laws.proofs.Bytes.{rounds_up}
use Rattle.asan_laws.proofs.Frames.{IsInSpan, block_leaves, freed_leaves, released_leaves, marked_leaves}
use Rattle.asan_laws.proofs.Members.{any_passes, apart_beside}
use Rattle.asan_laws.proofs.RunBlocks.{live_malloc_in, live_refused_in, apart_in}

-- ---- one more step

-- a block that the run has is not admitted again
taken_not_admitted : (run : List Step) (b : Extent) → Contains (live_in run ++ held_in run) b → admits_in run b ≡ false
taken_not_admitted run b has =
    let taken = live_in run ++ held_in run in
    false_from_ne_true _ (λ ok. both_ways (meets b b)
    (none_passes (meets b) taken b (unmet-admitted taken b ok) has) (meets_same b b refl))

not_its_malloc : (run : List Step) (b : Extent) (r : Region) → Contains (live_in run ++ held_in run) b →
    since_malloc_in (Does (event.Malloc r) ∷ run) b ≡ event.Malloc r ∷ since_malloc_in run b
not_its_malloc run b r has =
    rw (and_right (asks_for b r) (admits_in run b) (taken_not_admitted run b has)) refl

its_malloc : (run : List Step) (b : Extent) (r : Region) → block_of r ≡ b → admits_in run b ≡ true →
    since_malloc_in (Does (event.Malloc r) ∷ run) b ≡ []
its_malloc run b r asked ok =
    let same : asks_for b r ≡ true = and_from _ _ (eq-eqb b.at r.at (ap (λ x. x.at) (sym asked)))
    (eq-eqb b.size r.size (ap (λ x. x.size) (sym asked))) in
    rw (and_from (asks_for b r) (admits_in run b) same ok) refl

-- after a malloc: it is the block's, or the block was live before it
malloc_cases : (run : List Step) (b : Extent) (r : Region) → Contains (live_in (Does (event.Malloc r) ∷ run)) b →
    ((block_of r ≡ b) × (admits_in run b ≡ true) × (since_malloc_in (Does (event.Malloc r) ∷ run) b ≡ []))
    ⊎ (Contains (live_in run) b × (since_malloc_in (Does (event.Malloc r) ∷ run) b
    ≡ event.Malloc r ∷ since_malloc_in run b))
malloc_cases run b r has =
    elim (cases_Bool (admits_in run (block_of r))) [
      | inl ok ↦ elim (Contains-push_cases (live_in run) (block_of r) b (rw (live_malloc_in r run ok) at has)) [
        | inl old ↦ inr (old, not_its_malloc run b r (Contains-append_left (live_in run) (held_in run) b old))
        | inr new ↦ let admitted = ap (admits_in run) (sym new) ∙ ok in
            inl (new, admitted, its_malloc run b r new admitted)
      ]
      | inr refused ↦ let old : Contains (live_in run) b = rw (live_refused_in r run refused) at has in
          inr (old, not_its_malloc run b r (Contains-append_left (live_in run) (held_in run) b old))
    ]

not_its_free : (run : List Step) (b : Extent) (p : Place) → Contains (held_in run) b →
    since_free_in (Does (event.Free p) ∷ run) b ≡ event.Free p ∷ since_free_in run b
not_its_free run b p has = rw (false_from_ne_true
    (starts_at p.at b && list_any (starts_at p.at) (live_in run)) clash) refl
  where
    clash : (starts_at p.at b && list_any (starts_at p.at) (live_in run)) ≡ true → ⊥
    clash both =
        let parts = and_parts (starts_at p.at b) (list_any (starts_at p.at) (live_in run)) both in
        let found = any_passes (starts_at p.at) (live_in run) parts.1 in
        both_ways (meets found.0 b)
        (apart_across (live_in run) (held_in run) found.0 b (apart_in run) found.1 has)
        (meets_same found.0 b (eqb-true found.0.at p.at found.2 ∙ sym (eqb-true b.at p.at parts.0)))

-- ---- the marks of other blocks leave the bytes of a span

module _ (run : List Step) (b : Extent) (byte : ℕ) (in_span : IsInSpan b byte) where
  beside_malloc : (r : Region) → Contains (live_in run ++ held_in run) b →
      state_of (marks_in (Does (event.Malloc r) ∷ run)) byte ≡ state_of (marks_in run) byte
  beside_malloc r has = go (admits_in run (block_of r)) refl
    where
      go : (t : Bool) → admits_in run (block_of r) ≡ t
          → state_of (cond t (Block r.at r.size ∷ marks_in run) (marks_in run)) byte ≡ state_of (marks_in run) byte
      go false is = refl
      go true is =
          let taken = live_in run ++ held_in run in
          let apart = meets-flip b (block_of r) ∙ none_passes (meets (block_of r)) taken b
          (unmet-admitted taken (block_of r) is) has in
          block_leaves b (block_of r) byte apart in_span (marks_in run)

  -- another of some blocks that starts elsewhere
  elsewhere : (bs : List Extent) (at : ℕ) → IsDistinct meets bs → Contains bs b → starts_at at b ≡ false
      → (c : Extent) → Contains (filter (starts_at at) bs) c → meets b c ≡ false
  elsewhere bs at apart has other c has_c =
      let parts = from_filtered (starts_at at) bs c has_c in
      apart_beside bs b c apart has parts.0
      (subst (λ (q : ℕ). eqb q b.at ≡ false) (sym (eqb-true c.at at parts.1)) (eqb_flips at b.at ∙ other))

  free_beside_live : (p : Place) → Contains (live_in run) b → starts_at p.at b ≡ false →
      state_of (marks_in (Does (event.Free p) ∷ run)) byte ≡ state_of (marks_in run) byte
  free_beside_live p has other =
      marked_leaves freed_mark (filter (starts_at p.at) (live_in run)) (marks_in run) byte
      (λ c has_c. freed_leaves b c byte
      (elsewhere (live_in run) p.at (apart_left (live_in run) (held_in run) (apart_in run)) has other c has_c) in_span)

  free_beside_held : (p : Place) → Contains (held_in run) b →
      state_of (marks_in (Does (event.Free p) ∷ run)) byte ≡ state_of (marks_in run) byte
  free_beside_held p has =
      marked_leaves freed_mark (filter (starts_at p.at) (live_in run)) (marks_in run) byte
      (λ c has_c. freed_leaves b c byte
      (meets-flip b c ∙ apart_across (live_in run) (held_in run) c b (apart_in run)
      (from_filtered (starts_at p.at) (live_in run) c has_c).0 has) in_span)

  release_beside_live : (at : ℕ) → Contains (live_in run) b →
      state_of (marks_in (Releases at ∷ run)) byte ≡ state_of (marks_in run) byte
  release_beside_live at has =
      marked_leaves released_mark (filter (starts_at at) (held_in run)) (marks_in run) byte
      (λ c has_c. released_leaves b c byte
      (apart_across (live_in run) (held_in run) b c (apart_in run) has
      (from_filtered (starts_at at) (held_in run) c has_c).0) in_span)

  release_beside_held : (at : ℕ) → Contains (held_in run) b → starts_at at b ≡ false →
      state_of (marks_in (Releases at ∷ run)) byte ≡ state_of (marks_in run) byte
  release_beside_held at has other =
      marked_leaves released_mark (filter (starts_at at) (held_in run)) (marks_in run) byte
      (λ c has_c. released_leaves b c byte
      (elsewhere (held_in run) at (apart_right (live_in run) (held_in run) (apart_in run)) has other c has_c) in_span)

-- the mark of its malloc
laid : (run : List Step) (r : Region) (b : Extent) → block_of r ≡ b → admits_in run b ≡ true
    → marks_in (Does (event.Malloc r) ∷ run) ≡ Block b.at b.size ∷ marks_in run
laid run r b asked ok =
    rw (ap (admits_in run) asked ∙ ok) (ap (λ x. Block x.at x.size ∷ marks_in run) asked)

-- ---- a byte of a live block's span

pub live_span_in : (run : List Step) (b : Extent) (byte from to : ℕ) → Contains (live_in run) b → IsInSpan b byte
    → from ≤ byte → byte < to → NeitherShares (since_malloc_in run b) from to →
    state_of (marks_in run) byte ≡ cond (lies_in b.at (b.at + b.size) byte) Addressable HeapRedzone
live_span_in [] b byte from to has in_span above below clear = absurd (in_none b has)
live_span_in (Does (event.Free p) ∷ run) b byte from to has in_span above below clear =
    let parts = from_filtered (λ x. not (starts_at p.at x)) (live_in run) b has in
    free_beside_live run b byte in_span p parts.0 (not-true _ parts.1)
    ∙ live_span_in run b byte from to parts.0 in_span above below (NeitherShares-tail _ _ _ _ clear)
live_span_in (Does (event.Malloc r) ∷ run) b byte from to has in_span above below clear =
    elim (malloc_cases run b r has) [
      | inl (asked, ok, none) ↦ ap (λ ms. state_of ms byte) (laid run r b asked ok)
          ∙ own_byte b (marks_in run) byte in_span
      | inr (old, more) ↦
          beside_malloc run b byte in_span r (Contains-append_left (live_in run) (held_in run) b old)
          ∙ live_span_in run b byte from to old in_span above below
          (NeitherShares-tail (event.Malloc r) _ _ _ (rw more at clear))
    ]
live_span_in (Does e ∷ run) b byte from to has in_span above below clear =
    own_marks_leave e _ byte from to (marks_in run) above below clear
    ∙ live_span_in run b byte from to has in_span above below (NeitherShares-tail _ _ _ _ clear)
live_span_in (Releases at ∷ run) b byte from to has in_span above below clear =
    release_beside_live run b byte in_span at has ∙ live_span_in run b byte from to has in_span above below clear

-- ---- a byte of a held block

module _ (run : List Step) (b : Extent) (p : Place) (byte : ℕ) (has : Contains (live_in run) b)
    (here : starts_at p.at b ≡ true) where
  alone : filter (starts_at p.at) (live_in run) ≡ b ∷ []
  alone = starts_once (live_in run) b p.at (apart_left (live_in run) (held_in run) (apart_in run)) has
      (eqb-true b.at p.at here)

  -- the free itself
  own_free : b.at ≤ byte → byte < b.at + round_up b.size
      → state_of (marks_in (Does (event.Free p) ∷ run)) byte ≡ Freed
  own_free above below =
      let inside : lies_in b.at (b.at + round_up b.size) byte ≡ true = grind (arith, nat_tests) in
      rw (alone, inside) refl

  own_redzone : lies_in b.at (b.at + round_up b.size) byte ≡ false →
      state_of (marks_in (Does (event.Free p) ∷ run)) byte ≡ state_of (marks_in run) byte
  own_redzone outside = rw (alone, outside) refl

pub held_bytes_in : (run : List Step) (b : Extent) (byte from to : ℕ) → Contains (held_in run) b → b.at ≤ byte
    → byte < b.at + round_up b.size → from ≤ byte → byte < to → NeitherShares (since_free_in run b) from to →
    state_of (marks_in run) byte ≡ Freed
held_bytes_in [] b byte from to has first last above below clear = absurd (in_none b has)
held_bytes_in (Does (event.Malloc r) ∷ run) b byte from to has first last above below clear =
    beside_malloc run b byte (bytes_in_span b byte first last) r
    (Contains-append_right (live_in run) (held_in run) b has)
    ∙ held_bytes_in run b byte from to has first last above below (NeitherShares-tail _ _ _ _ clear)
held_bytes_in (Does (event.Free p) ∷ run) b byte from to has first last above below clear =
    elim (Contains-append_cases (held_in run) (filter (starts_at p.at) (live_in run)) b has) [
      | inl old ↦
          free_beside_held run b byte (bytes_in_span b byte first last) p old
          ∙ held_bytes_in run b byte from to old first last above below
          (NeitherShares-tail (event.Free p) _ _ _ (rw (not_its_free run b p old) at clear))
      | inr now ↦ let parts = from_filtered (starts_at p.at) (live_in run) b now in
          own_free run b p byte parts.0 parts.1 first last
    ]
held_bytes_in (Does e ∷ run) b byte from to has first last above below clear =
    own_marks_leave e _ byte from to (marks_in run) above below clear
    ∙ held_bytes_in run b byte from to has first last above below (NeitherShares-tail _ _ _ _ clear)
held_bytes_in (Releases at ∷ run) b byte from to has first last above below clear =
    let parts = from_filtered (λ x. not (starts_at at x)) (held_in run) b has in
    release_beside_held run b byte (bytes_in_span b byte first last) at parts.0 (not-true _ parts.1)
    ∙ held_bytes_in run b byte from to parts.0 first last above below clear

pub held_redzone_in : (run : List Step) (b : Extent) (byte from to : ℕ) → Contains (held_in run) b → IsInSpan b byte
    → lies_in b.at (b.at + round_up b.size) byte ≡ false → from ≤ byte → byte < to
    → NeitherShares (since_malloc_in run b) from to →
    state_of (marks_in run) byte ≡ HeapRedzone
held_redzone_in [] b byte from to has in_span outside above below clear = absurd (in_none b has)
held_redzone_in (Does (event.Malloc r) ∷ run) b byte from to has in_span outside above below clear =
    let taken = Contains-append_right (live_in run) (held_in run) b has in
    beside_malloc run b byte in_span r taken
    ∙ held_redzone_in run b byte from to has in_span outside above below
    (NeitherShares-tail (event.Malloc r) _ _ _ (rw (not_its_malloc run b r taken) at clear))
held_redzone_in (Does (event.Free p) ∷ run) b byte from to has in_span outside above below clear =
    elim (Contains-append_cases (held_in run) (filter (starts_at p.at) (live_in run)) b has) [
      | inl old ↦
          free_beside_held run b byte in_span p old
          ∙ held_redzone_in run b byte from to old in_span outside above below (NeitherShares-tail _ _ _ _ clear)
      | inr now ↦
          let parts = from_filtered (starts_at p.at) (live_in run) b now in
          let round = rounds_up b in
          let out : lies_in b.at (b.at + b.size) byte ≡ false = grind (arith, nat_tests) in
          own_redzone run b p byte parts.0 parts.1 outside
          ∙ live_span_in run b byte from to parts.0 in_span above below (NeitherShares-tail _ _ _ _ clear)
          ∙ rw out refl
    ]
held_redzone_in (Does e ∷ run) b byte from to has in_span outside above below clear =
    own_marks_leave e _ byte from to (marks_in run) above below clear
    ∙ held_redzone_in run b byte from to has in_span outside above below (NeitherShares-tail _ _ _ _ clear)
held_redzone_in (Releases at ∷ run) b byte from to has in_span outside above below clear =
    let parts = from_filtered (λ x. not (starts_at at x)) (held_in run) b has in
    release_beside_held run b byte in_span at parts.0 (not-true _ parts.1)
    ∙ held_redzone_in run b byte from to parts.0 in_span outside above below clear
