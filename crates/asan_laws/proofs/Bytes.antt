-- What the bytes of live and held blocks are, as long as no poison and no unpoison comes near them.
use Rattle.std.proofs.Common.{◌≡◌, ℕ, ◌+◌, ◌*◌, ◌/◌, ◌≤◌, ◌<◌, Bool, true, false, cond, eqb, List, [], ◌∷◌, ◌++◌}
use Rattle.std.proofs.Common.{refl, sym, ap, subst, ◌∙◌, arith, inl, inr}
use Rattle.std.specs.Prelude.{not, filter, Contains}
use Rattle.std.specs.List.{IsDistinct, list_any}
use Rattle.std.proofs.lemmas.Bool.{both_ways, not-true, and_right, false_from_ne_true, eqb-true, eq-eqb}
use Rattle.std.proofs.lemmas.Bool.Decides.{nat_tests}
use Rattle.std.proofs.lemmas.List.Elements.{Contains-append_left, Contains-append_right, Contains-append_cases}
use Rattle.trace_record.specs.declared.event.Event.{Event}
use Rattle.trace_record.specs.declared.event.Event.TheVariants as event
use Rattle.trace_record.specs.declared.event.Place.{Place}
use Rattle.trace_record.specs.declared.event.Region.{Region}
use Rattle.trace_record.specs.Shades.{shade_size}
use Rattle.shadow_map.specs.States.{Addressable, HeapRedzone, Mark, Block, lies_in, state_of}
use Rattle.heap_book.specs.Spans.{Extent, span_from, span_to, meets, starts_at}
use Rattle.asan_units.specs.Units.{round_up}
use Rattle.heap_book.proofs.NeverMeet.{meets-flip, unmet-admitted}
use Rattle.asan_check.specs.Codes.{Freed}
use Rattle.asan_check.specs.History.{block_of, live, held, admits, marks, with_marks, freed_mark, released_mark}
use Rattle.asan_check.specs.History.{released_from, own_marks}
use Rattle.asan_laws.specs.Laws.{asks_for, since_malloc, since_free, SharesGranule, NoPoisonShares}
use Rattle.asan_laws.specs.Laws.{NoUnpoisonShares}
use Rattle.asan_check.proofs.Steps.{eqb_flips, spans_apart, held_malloc}
use Rattle.asan_check.proofs.Members.{in_none, in_head, in_tail, from_filtered, passes_any, none_passes, apart_across}
use Rattle.asan_check.proofs.Members.{apart_left, apart_right, starts_once, meets_same}
use Rattle.asan_laws.proofs.Members.{apart_beside}
use Rattle.asan_laws.proofs.Frames.{IsInSpan, block_leaves, freed_leaves, released_leaves, marked_leaves}
use Rattle.asan_laws.proofs.Frames.{poison_leaves, unpoison_leaves, unpoison_keeps}
use Rattle.asan_laws.proofs.Histories.{live_malloc_cases, live_free_cases, held_free_cases}

-- ---- the marks of other blocks leave the bytes of a span

-- a malloc that is admitted beside the block
beside_malloc : (bound : ℕ) (past : List Event) (b : Extent) (r : Region) (byte : ℕ)
    → Contains (live bound past ++ held bound past) b → IsInSpan b byte →
    state_of (marks bound (event.Malloc r ∷ past)) byte ≡ state_of (marks bound past) byte
beside_malloc bound past b r byte has in_span = go (admits bound past (block_of r)) refl
  where
    go : (t : Bool) → admits bound past (block_of r) ≡ t
        → state_of (cond t (Block r.at r.size ∷ marks bound past) (marks bound past)) byte
        ≡ state_of (marks bound past) byte
    go false is = refl
    go true is =
        let taken = live bound past ++ held bound past in
        let apart = meets-flip b (block_of r) ∙ none_passes (meets (block_of r)) taken b
        (unmet-admitted taken (block_of r) is) has in
        block_leaves b (block_of r) byte apart in_span (marks bound past)

-- a free, where the block meets none of those that it frees and releases
beside_free : (bound : ℕ) (past : List Event) (b : Extent) (p : Place) (byte : ℕ) → IsInSpan b byte →
    ((c : Extent) → Contains (filter (starts_at p.at) (live bound past)) c → meets b c ≡ false) →
    ((c : Extent) → Contains (released_from (held bound past ++ filter (starts_at p.at) (live bound past))
    (held bound (event.Free p ∷ past))) c → meets b c ≡ false) →
    state_of (marks bound (event.Free p ∷ past)) byte ≡ state_of (marks bound past) byte
beside_free bound past b p byte in_span freed released =
    let freed_now = filter (starts_at p.at) (live bound past) in
    let now = held bound (event.Free p ∷ past) in
    marked_leaves released_mark (released_from (held bound past ++ freed_now) now)
    (with_marks freed_mark freed_now (marks bound past)) byte
    (λ c has. released_leaves b c byte (released c has) in_span)
    ∙ marked_leaves freed_mark freed_now (marks bound past) byte (λ c has. freed_leaves b c byte (freed c has) in_span)

-- a free of another block leaves a live one
beside_live : (bound : ℕ) (past : List Event) (b : Extent) (p : Place) (byte : ℕ) → Contains (live bound past) b
    → starts_at p.at b ≡ false → IsInSpan b byte →
    state_of (marks bound (event.Free p ∷ past)) byte ≡ state_of (marks bound past) byte
beside_live bound past b p byte has other in_span =
    beside_free bound past b p byte in_span freed (λ c has_c.
    elim (Contains-append_cases (held bound past) (filter (starts_at p.at) (live bound past)) c
    (from_filtered _ _ c has_c).0) [
      | inl old ↦ apart_across (live bound past) (held bound past) b c all has old
      | inr new ↦ freed c new
    ])
  where
    all : IsDistinct meets (live bound past ++ held bound past)
    all = spans_apart bound past

    freed : (c : Extent) → Contains (filter (starts_at p.at) (live bound past)) c → meets b c ≡ false
    freed c has_c =
        let parts = from_filtered (starts_at p.at) (live bound past) c has_c in
        apart_beside (live bound past) b c (apart_left (live bound past) (held bound past) all) has parts.0
        (subst (λ (at : ℕ). eqb at b.at ≡ false) (sym (eqb-true c.at p.at parts.1)) (eqb_flips p.at b.at ∙ other))

-- what is gone starts elsewhere than what is held
gone_elsewhere : (before now : List Extent) (b c : Extent) → Contains now b → Contains (released_from before now) c
    → starts_at b.at c ≡ false
gone_elsewhere before now b c has has_c =
    let parts = from_filtered (λ x. not (list_any (starts_at x.at) now)) before c has_c in
    false_from_ne_true _ (λ same.
    both_ways (list_any (starts_at c.at) now) (not-true _ parts.1)
    (passes_any (starts_at c.at) now b has (eq-eqb b.at c.at (sym (eqb-true c.at b.at same)))))

-- a free leaves a block that was held before it and is held after it
beside_held : (bound : ℕ) (past : List Event) (b : Extent) (p : Place) (byte : ℕ) → Contains (held bound past) b
    → Contains (held bound (event.Free p ∷ past)) b → IsInSpan b byte →
    state_of (marks bound (event.Free p ∷ past)) byte ≡ state_of (marks bound past) byte
beside_held bound past b p byte has stays in_span =
    beside_free bound past b p byte in_span freed (λ c has_c.
    elim (Contains-append_cases (held bound past) (filter (starts_at p.at) (live bound past)) c
    (from_filtered _ _ c has_c).0) [
      | inl old ↦ apart_beside (held bound past) b c (apart_right (live bound past) (held bound past) all) has old
          (gone_elsewhere _ (held bound (event.Free p ∷ past)) b c stays has_c)
      | inr new ↦ freed c new
    ])
  where
    all : IsDistinct meets (live bound past ++ held bound past)
    all = spans_apart bound past

    freed : (c : Extent) → Contains (filter (starts_at p.at) (live bound past)) c → meets b c ≡ false
    freed c has_c = meets-flip b c ∙ apart_across (live bound past) (held bound past) c b all
        (from_filtered (starts_at p.at) (live bound past) c has_c).0 has

-- ---- poisons and unpoisons that come near no byte of a range

-- no poison and no unpoison among these events shares a granule with the bytes from an address up to another
abbrev pub NeitherShares : List Event → ℕ → ℕ → Type 0
NeitherShares events from to = NoPoisonShares events from to × NoUnpoisonShares events from to

-- what shares a granule with the granule of a byte shares it with the byte
in_its_granule : (at from size : ℕ) → SharesGranule from size (8 * (at / 8)) (8 * (at / 8) + 8)
    → SharesGranule from size at (at + 1)
in_its_granule at from size shares =
    let low = shares.in_range.0 in
    let high = shares.in_range.1 in
    let same = shares.one_granule in
    record {
      own = shares.own;
      other = at;
      in_region = shares.in_region;
      in_range = (omega arith, omega arith);
      one_granule = omega arith;
    }

pub no_poison_there : (events : List Event) (at : ℕ) → NoPoisonShares events at (at + 1)
    → NoPoisonShares events (8 * (at / 8)) (8 * (at / 8) + 8)
no_poison_there events at clear s has shares = clear s has (in_its_granule at s.at (shade_size s) shares)

pub neither_there : (events : List Event) (at : ℕ) → NoPoisonShares events at (at + 1)
    → NoUnpoisonShares events at (at + 1) → NeitherShares events (8 * (at / 8)) (8 * (at / 8) + 8)
neither_there events at clear clear' =
    (no_poison_there events at clear, λ r has shares. clear' r has (in_its_granule at r.at r.size shares))

-- the marks that an event is itself leave a byte that no poison and no unpoison comes near
pub own_marks_leave : (e : Event) (since : List Event) (byte from to : ℕ) (ms : List Mark) → from ≤ byte → byte < to
    → NeitherShares (e ∷ since) from to → state_of (own_marks e ++ ms) byte ≡ state_of ms byte
own_marks_leave (event.Poison s) since byte from to ms above below clear =
    poison_leaves s.at (shade_size s) from to byte (clear.0 s (in_head _ _)) above below _ ms
own_marks_leave (event.Unpoison r) since byte from to ms above below clear =
    unpoison_leaves r.at r.size from to byte (clear.1 r (in_head _ _)) above below ms
own_marks_leave e since byte from to ms above below clear = refl

NoPoisonShares-tail : (e : Event) (since : List Event) (from to : ℕ) → NoPoisonShares (e ∷ since) from to
    → NoPoisonShares since from to
NoPoisonShares-tail e since from to clear r has = clear r (in_tail _ e since has)

pub NeitherShares-tail : (e : Event) (since : List Event) (from to : ℕ) → NeitherShares (e ∷ since) from to
    → NeitherShares since from to
NeitherShares-tail e since from to clear =
    (NoPoisonShares-tail e since from to clear.0, λ r has. clear.1 r (in_tail _ e since has))

-- ---- inside a live block, which no poison came near

pub bytes_in_span : (b : Extent) (byte : ℕ) → b.at ≤ byte → byte < b.at + round_up b.size → IsInSpan b byte
bytes_in_span b byte above below = record { from = omega arith; to = omega arith }

pub rounds_up : (b : Extent) → b.size ≤ round_up b.size
rounds_up b = omega arith

-- an admitted malloc's own bytes
pub own_byte : (b : Extent) (ms : List Mark) (byte : ℕ) → IsInSpan b byte
    → state_of (Block b.at b.size ∷ ms) byte ≡ cond (lies_in b.at (b.at + b.size) byte) Addressable HeapRedzone
own_byte b ms byte in_span =
    let inside : lies_in (span_from b) (span_to b) byte ≡ true = let from = in_span.from in let to = in_span.to in
    grind (arith, nat_tests) in
    rw inside refl

-- the mark of its malloc
laid : (bound : ℕ) (past : List Event) (r : Region) (b : Extent) → block_of r ≡ b → admits bound past b ≡ true
    → marks bound (event.Malloc r ∷ past) ≡ Block b.at b.size ∷ marks bound past
laid bound past r b asked ok =
    rw (ap (admits bound past) asked ∙ ok) (ap (λ x. Block x.at x.size ∷ marks bound past) asked)

pub live_inside : (bound : ℕ) (past : List Event) (b : Extent) (byte from to : ℕ) → Contains (live bound past) b
    → b.at ≤ byte → byte < b.at + b.size → (from ≤ byte) × (byte < to) →
    NoPoisonShares (since_malloc bound past b) from to → state_of (marks bound past) byte ≡ Addressable
live_inside bound [] b byte from to has above below near clear = absurd (in_none b has)
live_inside bound (event.Poison s ∷ past) b byte from to has above below near clear =
    poison_leaves s.at (shade_size s) from to byte (clear s (in_head _ _)) near.0 near.1 _ (marks bound past)
    ∙ live_inside bound past b byte from to has above below near (NoPoisonShares-tail _ _ _ _ clear)
live_inside bound (event.Unpoison r ∷ past) b byte from to has above below near clear =
    unpoison_keeps r byte (marks bound past) (live_inside bound past b byte from to has above below near
    (NoPoisonShares-tail _ _ _ _ clear))
live_inside bound (event.Free p ∷ past) b byte from to has above below near clear =
    let parts = live_free_cases bound past b p has in
    let round = rounds_up b in
    beside_live bound past b p byte parts.0 parts.1 (bytes_in_span b byte above (omega arith))
    ∙ live_inside bound past b byte from to parts.0 above below near (NoPoisonShares-tail _ _ _ _ clear)
live_inside bound (event.Malloc r ∷ past) b byte from to has above below near clear =
    let round = rounds_up b in
    let in_span = bytes_in_span b byte above (omega arith) in
    elim (live_malloc_cases bound past b r has) [
      | inl (asked, ok, none) ↦
          let inside : lies_in b.at (b.at + b.size) byte ≡ true = grind (arith, nat_tests) in
          ap (λ ms. state_of ms byte) (laid bound past r b asked ok) ∙ own_byte b (marks bound past) byte in_span
          ∙ rw inside refl
      | inr (old, more) ↦
          beside_malloc bound past b r byte (Contains-append_left (live bound past) (held bound past) b old) in_span
          ∙ live_inside bound past b byte from to old above below near
          (NoPoisonShares-tail (event.Malloc r) _ _ _ (rw more at clear))
    ]
live_inside bound (e ∷ past) b byte from to has above below near clear =
    live_inside bound past b byte from to has above below near (NoPoisonShares-tail _ _ _ _ clear)

-- ---- a byte of a live block's span, where no poison and no unpoison came near a range around it

pub live_span : (bound : ℕ) (past : List Event) (b : Extent) (byte from to : ℕ) → Contains (live bound past) b
    → IsInSpan b byte → from ≤ byte → byte < to → NeitherShares (since_malloc bound past b) from to →
    state_of (marks bound past) byte ≡ cond (lies_in b.at (b.at + b.size) byte) Addressable HeapRedzone
live_span bound [] b byte from to has in_span above below clear = absurd (in_none b has)
live_span bound (event.Free p ∷ past) b byte from to has in_span above below clear =
    let parts = live_free_cases bound past b p has in
    beside_live bound past b p byte parts.0 parts.1 in_span
    ∙ live_span bound past b byte from to parts.0 in_span above below (NeitherShares-tail _ _ _ _ clear)
live_span bound (event.Malloc r ∷ past) b byte from to has in_span above below clear =
    elim (live_malloc_cases bound past b r has) [
      | inl (asked, ok, none) ↦ ap (λ ms. state_of ms byte) (laid bound past r b asked ok)
          ∙ own_byte b (marks bound past) byte in_span
      | inr (old, more) ↦
          beside_malloc bound past b r byte (Contains-append_left (live bound past) (held bound past) b old) in_span
          ∙ live_span bound past b byte from to old in_span above below
          (NeitherShares-tail (event.Malloc r) _ _ _ (rw more at clear))
    ]
live_span bound (e ∷ past) b byte from to has in_span above below clear =
    own_marks_leave e _ byte from to (marks bound past) above below clear
    ∙ live_span bound past b byte from to has in_span above below (NeitherShares-tail _ _ _ _ clear)

-- ---- a byte of a held block, where no poison and no unpoison came near a range around it

-- the free itself
freed_byte : (bound : ℕ) (past : List Event) (b : Extent) (p : Place) (byte : ℕ) → Contains (live bound past) b
    → starts_at p.at b ≡ true → Contains (held bound (event.Free p ∷ past)) b →
    b.at ≤ byte → byte < b.at + round_up b.size → state_of (marks bound (event.Free p ∷ past)) byte ≡ Freed
freed_byte bound past b p byte has here stays above below =
    let freed_now = filter (starts_at p.at) (live bound past) in
    let now = held bound (event.Free p ∷ past) in
    let all = spans_apart bound past in
    let alone : freed_now ≡ b ∷ [] = starts_once (live bound past) b p.at
    (apart_left (live bound past) (held bound past) all) has (eqb-true b.at p.at here) in
    let inside : lies_in b.at (b.at + round_up b.size) byte ≡ true = grind (arith, nat_tests) in
    let freed : state_of (with_marks freed_mark freed_now (marks bound past)) byte ≡ Freed = rw (alone, inside) refl in
    marked_leaves released_mark (released_from (held bound past ++ freed_now) now)
    (with_marks freed_mark freed_now (marks bound past)) byte
    (λ c has_c. released_leaves b c byte
    (elim (Contains-append_cases (held bound past) freed_now c (from_filtered _ _ c has_c).0) [
      | inl old ↦ apart_across (live bound past) (held bound past) b c all has old
      | inr new ↦ apart_beside (live bound past) b c (apart_left (live bound past) (held bound past) all) has
          (from_filtered (starts_at p.at) (live bound past) c new).0 (gone_elsewhere _ now b c stays has_c)
    ])
    (bytes_in_span b byte above below))
    ∙ freed

pub held_bytes : (bound : ℕ) (past : List Event) (b : Extent) (byte from to : ℕ) → Contains (held bound past) b
    → b.at ≤ byte → byte < b.at + round_up b.size → from ≤ byte → byte < to
    → NeitherShares (since_free bound past b) from to →
    state_of (marks bound past) byte ≡ Freed
held_bytes bound [] b byte from to has first last above below clear = absurd (in_none b has)
held_bytes bound (event.Malloc r ∷ past) b byte from to has first last above below clear =
    let old = rw (held_malloc bound r past) at has in
    beside_malloc bound past b r byte (Contains-append_right (live bound past) (held bound past) b old)
    (bytes_in_span b byte first last)
    ∙ held_bytes bound past b byte from to old first last above below (NeitherShares-tail _ _ _ _ clear)
held_bytes bound (event.Free p ∷ past) b byte from to has first last above below clear =
    elim (held_free_cases bound past b p has) [
      | inl (was_live, here, none) ↦ freed_byte bound past b p byte was_live here has first last
      | inr (old, more) ↦
          beside_held bound past b p byte old has (bytes_in_span b byte first last)
          ∙ held_bytes bound past b byte from to old first last above below
          (NeitherShares-tail (event.Free p) _ _ _ (rw more at clear))
    ]
held_bytes bound (e ∷ past) b byte from to has first last above below clear =
    own_marks_leave e _ byte from to (marks bound past) above below clear
    ∙ held_bytes bound past b byte from to has first last above below (NeitherShares-tail _ _ _ _ clear)

-- ---- a byte of a held block's redzones, where none came near a range around it since its malloc

-- a held block is not admitted again
held_not_admitted : (bound : ℕ) (past : List Event) (b : Extent) → Contains (held bound past) b
    → admits bound past b ≡ false
held_not_admitted bound past b has =
    let taken = live bound past ++ held bound past in
    false_from_ne_true _ (λ ok. both_ways (meets b b)
    (none_passes (meets b) taken b (unmet-admitted taken b ok)
    (Contains-append_right (live bound past) (held bound past) b has))
    (meets_same b b refl))

-- its free leaves its redzones
own_redzone : (bound : ℕ) (past : List Event) (b : Extent) (p : Place) (byte : ℕ) → Contains (live bound past) b
    → starts_at p.at b ≡ true → Contains (held bound (event.Free p ∷ past)) b → IsInSpan b byte
    → lies_in b.at (b.at + round_up b.size) byte ≡ false →
    state_of (marks bound (event.Free p ∷ past)) byte ≡ state_of (marks bound past) byte
own_redzone bound past b p byte has here stays in_span outside =
    let freed_now = filter (starts_at p.at) (live bound past) in
    let now = held bound (event.Free p ∷ past) in
    let all = spans_apart bound past in
    let alone : freed_now ≡ b ∷ [] = starts_once (live bound past) b p.at
    (apart_left (live bound past) (held bound past) all) has (eqb-true b.at p.at here) in
    let left : state_of (with_marks freed_mark freed_now (marks bound past)) byte ≡ state_of (marks bound past) byte =
    rw (alone, outside) refl in
    marked_leaves released_mark (released_from (held bound past ++ freed_now) now)
    (with_marks freed_mark freed_now (marks bound past)) byte
    (λ c has_c. released_leaves b c byte
    (elim (Contains-append_cases (held bound past) freed_now c (from_filtered _ _ c has_c).0) [
      | inl old ↦ apart_across (live bound past) (held bound past) b c all has old
      | inr new ↦ apart_beside (live bound past) b c (apart_left (live bound past) (held bound past) all) has
          (from_filtered (starts_at p.at) (live bound past) c new).0 (gone_elsewhere _ now b c stays has_c)
    ]) in_span)
    ∙ left

pub held_redzone : (bound : ℕ) (past : List Event) (b : Extent) (byte from to : ℕ) → Contains (held bound past) b
    → IsInSpan b byte → lies_in b.at (b.at + round_up b.size) byte ≡ false → from ≤ byte → byte < to
    → NeitherShares (since_malloc bound past b) from to →
    state_of (marks bound past) byte ≡ HeapRedzone
held_redzone bound [] b byte from to has in_span outside above below clear = absurd (in_none b has)
held_redzone bound (event.Malloc r ∷ past) b byte from to has in_span outside above below clear =
    let old = rw (held_malloc bound r past) at has in
    let more : since_malloc bound (event.Malloc r ∷ past) b ≡ event.Malloc r ∷ since_malloc bound past b =
    rw (and_right (asks_for b r) (admits bound past b) (held_not_admitted bound past b old)) refl in
    beside_malloc bound past b r byte (Contains-append_right (live bound past) (held bound past) b old) in_span
    ∙ held_redzone bound past b byte from to old in_span outside above below
    (NeitherShares-tail (event.Malloc r) _ _ _ (rw more at clear))
held_redzone bound (event.Free p ∷ past) b byte from to has in_span outside above below clear =
    elim (held_free_cases bound past b p has) [
      | inl (was_live, here, none) ↦
          let round = rounds_up b in
          let out : lies_in b.at (b.at + b.size) byte ≡ false = grind (arith, nat_tests) in
          own_redzone bound past b p byte was_live here has in_span outside
          ∙ live_span bound past b byte from to was_live in_span above below (NeitherShares-tail _ _ _ _ clear)
          ∙ rw out refl
      | inr (old, more) ↦
          beside_held bound past b p byte old has in_span
          ∙ held_redzone bound past b byte from to old in_span outside above below
          (NeitherShares-tail _ _ _ _ clear)
    ]
held_redzone bound (e ∷ past) b byte from to has in_span outside above below clear =
    own_marks_leave e _ byte from to (marks bound past) above below clear
    ∙ held_redzone bound past b byte from to has in_span outside above below (NeitherShares-tail _ _ _ _ clear)
