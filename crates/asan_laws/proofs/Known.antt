-- Which shadow bytes there are after a run.
use Rattle.std.proofs.Common.{◌≡◌, ℕ, ◌+◌, ◌-◌, ◌*◌, ◌<◌, ◌≤◌, ◌^◌, Bool, true, false, cond, eqb, leb, ltb}
use Rattle.std.proofs.Common.{List, [], ◌∷◌, ◌++◌, Some, None, refl, sym, subst, arith, inl, inr}
use Rattle.std.specs.Prelude.{Contains, filter, not, unwrap_or}
use Rattle.std.proofs.lemmas.Bool.{cases_Bool, both_ways, leb-true, ltb-true, and_parts, not_from_false}
use Rattle.std.proofs.lemmas.Bool.Decides.{nat_tests}
use Rattle.std.proofs.lemmas.List.Elements.{Contains-append_left, Contains-append_right}
use Rattle.trace_record.specs.declared.event.Event.TheVariants as event
use Rattle.trace_record.specs.declared.shade.Kind.{Kind}
use Rattle.trace_record.specs.Shades.{shade_size, shade_kind}
use Rattle.shadow_map.specs.States.{State, Addressable, Coded, HeapRedzone, Mark, Block, code_of, lies_in, state_of}
use Rattle.shadow_map.specs.States.{granule_lies_in, shadow_byte}
use Rattle.shadow_map.proofs.Bytes.{lift_is}
use Rattle.shadow_map.proofs.Fronts.{front_of_marks}
use Rattle.heap_book.specs.Spans.{Extent, span_from, span_to, starts_at}
use Rattle.asan_units.specs.Units.{redzone, round_up}
use Rattle.asan_check.specs.Codes.{Freed, code_of_kind}
use Rattle.asan_check.specs.History.{block_of, with_marks, freed_mark, released_mark}
use Rattle.asan_check.proofs.Members.{in_head, in_tail, cons_cases}
use Rattle.asan_laws.specs.Runs.{Step, Does, Releases, live_in, held_in, admits_in, marks_in, shadow_in}
use Rattle.asan_laws.specs.LeanRecording.{EachHeldFits}
use Rattle.asan_laws.proofs.Members.{filtered}
use Rattle.asan_laws.proofs.RunBlocks.{are_marks_in, held_placed_in}

-- ---- states

-- what a byte may be, if these blocks are held: freed memory only in the bytes of one of them
data IsKnown (helds : List Extent) (byte : ℕ) : State → Type 0 where
  known_addressable : IsKnown helds byte Addressable
  known_redzone : IsKnown helds byte HeapRedzone
  known_poison : (k : Kind) → IsKnown helds byte (Coded (code_of_kind k))
  known_freed : (b : Extent) → Contains helds b → b.at ≤ byte → byte < b.at + round_up b.size
      → IsKnown helds byte Freed

-- the same if more are held, and if some are not that do not have it
known_more : (helds others : List Extent) (byte : ℕ) (state : State)
    → ((b : Extent) → Contains helds b → b.at ≤ byte → byte < b.at + round_up b.size → Contains others b)
    → IsKnown helds byte state → IsKnown others byte state
known_more helds others byte state all known_addressable = known_addressable
known_more helds others byte state all known_redzone = known_redzone
known_more helds others byte state all (known_poison k) = known_poison k
known_more helds others byte state all (known_freed b has above below) =
    known_freed b (all b has above below) above below

-- a state that a mark may give
given_or : (helds : List Extent) (byte : ℕ) (covered : Bool) (new old : State) → IsKnown helds byte new
    → IsKnown helds byte old → IsKnown helds byte (unwrap_or (cond covered (Some new) None) old)
given_or helds byte true new old known before = known
given_or helds byte false new old known before = before

given_or_cut : (helds : List Extent) (byte : ℕ) (whole cut : Bool) (new old : State) → IsKnown helds byte new
    → IsKnown helds byte old
    → IsKnown helds byte (unwrap_or (cond whole (Some new) (cond cut (Some new) None)) old)
given_or_cut helds byte true cut new old known before = known
given_or_cut helds byte false true new old known before = known
given_or_cut helds byte false false new old known before = before

in_or_around : (helds : List Extent) (byte : ℕ) (inside : Bool)
    → IsKnown helds byte (cond inside Addressable HeapRedzone)
in_or_around helds byte true = known_addressable
in_or_around helds byte false = known_redzone

-- ---- frees

known_freed_each : (helds freed_now : List Extent) (byte : ℕ) (ms : List Mark)
    → ((b : Extent) → Contains freed_now b → Contains helds b) → IsKnown helds byte (state_of ms byte)
    → IsKnown helds byte (state_of (with_marks freed_mark freed_now ms) byte)
known_freed_each helds [] byte ms all before = before
known_freed_each helds (b ∷ bs) byte ms all before =
    known_freed_each helds bs byte (freed_mark b ∷ ms) (λ c has. all c (in_tail c b bs has))
    (go (lies_in b.at (b.at + round_up b.size) byte) refl)
  where
    go : (t : Bool) → lies_in b.at (b.at + round_up b.size) byte ≡ t
        → IsKnown helds byte (state_of (freed_mark b ∷ ms) byte)
    go false is = rw is before
    go true is =
        let tests = and_parts (leb b.at byte) (ltb byte (b.at + round_up b.size)) is in
        rw is (known_freed b (all b (in_head b bs)) (leb-true _ _ tests.0) (ltb-true _ _ tests.1))

-- ---- releases

-- a byte that is known if the blocks that are still to be released are held too
known_released_each : (helds gone : List Extent) (byte : ℕ) (ms : List Mark)
    → IsKnown (gone ++ helds) byte (state_of ms byte)
    → IsKnown helds byte (state_of (with_marks released_mark gone ms) byte)
known_released_each helds [] byte ms before = before
known_released_each helds (c ∷ gone) byte ms before =
    known_released_each helds gone byte (released_mark c ∷ ms)
    (go (lies_in (span_from c) (span_to c) byte) refl)
  where
    others : lies_in (span_from c) (span_to c) byte ≡ false → (b : Extent) → Contains (c ∷ (gone ++ helds)) b
        → b.at ≤ byte → byte < b.at + round_up b.size → Contains (gone ++ helds) b
    others off b has above below =
        elim (cons_cases b c (gone ++ helds) has) [
          | inl same ↦
              let within : lies_in (span_from b) (span_to b) byte ≡ true = grind (arith, nat_tests) in
              absurd (both_ways _ (subst (λ x. lies_in (span_from x) (span_to x) byte ≡ false) same off) within)
          | inr more ↦ more
        ]

    go : (t : Bool) → lies_in (span_from c) (span_to c) byte ≡ t
        → IsKnown (gone ++ helds) byte (state_of (released_mark c ∷ ms) byte)
    go true is = rw is known_redzone
    go false is = rw is (known_more (c ∷ (gone ++ helds)) (gone ++ helds) byte (state_of ms byte) (others is) before)

-- a held block is released, or it stays
parted : (at : ℕ) (bs : List Extent) (b : Extent) → Contains bs b
    → Contains (filter (starts_at at) bs ++ filter (λ x. not (starts_at at x)) bs) b
parted at bs b has =
    elim (cases_Bool (starts_at at b)) [
      | inl here ↦ Contains-append_left (filter (starts_at at) bs) (filter (λ x. not (starts_at at x)) bs) b
          (filtered (starts_at at) bs b has here)
      | inr off ↦ Contains-append_right (filter (starts_at at) bs) (filter (λ x. not (starts_at at x)) bs) b
          (filtered (λ x. not (starts_at at x)) bs b has (not_from_false _ off))
    ]

-- ---- the states of a run

known : (run : List Step) (byte : ℕ) → IsKnown (held_in run) byte (state_of (marks_in run) byte)
known [] byte = known_addressable
known (Does (event.Poison s) ∷ run) byte =
    given_or_cut (held_in run) byte (granule_lies_in s.at (s.at + shade_size s) byte) _ _ (state_of (marks_in run) byte)
    (known_poison (shade_kind s)) (known run byte)
known (Does (event.Unpoison r) ∷ run) byte =
    given_or (held_in run) byte _ Addressable (state_of (marks_in run) byte) known_addressable (known run byte)
known (Does (event.Free p) ∷ run) byte =
    let freed_now = filter (starts_at p.at) (live_in run) in
    known_freed_each (held_in run ++ freed_now) freed_now byte (marks_in run)
    (λ b has. Contains-append_right (held_in run) freed_now b has)
    (known_more (held_in run) (held_in run ++ freed_now) byte (state_of (marks_in run) byte)
    (λ b has above below. Contains-append_left (held_in run) freed_now b has) (known run byte))
known (Does (event.Malloc r) ∷ run) byte = go (admits_in run (block_of r)) (known run byte)
  where
    go : (t : Bool) → IsKnown (held_in run) byte (state_of (marks_in run) byte)
        → IsKnown (held_in run) byte (state_of (cond t (Block r.at r.size ∷ marks_in run) (marks_in run)) byte)
    go false before = before
    go true before = given_or (held_in run) byte (lies_in (r.at - redzone) (r.at + round_up r.size + redzone) byte) _
        (state_of (marks_in run) byte) (in_or_around (held_in run) byte (lies_in r.at (r.at + r.size) byte)) before
known (Does e ∷ run) byte = known run byte
known (Releases at ∷ run) byte =
    let gone = filter (starts_at at) (held_in run) in
    let stays = filter (λ x. not (starts_at at x)) (held_in run) in
    known_released_each stays gone byte (marks_in run)
    (known_more (held_in run) (gone ++ stays) byte (state_of (marks_in run) byte)
    (λ b has above below. parted at (held_in run) b has) (known run byte))

-- ---- shadow bytes

-- the shadow byte of a granule after a run whose held blocks fit: 0, or how many of its bytes are addressable, or a
-- code; freed memory only if a block of 8 bytes could be held there
pub data IsGiven (bound granule : ℕ) : ℕ → Type 0 where
  given_count : (count : ℕ) → count < 8 → IsGiven bound granule count
  given_redzone : IsGiven bound granule (code_of HeapRedzone)
  given_poison : (k : Kind) → IsGiven bound granule (code_of_kind k)
  given_freed : 72 ≤ bound → 32 ≤ 8 * granule → 8 * granule + 40 ≤ 2 ^ 47 → IsGiven bound granule (code_of Freed)

module _ (bound : ℕ) (run : List Step) (fits : EachHeldFits bound run) where
  by_code : (granule : ℕ) (state : State) → IsKnown (held_in run) (8 * granule) state
      → IsGiven bound granule (code_of state)
  by_code granule state known_addressable = given_count 0 (omega arith)
  by_code granule state known_redzone = given_redzone
  by_code granule state (known_poison k) = given_poison k
  by_code granule state (known_freed b has above below) =
      let room = fits b has in
      let placed = held_placed_in run b has in
      let start = placed.0 in
      let low = placed.1 in
      let high = placed.2 in
      given_freed (omega arith) (omega arith) (omega arith)

  by_front : (granule front : ℕ) (state : State) → front ≤ 8 → IsKnown (held_in run) (8 * granule) state
      → IsGiven bound granule (shadow_byte front state)
  by_front granule front state most is = go (eqb front 8) (eqb front 0) refl
    where
      go : (whole none : Bool) → eqb front 8 ≡ whole
          → IsGiven bound granule (cond whole 0 (cond none (code_of state) front))
      go true none same = given_count 0 (omega arith)
      go false true same = by_code granule state is
      go false false same = given_count front (let less : front < 8 = grind (arith, nat_tests) in less)

  pub given : (granule : ℕ) → IsGiven bound granule (shadow_in run granule)
  given granule =
      let front = front_of_marks (marks_in run) (are_marks_in run) granule in
      subst (IsGiven bound granule) (sym (lift_is (state_of (marks_in run)) granule front.0 front.1))
      (by_front granule front.0 (state_of (marks_in run) (8 * granule)) front.1.most (known run (8 * granule)))
