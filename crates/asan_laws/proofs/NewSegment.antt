-- In a new segment each load, store, malloc and free can be recorded: what it looks at can be stated.
use Rattle.std.proofs.Common.{◌≡◌, ℕ, zero, suc, ◌+◌, ◌-◌, ◌*◌, ◌/◌, ◌%◌, ◌^◌, ◌<◌, ◌≤◌, true, false, cond, leb, ltb}
use Rattle.std.proofs.Common.{Bool, List, [], ◌∷◌, ◌++◌, length, refl, sym, ap, subst, ◌∙◌, arith, inl, inr}
use Rattle.std.specs.Prelude.{◌||◌, min, not, filter, Contains, IsTrue}
use Rattle.std.specs.List.{IsDistinct, list_any}
use Rattle.std.proofs.lemmas.Bool.{cases_Bool, cases_lt, and_right, false≢true, eq-eqb}
use Rattle.std.proofs.lemmas.Bool.Decides.{nat_tests}
use Rattle.std.proofs.lemmas.List.Elements.{Contains-append_cases, Contains-push_cases}
use Rattle.std.proofs.lemmas.Map.Keys.{IsDistinct-cons}
use Rattle.trace_record.specs.declared.event.Event.{Event}
use Rattle.trace_record.specs.declared.event.Event.TheVariants as event
use Rattle.trace_record.specs.declared.event.Access.{Access}
use Rattle.trace_record.specs.declared.event.Place.{Place}
use Rattle.trace_record.specs.declared.event.Region.{Region}
use Rattle.trace_record.specs.declared.shade.Kind.{Kind}
use Rattle.trace_record.specs.declared.shade.Kind.TheVariants as kind
use Rattle.trace_record.specs.declared.shade.Shade.{Shade}
use Rattle.trace_record.specs.Shades.{shade_size, shade_kind}
use Rattle.shadow_map.specs.States.{HeapRedzone, code_of, lies_in, state_of}
use Rattle.shadow_map.specs.Checks.{is_negative}
use Rattle.shadow_map.specs.Causes.{deciding_granule}
use Rattle.shadow_map.specs.Granules.{block_byte, poisoned_byte}
use Rattle.shadow_map.proofs.Ends.{lift_past_the_end}
use Rattle.shadow_map.proofs.Queries.{deciding_shown}
use Rattle.heap_book.specs.Spans.{Extent, IsPlaced, span_bytes, meets, starts_at}
use Rattle.heap_book.proofs.Held.{held-within}
use Rattle.heap_book.proofs.NeverMeet.{may_be_admitted-true}
use Rattle.asan_units.specs.Units.{is_width}
use Rattle.asan_check.specs.Codes.{Freed, code_of_kind}
use Rattle.asan_check.specs.History.{block_of, live, held, admits}
use Rattle.asan_check.proofs.Frees as frees
use Rattle.asan_check.proofs.Members.{in_none, in_head, cons_cases, passes_any, from_filtered}
use Rattle.asan_check.proofs.Steps.{live_malloc, none_apart}
use Rattle.asan_laws.specs.Laws.{access_event}
use Rattle.asan_laws.specs.Recording.{Detail, shadow_bytes, FindAllBytes, is_of_block}
use Rattle.asan_check.specs.Verdicts.{is_access}
use Rattle.asan_laws.specs.Snapshots.{lays_none, lays_live, lays_held}
use Rattle.asan_laws.specs.LeanRecording.{RecordsLeanly, begins, block, access, states_block, states, shadow_after}
use Rattle.asan_laws.specs.LeanRecording.{lean_numbers, HaveSameStart, EachHeldFits}
use Rattle.asan_laws.specs.Runs.{Step, Does, Releases, events_of, live_in, held_in, admits_in, marks_in, shadow_in}
use Rattle.asan_laws.proofs.Known.{IsGiven, given_count, given_redzone, given_poison, given_freed, given}
use Rattle.asan_laws.proofs.Members.{any_passes}
use Rattle.asan_laws.proofs.RunBlocks.{live_malloc_in, live_refused_in, live_placed_in, held_placed_in, are_marks_in}
use Rattle.asan_laws.proofs.Snapshots.{stands}
use Rattle.asan_laws.proofs.Shown.{shadow_malloc, shadow_free, shadow_shade, poison_whole, poison_part, unpoison_whole}

-- some events that may be put in since nothing was recorded, after which a granule has a shadow byte
record CanBeStated (bound : ℕ) (run : List Step) (granule shadow : ℕ) : Type 0 where
  stated : List Event
  way : RecordsLeanly bound [] run stated run
  none : lean_numbers way ≡ []
  is : shadow_after bound stated granule ≡ shadow

-- ---- regions and shades of a granule

abbrev a_region : (at size : ℕ) → size ≤ 2 ^ 32 → at + size ≤ 2 ^ 47 → Region
a_region at size small within = record { at = at; size = size; small = small; in_range = within }

-- the bytes of a granule that come after the first ones, as poison of the user
abbrev a_tail : (granule count : ℕ) → count < 8 → granule < 2 ^ 44 → Shade
a_tail granule count less within = record {
  at = 8 * granule + count;
  size_and_kind = (8 - count) * 4;
  known_kind = omega arith;
  small = omega arith;
  in_range = omega arith;
}

tail_size : (count : ℕ) → (8 - count) * 4 / 4 ≡ 8 - count
tail_size count = omega arith

abbrev a_whole : (granule number : ℕ) → number < 3 → granule < 2 ^ 44 → Shade
a_whole granule number less within = record {
  at = 8 * granule;
  size_and_kind = 32 + number;
  known_kind = omega arith;
  small = omega arith;
  in_range = omega arith;
}

-- ---- one granule

-- a place for a block of no bytes whose redzones have a granule
record HasSpot (granule at : ℕ) : Type 0 where
  aligned : at % 8 ≡ 0
  low : 32 ≤ at
  high : at + 32 ≤ 2 ^ 47
  from : at ≤ 8 * granule + 32
  to : 8 * granule < at + 32

spot : (granule : ℕ) → granule < 2 ^ 44 → (at : ℕ) × HasSpot granule at
spot granule within =
    elim (cases_lt (8 * granule) 32) [
      | inl near ↦ (
        32,
        record {
          aligned = omega arith;
          low = omega arith;
          high = omega arith;
          from = omega arith;
          to = omega arith;
        },
      )
      | inr past ↦ elim (cases_lt (2 ^ 47) (8 * granule + 32)) [
        | inl far ↦ (
          8 * granule - 24,
          record {
            aligned = omega arith;
            low = omega arith;
            high = omega arith;
            from = omega arith;
            to = omega arith;
          },
        )
        | inr room ↦ (
          8 * granule,
          record {
            aligned = omega arith;
            low = omega arith;
            high = omega arith;
            from = omega arith;
            to = omega arith;
          },
        )
      ]
    ]

redzone_number : (at granule : ℕ) → HasSpot granule at → block_byte at 0 granule 0 ≡ code_of HeapRedzone
redzone_number at granule s =
    let aligned = s.aligned in
    let low = s.low in
    let from = s.from in
    let to = s.to in
    let first : (leb (at / 8 - 4) granule) ≡ true = grind (arith, nat_tests) in
    let last : (ltb granule (at / 8 + 0 + 4)) ≡ true = grind (arith, nat_tests) in
    rw (first, last) (grind (arith, nat_tests))

module _ (bound : ℕ) (run : List Step) (granule : ℕ) (within : granule < 2 ^ 44) where
  by_nothing : CanBeStated bound run granule 0
  by_nothing = record { stated = []; way = begins; none = refl; is = refl }

  by_tail : (count : ℕ) → 0 < count → count < 8 → CanBeStated bound run granule count
  by_tail count some less =
      let s = a_tail granule count less within in
      let size = tail_size count in
      record {
        stated = event.Poison s ∷ [];
        way = states (event.Poison s) [] run refl begins;
        none = refl;
        is = poison_part bound [] s granule count some refl (omega arith) less;
      }

  by_whole : (s : Shade) → s.at ≡ 8 * granule → shade_size s ≡ 8
      → CanBeStated bound run granule (code_of_kind (shade_kind s))
  by_whole s here size = record {
    stated = event.Poison s ∷ [];
    way = states (event.Poison s) [] run refl begins;
    none = refl;
    is = poison_whole bound [] s granule (omega arith) (omega arith);
  }

  by_poison : (k : Kind) → CanBeStated bound run granule (code_of_kind k)
  by_poison kind.User = by_whole (a_whole granule 0 (omega arith) within) refl refl
  by_poison kind.Stack = by_whole (a_whole granule 1 (omega arith) within) refl refl
  by_poison kind.Global = by_whole (a_whole granule 2 (omega arith) within) refl refl

  by_redzone : (at : ℕ) → HasSpot granule at → CanBeStated bound run granule (code_of HeapRedzone)
  by_redzone at s =
      let high = s.high in
      let r = a_region at 0 (omega arith) (omega arith) in
      let ok : admits bound [] (block_of r) ≡ true =
      may_be_admitted-true [] (block_of r) (s.aligned, s.low, end at high) refl in
      record {
        stated = event.Malloc r ∷ [];
        way = states_block (event.Malloc r) [] run ok begins;
        none = refl;
        is = shadow_malloc bound [] r granule ok ∙ redzone_number at granule s;
      }
    where
      end : (n : ℕ) → n + 32 ≤ 2 ^ 47 → n + 0 + 32 ≤ 2 ^ 47
      end n le = omega arith

  by_freed : 72 ≤ bound → 32 ≤ 8 * granule → 8 * granule + 40 ≤ 2 ^ 47 → CanBeStated bound run granule (code_of Freed)
  by_freed fits low high =
      let r = a_region (8 * granule) 8 (omega arith) (omega arith) in
      let p : Place = record { at = 8 * granule; in_range = omega arith } in
      let b = block_of r in
      let first = event.Malloc r ∷ [] in
      let placed : IsPlaced b = (multiple granule, low, end granule high) in
      let ok : admits bound [] b ≡ true = may_be_admitted-true [] b placed refl in
      let is_live : Contains (live bound first) b = rw (live_malloc bound r [] ok) (in_head b []) in
      let any : list_any (starts_at p.at) (live bound first) ≡ true =
      passes_any (starts_at p.at) (live bound first) b is_live (start (8 * granule)) in
      let now : held bound (event.Free p ∷ first) ≡ held bound first ++ b ∷ [] =
      frees.held_after bound first p b is_live refl ∙ held-within bound (held bound first ++ b ∷ []) fits in
      let inside : lies_in (8 * granule) (8 * granule + 8) (8 * granule) ≡ true = grind (arith, nat_tests) in
      record {
        stated = event.Free p ∷ first;
        way = states_block (event.Free p) first run any (states_block (event.Malloc r) [] run ok begins);
        none = refl;
        is = shadow_free bound first p b [] granule is_live refl now ∙ rw inside refl;
      }
    where
      multiple : (n : ℕ) → 8 * n % 8 ≡ 0
      multiple n = omega arith

      end : (n : ℕ) → 8 * n + 40 ≤ 2 ^ 47 → 8 * n + 8 + 32 ≤ 2 ^ 47
      end n le = omega arith

      start : (at : ℕ) → starts_at at (record { at = at; size = 8 }) ≡ true
      start at = grind (arith, nat_tests)

  by_given : (shadow : ℕ) → IsGiven bound granule shadow → CanBeStated bound run granule shadow
  by_given shadow (given_count zero less) = by_nothing
  by_given shadow (given_count (suc count) less) = by_tail (suc count) (omega arith) less
  by_given shadow given_redzone = let found = spot granule within in by_redzone found.0 found.1
  by_given shadow (given_poison k) = by_poison k
  by_given shadow (given_freed fits low high) = by_freed fits low high

-- past the last address too: nothing is ever marked there
any_granule : (bound : ℕ) (run : List Step) → EachHeldFits bound run → (granule : ℕ)
    → CanBeStated bound run granule (shadow_in run granule)
any_granule bound run fits granule =
    elim (cases_lt granule (2 ^ 44)) [
      | inl within ↦ by_given bound run granule within (shadow_in run granule) (given bound run fits granule)
      | inr past ↦ record {
        stated = [];
        way = begins;
        none = refl;
        is = lift_past_the_end (marks_in run) (are_marks_in run) granule past;
      }
    ]

-- ---- an access

-- a poison of a granule's end leaves the next one
next_poisoned : (code shadow : ℕ) → poisoned_byte code shadow 0 0 ≡ shadow
next_poisoned code shadow = grind (arith, nat_tests)

module _ (bound : ℕ) (run : List Step) (granule : ℕ) (within : granule < 2 ^ 44) where
  -- what can be stated of a granule and of the next one
  record CanBothBeStated (shadow next : ℕ) : Type 0 where
    stated : List Event
    way : RecordsLeanly bound [] run stated run
    none : lean_numbers way ≡ []
    here : shadow_after bound stated granule ≡ shadow
    there : shadow_after bound stated (granule + 1) ≡ next

  all_good : Region
  all_good = a_region (8 * granule) 8 (omega arith) (omega arith)

  -- a granule that is addressable, before one that was stated
  good_too : (next : ℕ) → CanBeStated bound run (granule + 1) next → CanBothBeStated 0 next
  unfolding all_good
  good_too next there = record {
    stated = event.Unpoison all_good ∷ there.stated;
    way = states (event.Unpoison all_good) there.stated run refl there.way;
    none = there.none;
    here = unpoison_whole bound there.stated all_good granule (omega arith) (omega arith);
    there =
        let from : min 8 (8 * granule - 8 * (granule + 1)) ≡ 0 = omega arith in
        let to : min 8 (8 * granule + 8 - 8 * (granule + 1)) ≡ 0 = omega arith in
        shadow_shade bound there.stated (event.Unpoison all_good) (granule + 1) refl ∙ rw (from, to) there.is;
  }

  -- one whose first bytes are
  part_too : (count next : ℕ) → 0 < count → count < 8 → CanBothBeStated 0 next → CanBothBeStated count next
  part_too count next some less good =
      let s = a_tail granule count less within in
      let size = tail_size count in
      record {
        stated = event.Poison s ∷ good.stated;
        way = states (event.Poison s) good.stated run refl good.way;
        none = good.none;
        here = poison_part bound good.stated s granule count some refl (omega arith) (rw good.here less);
        there =
            let from : min 8 (8 * granule + count - 8 * (granule + 1)) ≡ 0 = omega arith in
            let to : min 8 (8 * granule + count + shade_size s - 8 * (granule + 1)) ≡ 0 = omega arith in
            shadow_shade bound good.stated (event.Poison s) (granule + 1) refl
            ∙ rw (from, to) (next_poisoned _ (shadow_after bound good.stated (granule + 1))) ∙ good.there;
      }

  both_given : (shadow next : ℕ) → shadow < 8 → CanBeStated bound run (granule + 1) next → CanBothBeStated shadow next
  both_given zero next less there = good_too next there
  both_given (suc count) next less there = part_too (suc count) next (omega arith) less (good_too next there)

-- a shadow byte that is no code says how many bytes are addressable
count_of : (bound granule shadow : ℕ) → IsGiven bound granule shadow → is_negative shadow ≡ false → shadow < 8
count_of bound granule shadow (given_count count less) off = less
count_of bound granule shadow given_redzone off = absurd (false≢true (sym off))
count_of bound granule shadow (given_poison kind.User) off = absurd (false≢true (sym off))
count_of bound granule shadow (given_poison kind.Stack) off = absurd (false≢true (sym off))
count_of bound granule shadow (given_poison kind.Global) off = absurd (false≢true (sym off))
count_of bound granule shadow (given_freed fits low high) off = absurd (false≢true (sym off))

-- some events that may be put in since nothing was recorded, after which an event may be recorded
record CanBeRecorded (bound : ℕ) (run : List Step) (e : Event) : Type 0 where
  pub stated : List Event
  pub way : RecordsLeanly bound [] run (e ∷ stated) (Does e ∷ run)
  pub all : FindAllBytes (lean_numbers way)

-- an event that is the first to be recorded, and finds all
alone_finds_all : (numbers : List (ℕ × ℕ × Detail)) → numbers ≡ [] → (m n : ℕ)
    → FindAllBytes (numbers ++ (m, n, shadow_bytes) ∷ [])
alone_finds_all numbers none m n found has =
    elim (cons_cases found (m, n, shadow_bytes) [] (rw none at has)) [
      | inl same ↦ sym (ap (λ (f : ℕ × ℕ × Detail). f.2) same)
      | inr more ↦ absurd (in_none found more)
    ]

module _ (bound : ℕ) (run : List Step) (fits : EachHeldFits bound run) (is_store : Bool) (a : Access) where
  decides : deciding_granule (state_of (marks_in run)) a.at
      ≡ cond (is_negative (shadow_in run (a.at / 8))) (a.at / 8) (a.at / 8 + 1)
  decides = deciding_shown (marks_in run) (are_marks_in run) a.at (shadow_in run (a.at / 8)) refl

  -- the granule of the first byte says the class
  own_says : is_negative (shadow_in run (a.at / 8)) ≡ true
      → CanBeRecorded bound run (access_event is_store a)
  own_says negative =
      let can = any_granule bound run fits (a.at / 8) in record {
        stated = can.stated;
        way = access shadow_bytes is_store a can.stated run (record {
          here = can.is;
          class_there = λ bad. rw (decides, negative) can.is;
        }) can.way;
        all = alone_finds_all (lean_numbers can.way) can.none (length can.stated + 1) (length (events_of run) + 1);
      }

  -- the next one does
  next_says : is_negative (shadow_in run (a.at / 8)) ≡ false
      → CanBeRecorded bound run (access_event is_store a)
  next_says off =
      let range = a.in_range in
      let within : a.at / 8 < 2 ^ 44 = in_addresses a.at a.width range (some_byte a.width a.known_width) in
      let less = count_of bound (a.at / 8) (shadow_in run (a.at / 8)) (given bound run fits (a.at / 8)) off in
      let can = both_given bound run (a.at / 8) within (shadow_in run (a.at / 8))
      (shadow_in run (a.at / 8 + 1)) less (any_granule bound run fits (a.at / 8 + 1)) in
      record {
        stated = can.stated;
        way = access shadow_bytes is_store a can.stated run (record {
          here = can.here;
          class_there = λ bad. rw (decides, off) can.there;
        }) can.way;
        all = alone_finds_all (lean_numbers can.way) can.none (length can.stated + 1) (length (events_of run) + 1);
      }
    where
      some_byte : (width : ℕ) → IsTrue (is_width width) → 0 < width
      some_byte width known = grind (arith, nat_tests)

      in_addresses : (at width : ℕ) → at + width ≤ 2 ^ 47 → 0 < width → at / 8 < 2 ^ 44
      in_addresses at width range some = omega arith

  any_access : CanBeRecorded bound run (access_event is_store a)
  any_access =
      elim (cases_Bool (is_negative (shadow_in run (a.at / 8)))) [
        | inl negative ↦ own_says negative
        | inr off ↦ next_says off
      ]

-- ---- a block

-- what a history lays out of one block alone, which was asked for in the run
record CanBeLaidOut (bound : ℕ) (run : List Step) (lives helds : List Extent) : Type 0 where
  stated : List Event
  way : RecordsLeanly bound [] run stated run
  none : lean_numbers way ≡ []
  lives_are : live bound stated ≡ lives
  helds_are : held bound stated ≡ helds

region_of_live_in : (run : List Step) (b : Extent) → Contains (live_in run) b → (r : Region) × (block_of r ≡ b)
region_of_live_in [] b has = absurd (in_none b has)
region_of_live_in (Does (event.Malloc r) ∷ run) b has =
    elim (cases_Bool (admits_in run (block_of r))) [
      | inl ok ↦ elim (Contains-push_cases (live_in run) (block_of r) b (rw (live_malloc_in r run ok) at has)) [
        | inl old ↦ region_of_live_in run b old
        | inr new ↦ (r, new)
      ]
      | inr refused ↦ region_of_live_in run b (rw (live_refused_in r run refused) at has)
    ]
region_of_live_in (Does (event.Free p) ∷ run) b has =
    region_of_live_in run b (from_filtered (λ x. not (starts_at p.at x)) (live_in run) b has).0
region_of_live_in (Does e ∷ run) b has = region_of_live_in run b has
region_of_live_in (Releases at ∷ run) b has = region_of_live_in run b has

region_of_held_in : (run : List Step) (b : Extent) → Contains (held_in run) b → (r : Region) × (block_of r ≡ b)
region_of_held_in [] b has = absurd (in_none b has)
region_of_held_in (Does (event.Free p) ∷ run) b has =
    elim (Contains-append_cases (held_in run) (filter (starts_at p.at) (live_in run)) b has) [
      | inl old ↦ region_of_held_in run b old
      | inr now ↦ region_of_live_in run b (from_filtered (starts_at p.at) (live_in run) b now).0
    ]
region_of_held_in (Does e ∷ run) b has = region_of_held_in run b has
region_of_held_in (Releases at ∷ run) b has =
    region_of_held_in run b (from_filtered (λ x. not (starts_at at x)) (held_in run) b has).0

alone : (b : Extent) → IsDistinct meets (b ∷ [])
alone b = IsDistinct-cons meets b [] tt none_apart

module _ (bound : ℕ) (run : List Step) (r : Region) (placed : IsPlaced (block_of r)) where
  first_ok : admits bound [] (block_of r) ≡ true
  first_ok = may_be_admitted-true [] (block_of r) placed refl

  one_placed : (b : Extent) → Contains (block_of r ∷ []) b → IsPlaced b
  one_placed b has =
      elim (cons_cases b (block_of r) [] has) [
        | inl same ↦ subst IsPlaced same placed
        | inr more ↦ absurd (in_none b more)
      ]

  laid_live : CanBeLaidOut bound run (block_of r ∷ []) []
  laid_live =
      let stand = stands bound (event.Malloc r ∷ []) (block_of r ∷ []) [] (lays_live r [] [] [] lays_none) (record {
        apart = alone (block_of r);
        placed = one_placed;
        within = omega arith;
      }) in record {
        stated = event.Malloc r ∷ [];
        way = states_block (event.Malloc r) [] run first_ok begins;
        none = refl;
        lives_are = stand.lives_are;
        helds_are = stand.helds_are;
      }

  laid_held : (p : Place) → p.at ≡ r.at → span_bytes (block_of r) ≤ bound
      → CanBeLaidOut bound run [] (block_of r ∷ [])
  laid_held p here fits =
      let stand = stands bound (event.Free p ∷ event.Malloc r ∷ []) [] (block_of r ∷ [])
      (lays_held r p [] [] [] here lays_none) (record {
        apart = alone (block_of r);
        placed = one_placed;
        within = omega arith;
      }) in
      let is_live : Contains (live bound (event.Malloc r ∷ [])) (block_of r) =
      rw (live_malloc bound r [] first_ok) (in_head (block_of r) []) in
      record {
        stated = event.Free p ∷ event.Malloc r ∷ [];
        way = states_block (event.Free p) (event.Malloc r ∷ []) run (passes_any (starts_at p.at)
            (live bound (event.Malloc r ∷ [])) (block_of r) is_live (eq-eqb r.at p.at (sym here)))
            (states_block (event.Malloc r) [] run first_ok begins);
        none = refl;
        lives_are = stand.lives_are;
        helds_are = stand.helds_are;
      }

module _ (bound : ℕ) (run : List Step) (fits : EachHeldFits bound run) (b : Extent) where
  live_laid : Contains (live_in run) b → CanBeLaidOut bound run (b ∷ []) []
  live_laid has =
      let found = region_of_live_in run b has in
      subst (λ x. CanBeLaidOut bound run (x ∷ []) []) found.1
      (laid_live bound run found.0 (subst IsPlaced (sym found.1) (live_placed_in run b has)))

  held_laid : Contains (held_in run) b → CanBeLaidOut bound run [] (b ∷ [])
  held_laid has =
      let found = region_of_held_in run b has in
      let placed = held_placed_in run b has in
      let end = placed.2 in
      let p : Place = record { at = b.at; in_range = omega arith } in
      subst (λ x. CanBeLaidOut bound run [] (x ∷ [])) found.1
      (laid_held bound run found.0 (subst IsPlaced (sym found.1) placed) p (ap (λ x. x.at) (sym found.1))
      (subst (λ x. span_bytes x ≤ bound) (sym found.1) (fits b has)))

-- ---- a free

module _ (bound : ℕ) (run : List Step) (fits : EachHeldFits bound run) (p : Place) where
  after_stated : (stated : List Event) (way : RecordsLeanly bound [] run stated run) → lean_numbers way ≡ []
      → HaveSameStart bound stated run p.at → CanBeRecorded bound run (event.Free p)
  after_stated stated way none same = record {
    stated = stated;
    way = block (event.Free p) stated run same way;
    all = alone_finds_all (lean_numbers way) none (length stated + 1) (length (events_of run) + 1);
  }

  free_of_live : list_any (starts_at p.at) (live_in run) ≡ true → CanBeRecorded bound run (event.Free p)
  free_of_live any =
      let found = any_passes (starts_at p.at) (live_in run) any in
      let can = live_laid bound run fits found.0 found.1 in
      after_stated can.stated can.way can.none (record {
        live_there = rw (can.lives_are, found.2, any) refl;
        held_there = λ none. absurd (false≢true (sym none ∙ any));
      })

  free_of_held : list_any (starts_at p.at) (live_in run) ≡ false → list_any (starts_at p.at) (held_in run) ≡ true
      → CanBeRecorded bound run (event.Free p)
  free_of_held none any =
      let found = any_passes (starts_at p.at) (held_in run) any in
      let can = held_laid bound run fits found.0 found.1 in
      after_stated can.stated can.way can.none (record {
        live_there = rw (can.lives_are, none) refl;
        held_there = λ off. rw (can.helds_are, found.2, any) refl;
      })

  any_free : CanBeRecorded bound run (event.Free p)
  any_free =
      elim (cases_Bool (list_any (starts_at p.at) (live_in run))) [
        | inl any ↦ free_of_live any
        | inr none ↦ elim (cases_Bool (list_any (starts_at p.at) (held_in run))) [
          | inl any ↦ free_of_held none any
          | inr neither ↦ after_stated [] begins refl (record {
            live_there = sym none;
            held_there = λ off. sym neither;
          })
        ]
      ]

-- ---- a malloc

module _ (bound : ℕ) (run : List Step) (fits : EachHeldFits bound run) (r : Region) where
  refused_where_met : (past : List Event) → list_any (meets (block_of r)) (live bound past ++ held bound past) ≡ true
      → admits bound past (block_of r) ≡ false
  refused_where_met past met = and_right _ _ (ap not met)

  met_alone : (past : List Event) (b : Extent) → live bound past ++ held bound past ≡ b ∷ []
      → meets (block_of r) b ≡ true → admits bound past (block_of r) ≡ false
  met_alone past b only met = refused_where_met past (rw (only, met) refl)

  in_the_way : list_any (meets (block_of r)) (live_in run ++ held_in run) ≡ true
      → CanBeRecorded bound run (event.Malloc r)
  in_the_way any =
      let found = any_passes (meets (block_of r)) (live_in run ++ held_in run) any in
      let refused : admits_in run (block_of r) ≡ false = and_right _ _ (ap not any) in
      elim (Contains-append_cases (live_in run) (held_in run) found.0 found.1) [
        | inl is_live ↦ let can = live_laid bound run fits found.0 is_live in record {
          stated = can.stated;
          way = block (event.Malloc r) can.stated run
              (met_alone can.stated found.0 (rw (can.lives_are, can.helds_are) refl) found.2 ∙ sym refused) can.way;
          all = alone_finds_all (lean_numbers can.way) can.none (length can.stated + 1) (length (events_of run) + 1);
        }
        | inr is_held ↦ let can = held_laid bound run fits found.0 is_held in record {
          stated = can.stated;
          way = block (event.Malloc r) can.stated run
              (met_alone can.stated found.0 (rw (can.lives_are, can.helds_are) refl) found.2 ∙ sym refused) can.way;
          all = alone_finds_all (lean_numbers can.way) can.none (length can.stated + 1) (length (events_of run) + 1);
        }
      ]

  any_malloc : CanBeRecorded bound run (event.Malloc r)
  any_malloc =
      elim (cases_Bool (list_any (meets (block_of r)) (live_in run ++ held_in run))) [
        | inl any ↦ in_the_way any
        | inr none ↦ record {
          stated = [];
          way = block (event.Malloc r) [] run (rw none refl) begins;
          all = alone_finds_all [] refl 1 (length (events_of run) + 1);
        }
      ]

-- ---- any load, store, malloc and free

module _ (bound : ℕ) (run : List Step) (fits : EachHeldFits bound run) where
  any_event : (e : Event) → IsTrue (is_access e || is_of_block e) → CanBeRecorded bound run e
  any_event (event.Load a) is = any_access bound run fits false a
  any_event (event.Store a) is = any_access bound run fits true a
  any_event (event.Malloc r) is = any_malloc bound run fits r
  any_event (event.Free p) is = any_free bound run fits p
  any_event (event.Poison s) is = absurd (false≢true is)
  any_event (event.Unpoison r) is = absurd (false≢true is)
  any_event event.Anew is = absurd (false≢true is)

  pub can_be_recorded : (e : Event) → IsTrue (is_access e || is_of_block e) →
      (stated : List Event) × (way : RecordsLeanly bound [] run (e ∷ stated) (Does e ∷ run))
      × FindAllBytes (lean_numbers way)
  can_be_recorded e is = let can = any_event e is in (can.stated, can.way, can.all)
