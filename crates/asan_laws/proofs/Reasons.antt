-- Why a byte is as it is after a history: by which block, or by which poison. So what the class of a report says is
-- true.
use Rattle.std.proofs.Common.{◌≡◌, ℕ, ◌+◌, ◌-◌, ◌*◌, ◌/◌, ◌<◌, ◌≤◌, Bool, true, false, cond, leb, ltb, List, []}
use Rattle.std.proofs.Common.{◌∷◌, ◌++◌, Option, Some, None, refl, sym, ap, ◌∙◌, subst, arith, inl, inr}
use Rattle.std.specs.Prelude.{Contains, IsTrue, filter, not, unwrap_or, ◌&&◌, ◌⊎◌, sum_by}
use Rattle.std.specs.List.{IsDistinct, list_any}
use Rattle.std.proofs.lemmas.Bool.{cases_Bool, both_ways, leb-true, ltb-true, and_parts, not-true, not_from_false}
use Rattle.std.proofs.lemmas.Bool.{and_from, cases_lt, eqb-true, le-leb, lt-ltb}
use Rattle.std.specs.Option.{option_map}
use Rattle.std.proofs.lemmas.Bool.Decides.{nat_tests}
use Rattle.std.proofs.lemmas.List.Elements.{Contains-append_left, Contains-append_right, Contains-append_cases}
use Rattle.std.proofs.lemmas.Map.Keys.{IsDistinct-head, IsDistinct-tail}
use Rattle.trace_record.specs.declared.event.Event.{Event}
use Rattle.trace_record.specs.declared.event.Event.TheVariants as event
use Rattle.trace_record.specs.declared.event.Access.{Access}
use Rattle.trace_record.specs.declared.event.Place.{Place}
use Rattle.trace_record.specs.declared.event.Region.{Region}
use Rattle.trace_record.specs.declared.shade.Kind.{Kind}
use Rattle.trace_record.specs.declared.shade.Kind.TheVariants as kind
use Rattle.trace_record.specs.declared.shade.Shade.{Shade}
use Rattle.trace_record.specs.Shades.{shade_size, shade_kind}
use Rattle.shadow_map.specs.States.{State, Addressable, Coded, HeapRedzone, Mark, Block, Poison, Unpoison, lies_in}
use Rattle.shadow_map.specs.States.{bad_byte_of, code_of, lift, granule_lies_in, is_addressable}
use Rattle.shadow_map.specs.States.{none_addressable_from, state_given, state_of}
use Rattle.heap_book.specs.Spans.{Extent, span_from, span_to, span_bytes, meets, starts_at}
use Rattle.asan_units.specs.Units.{redzone, round_up, granule_of}
use Rattle.shadow_map.specs.Causes.{deciding_granule}
use Rattle.asan_check.specs.declared.report.Class.{Class}
use Rattle.asan_check.specs.declared.report.Fault.TheVariants as fault
use Rattle.asan_check.specs.Codes.{Freed, class_of_code, code_of_kind}
use Rattle.asan_check.specs.Verdicts.{access_fault, class_of}
use Rattle.asan_check.specs.History.{block_of, live, held, admits, marks, with_marks, freed_mark, released_mark}
use Rattle.asan_check.proofs.Steps.{held_malloc, live_free, spans_apart}
use Rattle.asan_check.proofs.Mallocs as mallocs
use Rattle.asan_check.proofs.Frees as frees
use Rattle.asan_check.proofs.Members.{in_head, in_tail, in_none, cons_cases, at_element, from_filtered, apart_across}
use Rattle.asan_check.proofs.Members.{apart_left}
use Rattle.asan_laws.specs.Classes.{WasLive, IsPoisonedLast, LiesInSpanOf, LiesBeside, IsTrueOf}
use Rattle.asan_laws.proofs.Members.{any_passes, filtered, apart_beside}

-- why a byte has a state, where these marks were laid and these blocks are live and held
data HasReason
    (bound : ℕ) (past : List Event) (laid : List Mark) (lives helds : List Extent) (byte : ℕ)
    : State → Type 0 where
  -- nothing forbids it
  allowed : HasReason bound past laid lives helds byte Addressable
  -- it is in the redzone of a live block
  beside_live : (b : Extent) → Contains lives b → LiesInSpanOf b byte → LiesBeside b b.size byte
      → HasReason bound past laid lives helds byte HeapRedzone
  -- or of a held one
  beside_held : (b : Extent) → Contains helds b → LiesInSpanOf b byte
      → LiesBeside b (round_up b.size) byte → HasReason bound past laid lives helds byte HeapRedzone
  -- or in the span of a block that was live once, and of none that is live or held
  released : (b : Extent) → WasLive bound past b → LiesInSpanOf b byte
      → ((c : Extent) → Contains (lives ++ helds) c → ¬ LiesInSpanOf c byte)
      → HasReason bound past laid lives helds byte HeapRedzone
  -- it is one of the bytes of a held block, or of those that round its size up
  was_freed : (b : Extent) → Contains helds b → b.at ≤ byte → byte < b.at + round_up b.size
      → HasReason bound past laid lives helds byte Freed
  -- a poison covers it last
  poisoned : (s : Shade) → IsPoisonedLast bound past laid s byte
      → HasReason bound past laid lives helds byte (Coded (code_of_kind (shade_kind s)))

abbrev HasReasonAfter : ℕ → List Event → ℕ → State → Type 0
HasReasonAfter bound past byte state =
    HasReason bound past (marks bound past) (live bound past) (held bound past) byte state

-- ---- ranges of bytes

inside : (from to byte : ℕ) → lies_in from to byte ≡ true → (from ≤ byte) × (byte < to)
inside from to byte is =
    let parts = and_parts (leb from byte) (ltb byte to) is in (leb-true from byte parts.0, ltb-true byte to parts.1)

covered : (from to byte : ℕ) → from ≤ byte → byte < to → lies_in from to byte ≡ true
covered from to byte low high =
    and_from (leb from byte) (ltb byte to) (le-leb from byte low) (lt-ltb byte to high)

outside : (from to byte : ℕ) → lies_in from to byte ≡ false → (byte < from) ⊎ (to ≤ byte)
outside from to byte off =
    elim (cases_lt byte from) [
      | inl below ↦ inl below
      | inr above ↦ elim (cases_lt byte to) [
        | inl within ↦ absurd (both_ways (lies_in from to byte) off (covered from to byte above within))
        | inr beyond ↦ inr beyond
      ]
    ]

-- a byte in the spans of two blocks makes them meet
never_both : (b c : Extent) (byte : ℕ) → meets b c ≡ false → LiesInSpanOf b byte → LiesInSpanOf c byte → ⊥
never_both b c byte apart one other =
    let from = one.0 in
    let to = one.1 in
    let also_from = other.0 in
    let also_to = other.1 in
    both_ways (meets b c) apart
    (and_from (ltb (span_from b) (span_to c)) (ltb (span_from c) (span_to b)) (lt-ltb _ _ (omega arith))
    (lt-ltb _ _ (omega arith)))

module _ (bound byte : ℕ) where
  -- ---- the same reason, later

  later_live : (past : List Event) (e : Event) (b : Extent) → WasLive bound past b → WasLive bound (e ∷ past) b
  later_live past e b was = record {
    since = e ∷ was.since;
    before = was.before;
    split = ap (λ (es : List Event). e ∷ es) was.split;
    was_live = was.was_live;
  }

  -- after one more event that lays no mark and changes no block
  more_events : (past : List Event) (e : Event) (laid : List Mark) (lives helds : List Extent) (state : State)
      → HasReason bound past laid lives helds byte state → HasReason bound (e ∷ past) laid lives helds byte state
  more_events past e laid lives helds state allowed = allowed
  more_events past e laid lives helds state (beside_live b has span beside) = beside_live b has span beside
  more_events past e laid lives helds state (beside_held b has span beside) = beside_held b has span beside
  more_events past e laid lives helds state (released b was span none) = released b (later_live past e b was) span none
  more_events past e laid lives helds state (was_freed b has above below) = was_freed b has above below
  more_events past e laid lives helds state (poisoned s last) = poisoned s record {
    since = e ∷ last.since;
    before = last.before;
    split = ap (λ (es : List Event). e ∷ es) last.split;
    inside = last.inside;
    later = last.later;
    laid_later = last.laid_later;
    uncovered = last.uncovered;
  }

  -- after a mark that does not cover the byte
  more_marks : (past : List Event) (m : Mark) (laid : List Mark) (lives helds : List Extent) (state : State)
      → state_given (state_of laid) m byte ≡ None → HasReason bound past laid lives helds byte state
      → HasReason bound past (m ∷ laid) lives helds byte state
  more_marks past m laid lives helds state clear allowed = allowed
  more_marks past m laid lives helds state clear (beside_live b has span beside) = beside_live b has span beside
  more_marks past m laid lives helds state clear (beside_held b has span beside) = beside_held b has span beside
  more_marks past m laid lives helds state clear (released b was span none) = released b was span none
  more_marks past m laid lives helds state clear (was_freed b has above below) = was_freed b has above below
  more_marks past m laid lives helds state clear (poisoned s last) = poisoned s record {
    since = last.since;
    before = last.before;
    split = last.split;
    inside = last.inside;
    later = m ∷ last.later;
    laid_later = ap (λ (ms : List Mark). m ∷ ms) last.laid_later;
    uncovered = (
      subst (λ (ms : List Mark). state_given (state_of ms) m byte ≡ None) last.laid_later clear,
      last.uncovered,
    );
  }

  -- with other blocks, where those that have the byte in their span stay, and no other has it
  other_blocks : (past : List Event) (laid : List Mark) (lives helds lives_now helds_now : List Extent) (state : State)
      → ((b : Extent) → Contains lives b → LiesInSpanOf b byte → Contains lives_now b)
      → ((b : Extent) → Contains helds b → LiesInSpanOf b byte → Contains helds_now b)
      → ((b : Extent) → Contains (lives_now ++ helds_now) b → LiesInSpanOf b byte → Contains (lives ++ helds) b)
      → HasReason bound past laid lives helds byte state → HasReason bound past laid lives_now helds_now byte state
  other_blocks past laid lives helds lives_now helds_now state live_stays held_stays no_other allowed = allowed
  other_blocks past laid lives helds lives_now helds_now state live_stays held_stays no_other
      (beside_live b has span beside) = beside_live b (live_stays b has span) span beside
  other_blocks past laid lives helds lives_now helds_now state live_stays held_stays no_other
      (beside_held b has span beside) = beside_held b (held_stays b has span) span beside
  other_blocks past laid lives helds lives_now helds_now state live_stays held_stays no_other
      (released b was span none) = released b was span (λ c has inside. none c (no_other c has inside) inside)
  other_blocks past laid lives helds lives_now helds_now state live_stays held_stays no_other
      (was_freed b has above below) =
      let span : LiesInSpanOf b byte = (omega arith, omega arith) in was_freed b (held_stays b has span) above below
  other_blocks past laid lives helds lives_now helds_now state live_stays held_stays no_other (poisoned s last) =
      poisoned s last

  -- the same marks and blocks
  carried : (past : List Event) (laid now : List Mark) (lives lives_now helds helds_now : List Extent) → now ≡ laid
      → lives_now ≡ lives → helds_now ≡ helds → HasReason bound past laid lives helds byte (state_of laid byte)
      → HasReason bound past now lives_now helds_now byte (state_of now byte)
  carried past laid now lives lives_now helds helds_now e f g is =
      subst (λ (ms : List Mark). HasReason bound past ms lives_now helds_now byte (state_of ms byte)) (sym e)
      (subst (λ (bs : List Extent). HasReason bound past laid bs helds_now byte (state_of laid byte)) (sym f)
      (subst (λ (bs : List Extent). HasReason bound past laid lives bs byte (state_of laid byte)) (sym g) is))

  -- ---- poison and unpoison

  poison_laid : (past : List Event) (s : Shade) → (s.at ≤ byte) × (byte < s.at + shade_size s)
      → IsPoisonedLast bound (event.Poison s ∷ past) (marks bound (event.Poison s ∷ past)) s byte
  poison_laid past s within = record {
    since = [];
    before = past;
    split = refl;
    inside = within;
    later = [];
    laid_later = refl;
    uncovered = tt;
  }

  by_poison : (past : List Event) (s : Shade) → HasReasonAfter bound past byte (state_of (marks bound past) byte)
      → HasReasonAfter bound (event.Poison s ∷ past) byte (state_of (marks bound (event.Poison s ∷ past)) byte)
  by_poison past s before =
      go (granule_lies_in s.at (s.at + shade_size s) byte)
      (lies_in s.at (s.at + shade_size s) byte && is_addressable (state_of (marks bound past) byte)
      && none_addressable_from (state_of (marks bound past)) (s.at + shade_size s) (granule_of byte)) refl refl
    where
      go : (whole cut : Bool) → granule_lies_in s.at (s.at + shade_size s) byte ≡ whole
          → (lies_in s.at (s.at + shade_size s) byte && is_addressable (state_of (marks bound past) byte)
          && none_addressable_from (state_of (marks bound past)) (s.at + shade_size s) (granule_of byte)) ≡ cut
          → HasReason bound (event.Poison s ∷ past) (marks bound (event.Poison s ∷ past)) (live bound past)
          (held bound past) byte (unwrap_or (cond whole (Some (Coded (code_of_kind (shade_kind s))))
          (cond cut (Some (Coded (code_of_kind (shade_kind s)))) None)) (state_of (marks bound past) byte))
      go true cut is also =
          let parts = and_parts (leb s.at (8 * (byte / 8))) (leb (8 * (byte / 8) + 8) (s.at + shade_size s)) is in
          let low = leb-true s.at (8 * (byte / 8)) parts.0 in
          let high = leb-true (8 * (byte / 8) + 8) (s.at + shade_size s) parts.1 in
          poisoned s (poison_laid past s (omega arith, omega arith))
      go false true is also =
          let first = and_parts (lies_in s.at (s.at + shade_size s) byte
          && is_addressable (state_of (marks bound past) byte))
          (none_addressable_from (state_of (marks bound past)) (s.at + shade_size s) (granule_of byte)) also in
          let second = and_parts (lies_in s.at (s.at + shade_size s) byte)
          (is_addressable (state_of (marks bound past) byte)) first.0 in
          poisoned s (poison_laid past s (inside s.at (s.at + shade_size s) byte second.0))
      go false false is also =
          more_marks (event.Poison s ∷ past) (Poison s.at (shade_size s) (code_of_kind (shade_kind s)))
          (marks bound past) (live bound past) (held bound past) (state_of (marks bound past) byte) (rw (is, also) refl)
          (more_events past (event.Poison s) (marks bound past) (live bound past) (held bound past) _ before)

  by_unpoison : (past : List Event) (r : Region) → HasReasonAfter bound past byte (state_of (marks bound past) byte)
      → HasReasonAfter bound (event.Unpoison r ∷ past) byte (state_of (marks bound (event.Unpoison r ∷ past)) byte)
  by_unpoison past r before =
      go (ltb 0 r.size && ltb byte (r.at + r.size) && ltb r.at (8 * (byte / 8) + 8)) refl
    where
      go : (t : Bool) → (ltb 0 r.size && ltb byte (r.at + r.size) && ltb r.at (8 * (byte / 8) + 8)) ≡ t
          → HasReason bound (event.Unpoison r ∷ past) (marks bound (event.Unpoison r ∷ past)) (live bound past)
          (held bound past) byte (unwrap_or (cond t (Some Addressable) None) (state_of (marks bound past) byte))
      go true is = allowed
      go false is =
          more_marks (event.Unpoison r ∷ past) (Unpoison r.at r.size) (marks bound past) (live bound past)
          (held bound past) (state_of (marks bound past) byte) (rw is refl)
          (more_events past (event.Unpoison r) (marks bound past) (live bound past) (held bound past) _ before)

  -- ---- a malloc

  module _ (past : List Event) (r : Region) where
    under_block : (span own : Bool) → lies_in (r.at - redzone) (r.at + round_up r.size + redzone) byte ≡ span
        → lies_in r.at (r.at + r.size) byte ≡ own
        → HasReason bound (event.Malloc r ∷ past) (marks bound past) (live bound past) (held bound past) byte
        (state_of (marks bound past) byte)
        → HasReason bound (event.Malloc r ∷ past) (Block r.at r.size ∷ marks bound past)
        (live bound past ++ block_of r ∷ []) (held bound past) byte
        (unwrap_or (cond span (Some (cond own Addressable HeapRedzone)) None) (state_of (marks bound past) byte))
    under_block true true is also before = allowed
    under_block true false is also before =
        beside_live (block_of r)
        (Contains-append_right (live bound past) (block_of r ∷ []) (block_of r) (in_head (block_of r) []))
        (inside (r.at - redzone) (r.at + round_up r.size + redzone) byte is) (outside r.at (r.at + r.size) byte also)
    under_block false own is also before =
        more_marks (event.Malloc r ∷ past) (Block r.at r.size) (marks bound past) (live bound past ++ block_of r ∷ [])
        (held bound past) (state_of (marks bound past) byte) (rw is refl)
        (other_blocks (event.Malloc r ∷ past) (marks bound past) (live bound past) (held bound past)
        (live bound past ++ block_of r ∷ []) (held bound past) (state_of (marks bound past) byte)
        (λ c has span. Contains-append_left (live bound past) (block_of r ∷ []) c has) (λ c has span. has) no_other
        before)
      where
        no_other : (c : Extent) → Contains ((live bound past ++ block_of r ∷ []) ++ held bound past) c
            → LiesInSpanOf c byte → Contains (live bound past ++ held bound past) c
        no_other c has span =
            elim (Contains-append_cases (live bound past ++ block_of r ∷ []) (held bound past) c has) [
              | inr old ↦ Contains-append_right (live bound past) (held bound past) c old
              | inl lives ↦ elim (Contains-append_cases (live bound past) (block_of r ∷ []) c lives) [
                | inl old ↦ Contains-append_left (live bound past) (held bound past) c old
                | inr new ↦ elim (cons_cases c (block_of r) [] new) [
                  | inr none ↦ absurd (in_none c none)
                  | inl same ↦
                      let here = subst (λ (x : Extent). LiesInSpanOf x byte) (sym same) span in
                      absurd (both_ways (lies_in (r.at - redzone) (r.at + round_up r.size + redzone) byte) is
                      (covered (r.at - redzone) (r.at + round_up r.size + redzone) byte here.0 here.1))
                ]
              ]
            ]

    by_malloc : HasReasonAfter bound past byte (state_of (marks bound past) byte)
        → HasReasonAfter bound (event.Malloc r ∷ past) byte (state_of (marks bound (event.Malloc r ∷ past)) byte)
    by_malloc before =
        go (admits bound past (block_of r)) refl
        (more_events past (event.Malloc r) (marks bound past) (live bound past) (held bound past) _ before)
      where
        go : (t : Bool) → admits bound past (block_of r) ≡ t
            → HasReason bound (event.Malloc r ∷ past) (marks bound past) (live bound past) (held bound past) byte
            (state_of (marks bound past) byte)
            → HasReasonAfter bound (event.Malloc r ∷ past) byte (state_of (marks bound (event.Malloc r ∷ past)) byte)
        go false refused so_far =
            carried (event.Malloc r ∷ past) (marks bound past) (marks bound (event.Malloc r ∷ past)) (live bound past)
            (live bound (event.Malloc r ∷ past)) (held bound past) (held bound (event.Malloc r ∷ past))
            (mallocs.marks_stay_refused bound past r refused) (mallocs.live_stays_refused bound past r refused)
            (mallocs.held_stays_refused bound past r refused) so_far
        go true ok so_far =
            carried (event.Malloc r ∷ past) (Block r.at r.size ∷ marks bound past) (marks bound (event.Malloc r ∷ past))
            (live bound past ++ block_of r ∷ []) (live bound (event.Malloc r ∷ past)) (held bound past)
            (held bound (event.Malloc r ∷ past)) (mallocs.marks_after bound past r ok)
            (mallocs.live_after bound past r ok) (mallocs.held_stays bound past r ok)
            (under_block (lies_in (r.at - redzone) (r.at + round_up r.size + redzone) byte)
            (lies_in r.at (r.at + r.size) byte) refl refl so_far)

  -- ---- releases

  by_releases : (past : List Event) (lives gone helds : List Extent) (laid : List Mark)
      → ((c : Extent) → Contains (gone ++ helds) c → WasLive bound past c) → IsDistinct meets (gone ++ helds)
      → ((c d : Extent) → Contains lives c → Contains (gone ++ helds) d → meets c d ≡ false)
      → HasReason bound past laid lives (gone ++ helds) byte (state_of laid byte)
      → HasReason bound past (with_marks released_mark gone laid) lives helds byte
      (state_of (with_marks released_mark gone laid) byte)
  by_releases past lives [] helds laid was apart across before = before
  by_releases past lives (o ∷ gone) helds laid was apart across before =
      by_releases past lives gone helds (released_mark o ∷ laid) (λ c has. was c (in_tail c o (gone ++ helds) has))
      (IsDistinct-tail meets o (gone ++ helds) apart)
      (λ c d is_live is_held. across c d is_live (in_tail d o (gone ++ helds) is_held))
      (go (lies_in (span_from o) (span_to o) byte) refl)
    where
      none_there : LiesInSpanOf o byte → (c : Extent) → Contains (lives ++ (gone ++ helds)) c → ¬ LiesInSpanOf c byte
      none_there here c has there =
          elim (Contains-append_cases lives (gone ++ helds) c has) [
            | inl is_live ↦ never_both c o byte (across c o is_live (in_head o (gone ++ helds))) there here
            | inr is_held ↦ never_both o c byte (at_element (λ y. meets o y ≡ false) (gone ++ helds) c
                (IsDistinct-head meets o (gone ++ helds) apart) is_held) here there
          ]

      stays : lies_in (span_from o) (span_to o) byte ≡ false → (c : Extent) → Contains (o ∷ (gone ++ helds)) c
          → LiesInSpanOf c byte → Contains (gone ++ helds) c
      stays off c has span =
          elim (cons_cases c o (gone ++ helds) has) [
            | inr more ↦ more
            | inl same ↦
                let here = subst (λ (x : Extent). LiesInSpanOf x byte) (sym same) span in
                absurd (both_ways (lies_in (span_from o) (span_to o) byte) off
                (covered (span_from o) (span_to o) byte here.0 here.1))
          ]

      none_new : (c : Extent) → Contains (lives ++ (gone ++ helds)) c → LiesInSpanOf c byte
          → Contains (lives ++ (o ∷ (gone ++ helds))) c
      none_new c has span =
          elim (Contains-append_cases lives (gone ++ helds) c has) [
            | inl is_live ↦ Contains-append_left lives (o ∷ (gone ++ helds)) c is_live
            | inr is_held ↦ Contains-append_right lives (o ∷ (gone ++ helds)) c (in_tail c o (gone ++ helds) is_held)
          ]

      go : (t : Bool) → lies_in (span_from o) (span_to o) byte ≡ t
          → HasReason bound past (released_mark o ∷ laid) lives (gone ++ helds) byte
          (unwrap_or (cond t (Some HeapRedzone) None) (state_of laid byte))
      go true is =
          let here = inside (span_from o) (span_to o) byte is in
          released o (was o (in_head o (gone ++ helds))) here (none_there here)
      go false is =
          more_marks past (released_mark o) laid lives (gone ++ helds) (state_of laid byte) (rw is refl)
          (other_blocks past laid lives (o ∷ (gone ++ helds)) lives (gone ++ helds) (state_of laid byte)
          (λ c has span. has) (stays is) none_new before)

  -- ---- a free of a live block

  found : (past : List Event) (p : Place) → list_any (starts_at p.at) (live bound past) ≡ true
      → (b : Extent) × Contains (live bound past) b × (b.at ≡ p.at)
  found past p any =
      let it = any_passes (starts_at p.at) (live bound past) any in (it.0, it.1, eqb-true it.0.at p.at it.2)

  module _ (past : List Event) (p : Place) (b : Extent) (has : Contains (live bound past) b) (here : b.at ≡ p.at) where
    queue_parts : (gone queue : List Extent) → frees.IsReleasing bound past p b has here gone queue
        → (front : List Extent) × (front ++ held bound (event.Free p ∷ past) ≡ held bound past ++ b ∷ [])
    queue_parts gone [] so_far =
        let ends = frees.releasing_ends bound past p b has here gone [] so_far (omega arith) in
        (gone, ap (λ (q : List Extent). gone ++ q) (sym ends.0) ∙ so_far.parts)
    queue_parts gone (o ∷ rest) so_far =
        elim (cases_lt bound (sum_by span_bytes (o ∷ rest))) [
          | inl more ↦ queue_parts (gone ++ o ∷ []) rest
              (frees.releasing_goes_on bound past p b has here gone o rest so_far more)
          | inr within ↦
              let ends = frees.releasing_ends bound past p b has here gone (o ∷ rest) so_far within in
              (gone, ap (λ (q : List Extent). gone ++ q) (sym ends.0) ∙ so_far.parts)
        ]

    parts : (front : List Extent) × (front ++ held bound (event.Free p ∷ past) ≡ held bound past ++ b ∷ [])
    parts = queue_parts [] (held bound past ++ b ∷ []) (frees.releasing_starts bound past p b has here)

    the_block : (c : Extent) → Contains (live bound past) c → starts_at p.at c ≡ true → b ≡ c
    the_block c is_live starts =
        let only = filtered (starts_at p.at) (live bound past) c is_live starts in
        elim (cons_cases c b [] (subst (λ (bs : List Extent). Contains bs c)
        (frees.freed_block bound past p b has here) only)) [
          | inl same ↦ same
          | inr none ↦ absurd (in_none c none)
        ]

    in_queue : (c : Extent) → b ≡ c → Contains (held bound past ++ b ∷ []) c
    in_queue c same =
        Contains-append_right (held bound past) (b ∷ []) c
        (subst (λ (x : Extent). Contains (b ∷ []) x) same (in_head b []))

    older : (c : Extent) → Contains (filter (λ x. not (starts_at p.at x)) (live bound past)
        ++ (held bound past ++ b ∷ [])) c → Contains (live bound past ++ held bound past) c
    older c is =
        elim (Contains-append_cases (filter (λ x. not (starts_at p.at x)) (live bound past))
        (held bound past ++ b ∷ []) c is) [
          | inl is_live ↦ Contains-append_left (live bound past) (held bound past) c
              (from_filtered (λ x. not (starts_at p.at x)) (live bound past) c is_live).0
          | inr queued ↦ elim (Contains-append_cases (held bound past) (b ∷ []) c queued) [
            | inl is_held ↦ Contains-append_right (live bound past) (held bound past) c is_held
            | inr last ↦ elim (cons_cases c b [] last) [
              | inr none ↦ absurd (in_none c none)
              | inl same ↦ Contains-append_left (live bound past) (held bound past) c
                  (subst (λ (x : Extent). Contains (live bound past) x) same has)
            ]
          ]
        ]

    -- the block is held then, and no longer live
    queued : (laid : List Mark) (state : State) → lies_in b.at (b.at + round_up b.size) byte ≡ false
        → HasReason bound (event.Free p ∷ past) laid (live bound past) (held bound past) byte state
        → HasReason bound (event.Free p ∷ past) laid (filter (λ x. not (starts_at p.at x)) (live bound past))
        (held bound past ++ b ∷ []) byte state
    queued laid state off allowed = allowed
    queued laid state off (beside_live c is_live span beside) =
        elim (cases_Bool (starts_at p.at c)) [
          | inl starts ↦
              let same = the_block c is_live starts in
              beside_held c (in_queue c same) span
              (outside c.at (c.at + round_up c.size) byte
              (subst (λ (x : Extent). lies_in x.at (x.at + round_up x.size) byte ≡ false) same off))
          | inr elsewhere ↦ beside_live c (filtered (λ x. not (starts_at p.at x)) (live bound past) c is_live
              (not_from_false _ elsewhere)) span beside
        ]
    queued laid state off (beside_held c is_held span beside) =
        beside_held c (Contains-append_left (held bound past) (b ∷ []) c is_held) span beside
    queued laid state off (released c was span none) =
        released c was span (λ d is there. none d (older d is) there)
    queued laid state off (was_freed c is_held above below) =
        was_freed c (Contains-append_left (held bound past) (b ∷ []) c is_held) above below
    queued laid state off (poisoned s last) = poisoned s last

    freed_now : HasReason bound (event.Free p ∷ past) (marks bound past) (live bound past) (held bound past) byte
        (state_of (marks bound past) byte)
        → HasReason bound (event.Free p ∷ past) (freed_mark b ∷ marks bound past)
        (filter (λ x. not (starts_at p.at x)) (live bound past)) (held bound past ++ b ∷ []) byte
        (state_of (freed_mark b ∷ marks bound past) byte)
    freed_now before = go (lies_in b.at (b.at + round_up b.size) byte) refl
      where
        go : (t : Bool) → lies_in b.at (b.at + round_up b.size) byte ≡ t
            → HasReason bound (event.Free p ∷ past) (freed_mark b ∷ marks bound past)
            (filter (λ x. not (starts_at p.at x)) (live bound past)) (held bound past ++ b ∷ []) byte
            (unwrap_or (cond t (Some Freed) None) (state_of (marks bound past) byte))
        go true is =
            let own = inside b.at (b.at + round_up b.size) byte is in was_freed b (in_queue b refl) own.0 own.1
        go false is =
            more_marks (event.Free p ∷ past) (freed_mark b) (marks bound past)
            (filter (λ x. not (starts_at p.at x)) (live bound past)) (held bound past ++ b ∷ [])
            (state_of (marks bound past) byte) (rw is refl)
            (queued (marks bound past) (state_of (marks bound past) byte) is before)

    apart_now : (c d : Extent) → Contains (filter (λ x. not (starts_at p.at x)) (live bound past)) c
        → Contains (held bound past ++ b ∷ []) d → meets c d ≡ false
    apart_now c d left queue =
        let found = from_filtered (λ x. not (starts_at p.at x)) (live bound past) c left in
        let all = spans_apart bound past in
        elim (Contains-append_cases (held bound past) (b ∷ []) d queue) [
          | inl is_held ↦ apart_across (live bound past) (held bound past) c d all found.0 is_held
          | inr last ↦ elim (cons_cases d b [] last) [
            | inr none ↦ absurd (in_none d none)
            | inl same ↦
                let off = not-true (starts_at p.at c) found.1 in
                let elsewhere : starts_at c.at b ≡ false = grind (arith, nat_tests) in
                subst (λ (x : Extent). meets c x ≡ false) same
                (apart_beside (live bound past) c b (apart_left (live bound past) (held bound past) all) found.0 has
                elsewhere)
          ]
        ]

    was_queued : ((c : Extent) → Contains (held bound past) c → WasLive bound past c) → (c : Extent)
        → Contains (held bound past ++ b ∷ []) c → WasLive bound (event.Free p ∷ past) c
    was_queued was c is =
        elim (Contains-append_cases (held bound past) (b ∷ []) c is) [
          | inl is_held ↦ later_live past (event.Free p) c (was c is_held)
          | inr last ↦ elim (cons_cases c b [] last) [
            | inr none ↦ absurd (in_none c none)
            | inl same ↦ record {
              since = event.Free p ∷ [];
              before = past;
              split = refl;
              was_live = subst (λ (x : Extent). Contains (live bound past) x) same has;
            }
          ]
        ]

    held_were_live : ((c : Extent) → Contains (held bound past) c → WasLive bound past c) → (c : Extent)
        → Contains (held bound (event.Free p ∷ past)) c → WasLive bound (event.Free p ∷ past) c
    held_were_live was c is =
        was_queued was c (subst (λ (bs : List Extent). Contains bs c) parts.1
        (Contains-append_right parts.0 (held bound (event.Free p ∷ past)) c is))

    by_free : ((c : Extent) → Contains (held bound past) c → WasLive bound past c)
        → HasReasonAfter bound past byte (state_of (marks bound past) byte)
        → HasReasonAfter bound (event.Free p ∷ past) byte (state_of (marks bound (event.Free p ∷ past)) byte)
    by_free was before =
        let left = filter (λ x. not (starts_at p.at x)) (live bound past) in
        let laid = freed_mark b ∷ marks bound past in
        carried (event.Free p ∷ past) (with_marks released_mark parts.0 laid) (marks bound (event.Free p ∷ past)) left
        (live bound (event.Free p ∷ past)) (held bound (event.Free p ∷ past)) (held bound (event.Free p ∷ past))
        (frees.marks_after bound past p b has here parts.0 parts.1) (live_free bound p past) refl
        (by_releases (event.Free p ∷ past) left parts.0 (held bound (event.Free p ∷ past)) laid
        (λ c is. was_queued was c (subst (λ (bs : List Extent). Contains bs c) parts.1 is))
        (subst (λ (bs : List Extent). IsDistinct meets bs) (sym parts.1) (frees.queue_apart bound past p b has here))
        (λ c d is_left is_queued. apart_now c d is_left (subst (λ (bs : List Extent). Contains bs d) parts.1 is_queued))
        (subst (λ (bs : List Extent). HasReason bound (event.Free p ∷ past) laid left bs byte (state_of laid byte))
        (sym parts.1)
        (freed_now (more_events past (event.Free p) (marks bound past) (live bound past) (held bound past) _ before))))

  -- ---- a history

  once_live : (past : List Event) (c : Extent) → Contains (held bound past) c → WasLive bound past c
  once_live [] c is = absurd (in_none c is)
  once_live (event.Free p ∷ past) c is =
      go (list_any (starts_at p.at) (live bound past)) refl (λ d has. once_live past d has)
    where
      go : (t : Bool) → list_any (starts_at p.at) (live bound past) ≡ t
          → ((d : Extent) → Contains (held bound past) d → WasLive bound past d) → WasLive bound (event.Free p ∷ past) c
      go false none was = later_live past (event.Free p) c (was c
          (subst (λ (bs : List Extent). Contains bs c) (frees.held_stays bound past p none) is))
      go true any was = let it = found past p any in held_were_live past p it.0 it.1 it.2 was c is
  once_live (event.Malloc r ∷ past) c is =
      later_live past (event.Malloc r) c (once_live past c
      (subst (λ (bs : List Extent). Contains bs c) (held_malloc bound r past) is))
  once_live (e ∷ past) c is = later_live past e c (once_live past c is)

  reason : (past : List Event) → HasReasonAfter bound past byte (state_of (marks bound past) byte)
  reason [] = allowed
  reason (event.Poison s ∷ past) = by_poison past s (reason past)
  reason (event.Unpoison r ∷ past) = by_unpoison past r (reason past)
  reason (event.Malloc r ∷ past) = by_malloc past r (reason past)
  reason (event.Free p ∷ past) = go (list_any (starts_at p.at) (live bound past)) refl (reason past)
    where
      go : (t : Bool) → list_any (starts_at p.at) (live bound past) ≡ t
          → HasReasonAfter bound past byte (state_of (marks bound past) byte)
          → HasReasonAfter bound (event.Free p ∷ past) byte (state_of (marks bound (event.Free p ∷ past)) byte)
      go false none before =
          carried (event.Free p ∷ past) (marks bound past) (marks bound (event.Free p ∷ past)) (live bound past)
          (live bound (event.Free p ∷ past)) (held bound past) (held bound (event.Free p ∷ past))
          (frees.marks_stay bound past p none) (frees.live_stays bound past p none)
          (frees.held_stays bound past p none)
          (more_events past (event.Free p) (marks bound past) (live bound past) (held bound past) _ before)
      go true any before =
          let it = found past p any in by_free past p it.0 it.1 it.2 (once_live past) before
  reason (e ∷ past) = more_events past e (marks bound past) (live bound past) (held bound past) _ (reason past)

  -- ---- classes

  true_of_poison : (past : List Event) (s : Shade) (k : Kind) → shade_kind s ≡ k
      → IsPoisonedLast bound past (marks bound past) s byte → IsTrueOf bound past byte (class_of_code (code_of_kind k))
  true_of_poison past s kind.User is last = (s, is, last)
  true_of_poison past s kind.Stack is last = (s, is, last)
  true_of_poison past s kind.Global is last = (s, is, last)

  true_of : (past : List Event) (state : State) → HasReasonAfter bound past byte state
      → state_of (marks bound past) byte ≡ state → IsTrueOf bound past byte (class_of_code (code_of state))
  true_of past state allowed is = subst (λ (st : State). IsTrue (is_addressable st)) (sym is) refl
  true_of past state (beside_live b has span beside) is = inl (b, has, span, beside)
  true_of past state (beside_held b has span beside) is = inr (inl (b, has, span, beside))
  true_of past state (released b was span none) is = inr (inr (b, was, span, none))
  true_of past state (was_freed b has above below) is = (b, has, above, below)
  true_of past state (poisoned s last) is = true_of_poison past s (shade_kind s) refl last

-- the class of a report on an access is that of the byte that decides
class_said : (is_store : Bool) (a : Access) (c d : Class) (s t : ℕ) (b : ℕ) (bad : Option ℕ)
    → option_map (λ (x : ℕ). fault.Access is_store a.width a.at x c s) bad
    ≡ Some (fault.Access is_store a.width a.at b d t) → c ≡ d
class_said is_store a c d s t b None is = cc
class_said is_store a c d s t b (Some x) is = cc

pub class_is_true : (bound : ℕ) (past : List Event) (is_store : Bool) (a : Access) (bad : ℕ) (c : Class) (shadow : ℕ)
    → access_fault (state_of (marks bound past)) is_store a ≡ Some (fault.Access is_store a.width a.at bad c shadow)
    → IsTrueOf bound past (8 * deciding_granule (state_of (marks bound past)) a.at) c
class_is_true bound past is_store a bad c shadow is =
    let byte = 8 * deciding_granule (state_of (marks bound past)) a.at in
    subst (IsTrueOf bound past byte)
    (class_said is_store a (class_of (state_of (marks bound past)) a.at) c
    (lift (state_of (marks bound past)) (granule_of a.at)) shadow bad
    (bad_byte_of (state_of (marks bound past)) a.at a.width) is)
    (true_of bound byte past (state_of (marks bound past) byte) (reason bound byte past) refl)
