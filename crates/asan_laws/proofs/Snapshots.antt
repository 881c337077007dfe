-- A history that is a snapshot of another: what its blocks are, that nothing is wrong in it, and in which granules
-- it has left the same.
use Rattle.std.proofs.Common.{◌≡◌, ℕ, zero, suc, ◌+◌, ◌*◌, ◌≤◌, ◌<◌, Bool, true, false, cond, eqb}
use Rattle.std.proofs.Common.{List, [], ◌∷◌, ◌++◌, Some, None, refl, sym, ap, subst, ◌∙◌, arith, inl, inr, append_assoc}
use Rattle.std.proofs.Common.{leb, ltb, add-zero}
use Rattle.std.specs.Prelude.{◌⊎◌, not, ◌&&◌, ◌||◌, filter, Contains, sum_by}
use Rattle.std.specs.List.{IsDistinct, list_any, list_all}
use Rattle.std.specs.List.Sorted.{IsPermutation}
use Rattle.std.proofs.lemmas.Bool.{and_parts, not_from_false, false≢true, false_from_ne_true, eq-eqb, leb-true}
use Rattle.std.proofs.lemmas.Bool.{ltb-true}
use Rattle.std.proofs.lemmas.Bool.Decides.{nat_tests}
use Rattle.std.proofs.lemmas.List.{append-nil}
use Rattle.std.proofs.lemmas.List.Sums.{sum_by-append}
use Rattle.std.proofs.lemmas.List.Elements.{Contains-append_left, Contains-append_cases}
use Rattle.std.proofs.lemmas.List.Elements.{Contains-push, filter-append}
use Rattle.std.proofs.lemmas.List.Sorted.{IsPermutation-sym, IsPermutation-middle, IsPermutation-append_left}
use Rattle.std.proofs.lemmas.List.Sorted.{IsPermutation-append_comm, Contains-permutation}
use Rattle.std.proofs.lemmas.Map.Keys.{IsDistinct-IsPermutation, IsDistinct-head, IsDistinct-tail}
use Rattle.trace_record.specs.declared.event.Event.{Event}
use Rattle.trace_record.specs.declared.event.Event.TheVariants as event
use Rattle.trace_record.specs.declared.event.Place.{Place}
use Rattle.trace_record.specs.declared.event.Region.{Region}
use Rattle.trace_record.specs.declared.shade.Shade.{Shade}
use Rattle.shadow_map.specs.States.{State, Addressable, Coded, Mark, Block, state_of, lift}
use Rattle.shadow_map.specs.States.{addressable_front, shadow_byte, lies_in}
use Rattle.trace_record.specs.Shades.{shade_size, shade_kind}
use Rattle.heap_book.specs.Spans.{Extent, IsPlaced, span_from, span_to}
use Rattle.heap_book.specs.Spans.{span_bytes, meets, held_of, starts_at}
use Rattle.heap_book.proofs.Held.{held-within, held-total}
use Rattle.heap_book.proofs.NeverMeet.{may_be_admitted-true, meets-flip}
use Rattle.asan_units.specs.Units.{round_up}
use Rattle.asan_check.specs.Codes.{code_of_kind}
use Rattle.asan_check.specs.History.{block_of, live, freed, held, admits, marks, freed_mark}
use Rattle.asan_check.specs.Verdicts.{fault_of, verdicts_of}
use Rattle.asan_check.specs.declared.report.Fault.TheVariants as fault
use Rattle.asan_laws.specs.Laws.{asks_for, since_malloc, since_free}
use Rattle.asan_laws.specs.Snapshots.{StandTheSame, LaysOut, lays_none, lays_live, lays_held, is_shade, IsSnapshot}
use Rattle.asan_laws.specs.Snapshots.{NoneShares, LiesInSpan, LiesInBytes, IsAsLaid, in_live, in_held, around_held}
use Rattle.asan_laws.specs.Snapshots.{in_no_span}
use Rattle.asan_check.proofs.Steps.{live_malloc, held_malloc, live_free, spans_apart}
use Rattle.asan_check.proofs.Members.{in_none, in_head, in_tail, cons_cases, at_element, none_from, passes_any}
use Rattle.asan_check.proofs.Members.{none_passes, apart_starts, filter_all}
use Rattle.asan_check.proofs.Blocks.{live_placed}
use Rattle.asan_laws.proofs.Blocks.{held_placed}
use Rattle.asan_laws.proofs.Frames.{IsInSpan}
use Rattle.asan_laws.proofs.Histories.{held_found}
use Rattle.asan_laws.proofs.Bytes.{own_marks_leave, live_span, held_bytes, held_redzone}
use Rattle.asan_laws.proofs.SameBlocks.{is_other, shade_is_none, shade_is_good}
use Rattle.asan_laws.proofs.Poisons.{poisoned}
use Rattle.asan_check.proofs.Frees as frees

-- ---- blocks that have room beside each other

-- blocks that may be live, and blocks that may be held, at one time
pub record Fit (bound : ℕ) (lives helds : List Extent) : Type 0 where
  pub apart : IsDistinct meets (lives ++ helds)
  pub placed : (b : Extent) → Contains (lives ++ helds) b → IsPlaced b
  pub within : sum_by span_bytes helds ≤ bound

-- those of a history
pub fit_of : (bound : ℕ) (past : List Event) (lives : List Extent) → IsPermutation lives (live bound past)
    → Fit bound lives (held bound past)
fit_of bound past lives same =
    let all : IsPermutation (lives ++ held bound past) (live bound past ++ held bound past) =
    IsPermutation-append_left (held bound past) lives (live bound past) same in
    record {
      apart = IsDistinct-IsPermutation meets meets-flip _ _ (IsPermutation-sym _ _ all) (spans_apart bound past);
      placed = λ b has. elim (Contains-append_cases (live bound past) (held bound past) b
          (Contains-permutation _ _ b all has)) [
            | inl is_live ↦ live_placed bound past b is_live
            | inr is_held ↦ held_placed bound past b is_held
          ];
      within = held-total bound (freed bound past);
    }

-- of blocks that fit, one that stands at the head has room beside the others, which fit too
record HasRoom (bound : ℕ) (lives helds : List Extent) (b : Extent) : Type 0 where
  others : Fit bound lives helds
  placed : IsPlaced b
  none : list_any (meets b) (lives ++ helds) ≡ false

room_by : (bound : ℕ) (lives helds all : List Extent) (b : Extent) → IsPermutation (b ∷ lives ++ helds) all
    → IsDistinct meets all → ((c : Extent) → Contains all c → IsPlaced c) → sum_by span_bytes helds ≤ bound
    → HasRoom bound lives helds b
room_by bound lives helds all b same apart placed within =
    let others = lives ++ helds in
    let front = IsDistinct-IsPermutation meets meets-flip all (b ∷ others) (IsPermutation-sym _ _ same) apart in
    let each : (c : Extent) → Contains (b ∷ others) c → IsPlaced c =
    λ c has. placed c (Contains-permutation (b ∷ others) all c same has) in
    record {
      others = record {
        apart = IsDistinct-tail meets b others front;
        placed = λ c has. each c (in_tail c b others has);
        within = within;
      };
      placed = each b (in_head b others);
      none = none_from (meets b) others (λ c has. at_element (λ w. meets b w ≡ false) others c
          (IsDistinct-head meets b others front) has);
    }

live_first : (lives helds : List Extent) (b : Extent) → IsPermutation (b ∷ lives ++ helds) ((lives ++ b ∷ []) ++ helds)
live_first lives helds b = rw (append_assoc lives (b ∷ []) helds) (IsPermutation-sym (lives ++ b ∷ helds) _
    (IsPermutation-middle lives b helds))

held_first : (lives helds : List Extent) (b : Extent) → IsPermutation (b ∷ lives ++ helds) (lives ++ (helds ++ b ∷ []))
held_first lives helds b = subst (λ all. IsPermutation (b ∷ lives ++ helds) all) (append_assoc lives helds (b ∷ []))
    (IsPermutation-append_comm (b ∷ []) (lives ++ helds))

room_of_live : (bound : ℕ) (lives helds : List Extent) (b : Extent) → Fit bound (lives ++ b ∷ []) helds
    → HasRoom bound lives helds b
room_of_live bound lives helds b fit =
    room_by bound lives helds ((lives ++ b ∷ []) ++ helds) b (live_first lives helds b) fit.apart fit.placed fit.within

room_of_held : (bound : ℕ) (lives helds : List Extent) (b : Extent) → Fit bound lives (helds ++ b ∷ [])
    → HasRoom bound lives helds b
room_of_held bound lives helds b fit =
    room_by bound lives helds (lives ++ (helds ++ b ∷ [])) b (held_first lives helds b) fit.apart fit.placed
    (let all : sum_by span_bytes (helds ++ b ∷ []) ≡ sum_by span_bytes helds + sum_by span_bytes (b ∷ []) =
    sum_by-append span_bytes helds (b ∷ []) in
    let le = fit.within in
    omega arith)

-- ---- what is laid out

-- nothing is wrong with one more event
still_quiet : (bound : ℕ) (past : List Event) (e : Event) → verdicts_of bound past ≡ [] → fault_of bound past e ≡ None
    → verdicts_of bound (e ∷ past) ≡ []
still_quiet bound past e quiet none = rw (none, quiet) refl

-- a history that lays these blocks out: they are live, and held, and nothing is wrong in it
pub record Stand (bound : ℕ) (laid : List Event) (lives helds : List Extent) : Type 0 where
  pub lives_are : live bound laid ≡ lives
  pub helds_are : held bound laid ≡ helds
  pub quiet : verdicts_of bound laid ≡ []

-- one more malloc, whose block has room
module _ (bound : ℕ) (laid : List Event) (lives helds : List Extent) (r : Region) (s : Stand bound laid lives helds)
    (room : HasRoom bound lives helds (block_of r)) where
  admitted : admits bound laid (block_of r) ≡ true
  admitted = rw (s.lives_are, s.helds_are) (may_be_admitted-true (lives ++ helds) (block_of r) room.placed room.none)

  good_malloc : fault_of bound laid (event.Malloc r) ≡ None
  good_malloc = rw admitted (go (eqb r.at 0))
    where
      go : (t : Bool) → cond (t || true) None (Some (fault.BadMalloc r.at r.size)) ≡ None
      go true = refl
      go false = refl

  stand_live : Stand bound (event.Malloc r ∷ laid) (lives ++ block_of r ∷ []) helds
  stand_live = record {
    lives_are = live_malloc bound r laid admitted ∙ ap (λ bs. bs ++ block_of r ∷ []) s.lives_are;
    helds_are = held_malloc bound r laid ∙ s.helds_are;
    quiet = still_quiet bound laid (event.Malloc r) s.quiet good_malloc;
  }

  -- and its free, where the bound has room too
  module _ (p : Place) (here : p.at ≡ r.at) (within : sum_by span_bytes (helds ++ block_of r ∷ []) ≤ bound) where
    now_live : Contains (live bound (event.Malloc r ∷ laid)) (block_of r)
    now_live = rw stand_live.lives_are (Contains-push lives (block_of r))

    starts_here : starts_at p.at (block_of r) ≡ true
    starts_here = eq-eqb r.at p.at (sym here)

    good_free : fault_of bound (event.Malloc r ∷ laid) (event.Free p) ≡ None
    good_free = rw (passes_any (starts_at p.at) (live bound (event.Malloc r ∷ laid)) (block_of r) now_live starts_here)
        (go (eqb p.at 0))
      where
        go : (t : Bool) → cond (t || true) None (cond (list_any (starts_at p.at) (held bound (event.Malloc r ∷ laid)))
            (Some (fault.DoubleFree p.at)) (Some (fault.BadFree p.at))) ≡ None
        go true = refl
        go false = refl

    now_held : held bound (event.Free p ∷ event.Malloc r ∷ laid) ≡ helds ++ block_of r ∷ []
    now_held =
        frees.held_after bound (event.Malloc r ∷ laid) p (block_of r) now_live (sym here)
        ∙ ap (λ hs. held_of bound (hs ++ block_of r ∷ [])) stand_live.helds_are
        ∙ held-within bound (helds ++ block_of r ∷ []) within

    others_stay : live bound (event.Free p ∷ event.Malloc r ∷ laid) ≡ lives
    others_stay =
        live_free bound p (event.Malloc r ∷ laid)
        ∙ ap (filter (λ x. not (starts_at p.at x))) stand_live.lives_are
        ∙ filter-append (λ x. not (starts_at p.at x)) lives (block_of r ∷ [])
        ∙ ap (λ bs. bs ++ filter (λ x. not (starts_at p.at x)) (block_of r ∷ []))
        (filter_all (λ x. not (starts_at p.at x)) lives (λ x has. not_from_false _ (elsewhere_starts x has)))
        ∙ rw starts_here (append-nil lives)
      where
        elsewhere_starts : (x : Extent) → Contains lives x → starts_at p.at x ≡ false
        elsewhere_starts x has = subst (λ (at : ℕ). starts_at at x ≡ false) (sym here)
            (apart_starts (block_of r) x (none_passes (meets (block_of r)) (lives ++ helds) x room.none
            (Contains-append_left lives helds x has)))

    stand_held : Stand bound (event.Free p ∷ event.Malloc r ∷ laid) lives (helds ++ block_of r ∷ [])
    stand_held = record {
      lives_are = others_stay;
      helds_are = now_held;
      quiet = still_quiet bound (event.Malloc r ∷ laid) (event.Free p) stand_live.quiet good_free;
    }

    freed_marks : marks bound (event.Free p ∷ event.Malloc r ∷ laid)
        ≡ freed_mark (block_of r) ∷ Block r.at r.size ∷ marks bound laid
    freed_marks =
        frees.marks_after bound (event.Malloc r ∷ laid) p (block_of r) now_live (sym here) []
        (now_held ∙ ap (λ hs. hs ++ block_of r ∷ []) (sym stand_live.helds_are))
        ∙ ap (λ ms. freed_mark (block_of r) ∷ ms) (rw admitted refl)

pub stands : (bound : ℕ) (laid : List Event) (lives helds : List Extent) → LaysOut laid lives helds
    → Fit bound lives helds → Stand bound laid lives helds
stands bound laid lives helds lays_none fit = record { lives_are = refl; helds_are = refl; quiet = refl }
stands bound laid lives helds (lays_live r past ls hs way) fit =
    let room = room_of_live bound ls hs (block_of r) fit in
    stand_live bound past ls hs r (stands bound past ls hs way room.others) room
stands bound laid lives helds (lays_held r p past ls hs here way) fit =
    let room = room_of_held bound ls hs (block_of r) fit in
    stand_held bound past ls hs r (stands bound past ls hs way room.others) room p here fit.within

-- ---- bytes in no span

off_span : (b : Extent) (byte : ℕ) → ¬ IsInSpan b byte → lies_in (span_from b) (span_to b) byte ≡ false
off_span b byte out = false_from_ne_true _ (λ inside.
    let parts = and_parts (leb (span_from b) byte) (ltb byte (span_to b)) inside in
    out record { from = leb-true _ _ parts.0; to = ltb-true _ _ parts.1 })

block_off : (b : Extent) (byte : ℕ) (ms : List Mark) → lies_in (span_from b) (span_to b) byte ≡ false
    → state_of (Block b.at b.size ∷ ms) byte ≡ state_of ms byte
block_off b byte ms off = rw off refl

freed_off : (b : Extent) (byte : ℕ) (ms : List Mark) → lies_in (span_from b) (span_to b) byte ≡ false
    → state_of (freed_mark b ∷ ms) byte ≡ state_of ms byte
freed_off b byte ms off =
    let out : lies_in b.at (b.at + round_up b.size) byte ≡ false = grind (arith, nat_tests) in
    rw out refl

elsewhere : (bound : ℕ) (laid : List Event) (lives helds : List Extent) → LaysOut laid lives helds
    → Fit bound lives helds → (byte : ℕ) → ((b : Extent) → Contains (lives ++ helds) b → ¬ IsInSpan b byte) →
    state_of (marks bound laid) byte ≡ Addressable
elsewhere bound laid lives helds lays_none fit byte out = refl
elsewhere bound laid lives helds (lays_live r past ls hs way) fit byte out =
    let b = block_of r in
    let room = room_of_live bound ls hs b fit in
    let s = stands bound past ls hs way room.others in
    let in_all : (c : Extent) → Contains (b ∷ ls ++ hs) c → Contains ((ls ++ b ∷ []) ++ hs) c =
    λ c has. Contains-permutation _ _ c (live_first ls hs b) has in
    let off = off_span b byte (out b (in_all b (in_head b (ls ++ hs)))) in
    rw (admitted bound past ls hs r s room) (block_off b byte (marks bound past) off)
    ∙ elsewhere bound past ls hs way room.others byte (λ c has. out c (in_all c (in_tail c b (ls ++ hs) has)))
elsewhere bound laid lives helds (lays_held r p past ls hs here way) fit byte out =
    let b = block_of r in
    let room = room_of_held bound ls hs b fit in
    let s = stands bound past ls hs way room.others in
    let in_all : (c : Extent) → Contains (b ∷ ls ++ hs) c → Contains (ls ++ (hs ++ b ∷ [])) c =
    λ c has. Contains-permutation _ _ c (held_first ls hs b) has in
    let off = off_span b byte (out b (in_all b (in_head b (ls ++ hs)))) in
    ap (λ ms. state_of ms byte) (freed_marks bound past ls hs r s room p here fit.within)
    ∙ freed_off b byte (Block r.at r.size ∷ marks bound past) off
    ∙ block_off b byte (marks bound past) off
    ∙ elsewhere bound past ls hs way room.others byte (λ c has. out c (in_all c (in_tail c b (ls ++ hs) has)))

-- ---- no poison and no unpoison

no_poison : (laid : List Event) (lives helds : List Extent) → LaysOut laid lives helds → (s : Shade)
    → Contains laid (event.Poison s) → ⊥
no_poison laid lives helds lays_none s has = in_none _ has
no_poison laid lives helds (lays_live r past ls hs way) s has =
    elim (cons_cases (event.Poison s) (event.Malloc r) past has) [
      | inl same ↦ absurd cc
      | inr more ↦ no_poison past ls hs way s more
    ]
no_poison laid lives helds (lays_held r p past ls hs here way) s has =
    elim (cons_cases (event.Poison s) (event.Free p) (event.Malloc r ∷ past) has) [
      | inl same ↦ absurd cc
      | inr more ↦ elim (cons_cases (event.Poison s) (event.Malloc r) past more) [
        | inl same ↦ absurd cc
        | inr rest ↦ no_poison past ls hs way s rest
      ]
    ]

no_unpoison : (laid : List Event) (lives helds : List Extent) → LaysOut laid lives helds → (u : Region)
    → Contains laid (event.Unpoison u) → ⊥
no_unpoison laid lives helds lays_none u has = in_none _ has
no_unpoison laid lives helds (lays_live r past ls hs way) u has =
    elim (cons_cases (event.Unpoison u) (event.Malloc r) past has) [
      | inl same ↦ absurd cc
      | inr more ↦ no_unpoison past ls hs way u more
    ]
no_unpoison laid lives helds (lays_held r p past ls hs here way) u has =
    elim (cons_cases (event.Unpoison u) (event.Free p) (event.Malloc r ∷ past) has) [
      | inl same ↦ absurd cc
      | inr more ↦ elim (cons_cases (event.Unpoison u) (event.Malloc r) past more) [
        | inl same ↦ absurd cc
        | inr rest ↦ no_unpoison past ls hs way u rest
      ]
    ]

-- what stands since a malloc or a free stands in the history
longer : (e f : Event) (since past : List Event) → (Contains since e → Contains past e) → Contains (f ∷ since) e
    → Contains (f ∷ past) e
longer e f since past rest has =
    elim (cons_cases e f since has) [
      | inl same ↦ subst (λ x. Contains (f ∷ past) x) same (in_head f past)
      | inr more ↦ in_tail e f past (rest more)
    ]

since_malloc_part : (bound : ℕ) (past : List Event) (b : Extent) (e : Event) → Contains (since_malloc bound past b) e
    → Contains past e
since_malloc_part bound [] b e has = has
since_malloc_part bound (event.Malloc r ∷ past) b e has =
    go (asks_for b r && admits bound past b) has (since_malloc_part bound past b e)
  where
    go : (t : Bool) → Contains (cond t [] (event.Malloc r ∷ since_malloc bound past b)) e
        → (Contains (since_malloc bound past b) e → Contains past e) → Contains (event.Malloc r ∷ past) e
    go true has rest = absurd (in_none e has)
    go false has rest = longer e (event.Malloc r) (since_malloc bound past b) past rest has
since_malloc_part bound (f ∷ past) b e has =
    longer e f (since_malloc bound past b) past (since_malloc_part bound past b e) has

since_free_part : (bound : ℕ) (past : List Event) (b : Extent) (e : Event) → Contains (held bound past) b
    → Contains (since_free bound past b) e → Contains past e
since_free_part bound past b e is_held has =
    let found = held_found bound past b is_held in
    subst (λ es. Contains es e) (sym found.split) (Contains-append_left (since_free bound past b) _ e has)

-- ---- granules

-- a granule's shadow byte depends on the states of its bytes alone
front_same : (one other : ℕ → State) (byte count : ℕ) → ((i : ℕ) → i < count → one (byte + i) ≡ other (byte + i))
    → addressable_front one byte count ≡ addressable_front other byte count
front_same one other byte zero each = refl
front_same one other byte (suc count) each =
    let first : one byte ≡ other byte = rw (add-zero byte) at (each 0 (omega arith)) in
    let rest = front_same one other (byte + 1) count (λ i lt. rw (one_more byte i) (each (suc i) (omega arith))) in
    rw (first, rest) refl
  where
    one_more : (m n : ℕ) → m + 1 + n ≡ m + suc n
    one_more m n = omega arith

pub lift_same : (one other : ℕ → State) (granule : ℕ)
    → ((byte : ℕ) → 8 * granule ≤ byte → byte < 8 * granule + 8 → one byte ≡ other byte) →
    lift one granule ≡ lift other granule
lift_same one other granule each =
    let front = front_same one other (8 * granule) 8 (λ i lt. each (8 * granule + i) (omega arith) (omega arith)) in
    let first = each (8 * granule) (omega arith) (omega arith) in
    ap (λ (n : ℕ). shadow_byte n (one (8 * granule))) front
    ∙ ap (shadow_byte (addressable_front other (8 * granule) 8)) first

-- a span is made up of granules
pub granule_in_span : (b : Extent) (granule byte : ℕ) → IsPlaced b → LiesInSpan b granule → 8 * granule ≤ byte
    → byte < 8 * granule + 8 → IsInSpan b byte
granule_in_span b granule byte placed inside above below =
    let start = placed.0 in
    let room = placed.1 in
    let from = inside.0 in
    let to = inside.1 in
    record { from = omega arith; to = omega arith }

span_has_granule : (b : Extent) (granule byte : ℕ) → IsPlaced b → IsInSpan b byte → 8 * granule ≤ byte
    → byte < 8 * granule + 8 → LiesInSpan b granule
span_has_granule b granule byte placed inside above below =
    let start = placed.0 in
    let room = placed.1 in
    let from = inside.from in
    let to = inside.to in
    (omega arith, omega arith)

module _ (bound : ℕ) (one other : List Event) (granule : ℕ) (b : Extent) (placed : IsPlaced b) where
  pub same_in_live : Contains (live bound one) b → Contains (live bound other) b → LiesInSpan b granule
      → NoneShares (since_malloc bound one b) granule → NoneShares (since_malloc bound other b) granule →
      lift (state_of (marks bound one)) granule ≡ lift (state_of (marks bound other)) granule
  same_in_live has also inside clear clear' =
      lift_same (state_of (marks bound one)) (state_of (marks bound other)) granule (λ byte above below.
      let in_span = granule_in_span b granule byte placed inside above below in
      live_span bound one b byte (8 * granule) (8 * granule + 8) has in_span above below clear
      ∙ sym (live_span bound other b byte (8 * granule) (8 * granule + 8) also in_span above below clear'))

  pub same_in_held : Contains (held bound one) b → Contains (held bound other) b → LiesInBytes b granule
      → NoneShares (since_free bound one b) granule → NoneShares (since_free bound other b) granule →
      lift (state_of (marks bound one)) granule ≡ lift (state_of (marks bound other)) granule
  same_in_held has also inside clear clear' =
      let start = placed.0 in
      let from = inside.0 in
      let to = inside.1 in
      lift_same (state_of (marks bound one)) (state_of (marks bound other)) granule (λ byte above below.
      held_bytes bound one b byte (8 * granule) (8 * granule + 8) has (omega arith) (omega arith) above below clear
      ∙ sym (held_bytes bound other b byte (8 * granule) (8 * granule + 8) also (omega arith) (omega arith) above below
      clear'))

  pub out_of_bytes : ¬ LiesInBytes b granule → (byte : ℕ) → 8 * granule ≤ byte → byte < 8 * granule + 8
      → lies_in b.at (b.at + round_up b.size) byte ≡ false
  out_of_bytes outside byte above below = false_from_ne_true _ (λ within.
      let parts = and_parts (leb b.at byte) (ltb byte (b.at + round_up b.size)) within in
      let start = placed.0 in
      let least = leb-true _ _ parts.0 in
      let most = ltb-true _ _ parts.1 in
      outside (omega arith, omega arith))

  pub same_around_held : Contains (held bound one) b → Contains (held bound other) b → LiesInSpan b granule
      → ¬ LiesInBytes b granule → NoneShares (since_malloc bound one b) granule
      → NoneShares (since_malloc bound other b) granule →
      lift (state_of (marks bound one)) granule ≡ lift (state_of (marks bound other)) granule
  same_around_held has also inside outside clear clear' =
      lift_same (state_of (marks bound one)) (state_of (marks bound other)) granule (λ byte above below.
      let in_span = granule_in_span b granule byte placed inside above below in
      let out = out_of_bytes outside byte above below in
      held_redzone bound one b byte (8 * granule) (8 * granule + 8) has in_span out above below clear
      ∙ sym (held_redzone bound other b byte (8 * granule) (8 * granule + 8) also in_span out above below clear'))

-- ---- what is laid out, in granules

module _ (bound : ℕ) (laid past : List Event) (lives : List Extent) (way : LaysOut laid lives (held bound past))
    (same : IsPermutation lives (live bound past)) where
  fit : Fit bound lives (held bound past)
  fit = fit_of bound past lives same

  stand : Stand bound laid lives (held bound past)
  stand = stands bound laid lives (held bound past) way fit

  still_live : (b : Extent) → Contains (live bound past) b → Contains (live bound laid) b
  still_live b has =
      rw stand.lives_are (Contains-permutation (live bound past) lives b (IsPermutation-sym _ _ same) has)

  still_held : (b : Extent) → Contains (held bound past) b → Contains (held bound laid) b
  still_held b has = rw stand.helds_are has

  clear_malloc : (b : Extent) (granule : ℕ) → NoneShares (since_malloc bound laid b) granule
  clear_malloc b granule = (
    λ s has shares. no_poison laid lives (held bound past) way s (since_malloc_part bound laid b _ has),
    λ u has shares. no_unpoison laid lives (held bound past) way u (since_malloc_part bound laid b _ has),
  )

  clear_free : (b : Extent) (granule : ℕ) → Contains (held bound laid) b → NoneShares (since_free bound laid b) granule
  clear_free b granule is_held = (
    λ s has shares. no_poison laid lives (held bound past) way s (since_free_part bound laid b _ is_held has),
    λ u has shares. no_unpoison laid lives (held bound past) way u (since_free_part bound laid b _ is_held has),
  )

  among : (b : Extent) → Contains (lives ++ held bound past) b → Contains (live bound past ++ held bound past) b
  among b has = Contains-permutation (lives ++ held bound past) (live bound past ++ held bound past) b
      (IsPermutation-append_left (held bound past) lives (live bound past) same) has

  pub as_laid : (granule : ℕ) → IsAsLaid bound past granule
      → lift (state_of (marks bound laid)) granule ≡ lift (state_of (marks bound past)) granule
  as_laid granule (in_live b has inside clear) =
      same_in_live bound laid past granule b (live_placed bound past b has) (still_live b has) has inside
      (clear_malloc b granule) clear
  as_laid granule (in_held b has inside clear) =
      same_in_held bound laid past granule b (held_placed bound past b has) (still_held b has) has inside
      (clear_free b granule (still_held b has)) clear
  as_laid granule (around_held b has inside outside clear) =
      same_around_held bound laid past granule b (held_placed bound past b has) (still_held b has) has inside outside
      (clear_malloc b granule) clear
  as_laid granule (in_no_span out none) =
      lift_same (state_of (marks bound laid)) (state_of []) granule (λ byte above below.
      elsewhere bound laid lives (held bound past) way fit byte (λ b has inside.
      out b (among b has) (span_has_granule b granule byte (fit.placed b has) inside above below)))
      ∙ sym none

-- ---- poisons and unpoisons after it

module _ (bound : ℕ) (laid : List Event) where
  shaded_blocks : (shades : List Event) → list_all is_shade shades ≡ true
      → (live bound (shades ++ laid) ≡ live bound laid) × (held bound (shades ++ laid) ≡ held bound laid)
  shaded_blocks [] are = (refl, refl)
  shaded_blocks (e ∷ shades) are =
      let parts = and_parts (is_shade e) (list_all is_shade shades) are in
      let one = is_other e (shade_is_none e parts.0) bound (shades ++ laid) in
      let rest = shaded_blocks shades parts.1 in
      (one.0 ∙ rest.0, one.1 ∙ rest.1)

  shaded_quiet : (shades : List Event) → list_all is_shade shades ≡ true → verdicts_of bound laid ≡ []
      → verdicts_of bound (shades ++ laid) ≡ []
  shaded_quiet [] are quiet = quiet
  shaded_quiet (e ∷ shades) are quiet =
      let parts = and_parts (is_shade e) (list_all is_shade shades) are in
      still_quiet bound (shades ++ laid) e (shaded_quiet shades parts.1 quiet)
      (shade_is_good bound (shades ++ laid) e parts.0)

  module _ (granule : ℕ) where
    unshaded : (shades : List Event) → list_all is_shade shades ≡ true → NoneShares shades granule → (byte : ℕ)
        → 8 * granule ≤ byte → byte < 8 * granule + 8 →
        state_of (marks bound (shades ++ laid)) byte ≡ state_of (marks bound laid) byte
    unshaded [] are clear byte above below = refl
    unshaded (event.Malloc r ∷ shades) are clear byte above below = absurd (false≢true are)
    unshaded (event.Free p ∷ shades) are clear byte above below = absurd (false≢true are)
    unshaded (e ∷ shades) are clear byte above below =
        own_marks_leave e shades byte (8 * granule) (8 * granule + 8) (marks bound (shades ++ laid)) above below clear
        ∙ unshaded shades (and_parts (is_shade e) (list_all is_shade shades) are).1
        (λ t has. clear.0 t (in_tail _ _ shades has), λ u has. clear.1 u (in_tail _ _ shades has)) byte above below

    pub shaded_granule : (shades : List Event) → list_all is_shade shades ≡ true → NoneShares shades granule
        → lift (state_of (marks bound (shades ++ laid))) granule ≡ lift (state_of (marks bound laid)) granule
    shaded_granule shades are clear =
        lift_same (state_of (marks bound (shades ++ laid))) (state_of (marks bound laid)) granule
        (unshaded shades are clear)

-- a granule that lies wholly in the region of a poison, where no later one came near it, has the poison's code
pub shaded_by : (bound : ℕ) (laid shades : List Event) (s : Shade) (granule : ℕ) → list_all is_shade shades ≡ true
    → NoneShares shades granule → s.at ≤ 8 * granule → 8 * granule + 8 ≤ s.at + shade_size s →
    lift (state_of (marks bound (shades ++ event.Poison s ∷ laid))) granule ≡ code_of_kind (shade_kind s)
shaded_by bound laid shades s granule are clear from to =
    shaded_granule bound (event.Poison s ∷ laid) granule shades are clear
    ∙ lift_same (state_of (marks bound (event.Poison s ∷ laid))) (λ byte. Coded (code_of_kind (shade_kind s))) granule
    (λ byte above below.
    poisoned s.at (shade_size s) (code_of_kind (shade_kind s)) (marks bound laid) granule byte from to (omega arith))

-- ---- the whole

module _ (bound : ℕ) (snapshot past : List Event) (is : IsSnapshot bound snapshot past) where
  pub snapshot_live : IsPermutation (live bound snapshot) (live bound past)
  snapshot_live = rw (
    is.parts,
    (shaded_blocks bound is.laid is.shades is.are_shades).0,
    (stand bound is.laid past is.lives is.lays_out is.same_blocks).lives_are,
  ) is.same_blocks

  pub snapshot_held : held bound snapshot ≡ held bound past
  snapshot_held =
      ap (held bound) is.parts ∙ (shaded_blocks bound is.laid is.shades is.are_shades).1
      ∙ (stand bound is.laid past is.lives is.lays_out is.same_blocks).helds_are

  pub snapshot_quiet : verdicts_of bound snapshot ≡ []
  snapshot_quiet =
      ap (verdicts_of bound) is.parts
      ∙ shaded_quiet bound is.laid is.shades is.are_shades
      (stand bound is.laid past is.lives is.lays_out is.same_blocks).quiet

  pub snapshot_granule : (granule : ℕ) → IsAsLaid bound past granule → NoneShares is.shades granule
      → lift (state_of (marks bound snapshot)) granule ≡ lift (state_of (marks bound past)) granule
  snapshot_granule granule alone clear =
      ap (λ es. lift (state_of (marks bound es)) granule) is.parts
      ∙ shaded_granule bound is.laid granule is.shades is.are_shades clear
      ∙ as_laid bound is.laid past is.lives is.lays_out is.same_blocks granule alone

  pub snapshot_stands : ((granule : ℕ) → (IsAsLaid bound past granule × NoneShares is.shades granule)
      ⊎ (lift (state_of (marks bound snapshot)) granule ≡ lift (state_of (marks bound past)) granule))
      → StandTheSame bound snapshot past
  snapshot_stands each = record {
    same_shadow = λ granule. elim (each granule) [
      | inl alone ↦ snapshot_granule granule alone.0 alone.1
      | inr same ↦ same
    ];
    same_live = snapshot_live;
    same_held = snapshot_held;
  }
