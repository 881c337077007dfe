-- A block that is stated looks at once as in the run.
use Rattle.std.proofs.Common.{◌≡◌, ℕ, ◌+◌, ◌*◌, ◌≤◌, Bool, true, false, cond, leb, List, [], ◌∷◌, ◌++◌, refl}
use Rattle.std.proofs.Common.{sym, ap, subst, ◌∙◌, arith, inl, inr}
use Rattle.std.specs.Prelude.{Contains, sum_by}
use Rattle.std.specs.List.{list_any}
use Rattle.std.proofs.lemmas.Bool.{eq-eqb}
use Rattle.std.proofs.lemmas.Bool.Decides.{nat_tests}
use Rattle.std.proofs.lemmas.List.Elements.{Contains-push}
use Rattle.std.proofs.lemmas.List.Sums.{sum_by-cons}
use Rattle.trace_record.specs.declared.event.Event.{Event}
use Rattle.trace_record.specs.declared.event.Event.TheVariants as event
use Rattle.trace_record.specs.declared.event.Place.{Place}
use Rattle.trace_record.specs.declared.event.Region.{Region}
use Rattle.shadow_map.specs.States.{HeapRedzone, code_of, lies_in, state_of, lift}
use Rattle.heap_book.specs.Spans.{Extent, IsPlaced, span_bytes, held_of, starts_at}
use Rattle.asan_units.specs.Units.{round_up}
use Rattle.asan_check.specs.History.{block_of, live, held, admits, marks}
use Rattle.asan_check.proofs.Blocks.{live_placed, admitted_placed}
use Rattle.asan_check.proofs.Frees as frees
use Rattle.asan_check.proofs.Members.{in_none, in_head, in_tail, cons_cases, passes_any}
use Rattle.asan_check.proofs.Steps.{live_malloc}
use Rattle.asan_laws.specs.Laws.{asks_for, since_malloc, since_free}
use Rattle.asan_laws.specs.Snapshots.{NoneShares, LiesInSpan, LiesInBytes}
use Rattle.asan_laws.proofs.Bytes.{live_span, held_bytes, held_redzone}
use Rattle.asan_laws.specs.Runs.{Step, live_in, held_in, marks_in, since_malloc_in, since_free_in}
use Rattle.asan_laws.proofs.RunBytes.{live_span_in, held_bytes_in, held_redzone_in}
use Rattle.asan_laws.proofs.Snapshots.{lift_same, granule_in_span, out_of_bytes}

-- ---- a redzone of a live block

redzone_byte : (b : Extent) (byte : ℕ) → lies_in b.at (b.at + round_up b.size) byte ≡ false
    → lies_in b.at (b.at + b.size) byte ≡ false
redzone_byte b byte off = let round : b.size ≤ round_up b.size = omega arith in grind (arith, nat_tests)

redzone_granule : (bound : ℕ) (recorded : List Event) (granule : ℕ) (b : Extent) → Contains (live bound recorded) b
    → LiesInSpan b granule → ¬ LiesInBytes b granule → NoneShares (since_malloc bound recorded b) granule →
    lift (state_of (marks bound recorded)) granule ≡ code_of HeapRedzone
redzone_granule bound recorded granule b has inside outside clear =
    let placed = live_placed bound recorded b has in
    lift_same (state_of (marks bound recorded)) (λ byte. HeapRedzone) granule (λ byte above below.
    let in_span = granule_in_span b granule byte placed inside above below in
    let off = redzone_byte b byte (out_of_bytes bound recorded recorded granule b placed outside byte above below) in
    live_span bound recorded b byte (8 * granule) (8 * granule + 8) has in_span above below clear
    ∙ rw off refl)

-- ---- a block that was stated just now

itself : (r : Region) → asks_for (block_of r) r ≡ true
itself r = rw (eq-eqb r.at r.at refl, eq-eqb r.size r.size refl) refl

none_share : (granule : ℕ) → NoneShares [] granule
none_share granule = (λ s has shares. in_none _ has, λ u has shares. in_none _ has)

free_shares_none : (p : Place) (granule : ℕ) → NoneShares (event.Free p ∷ []) granule
free_shares_none p granule = (
  λ s has shares. elim (cons_cases (event.Poison s) (event.Free p) [] has) [
    | inl same ↦ absurd cc
    | inr more ↦ in_none _ more
  ],
  λ u has shares. elim (cons_cases (event.Unpoison u) (event.Free p) [] has) [
    | inl same ↦ absurd cc
    | inr more ↦ in_none _ more
  ],
)

-- the last that was freed is held if its span is within the bound
last_is_held : (bound : ℕ) (bs : List Extent) (b : Extent) → span_bytes b ≤ bound
    → Contains (held_of bound (bs ++ b ∷ [])) b
last_is_held bound [] b within =
    let sum : sum_by span_bytes (b ∷ []) ≡ span_bytes b + sum_by span_bytes [] = sum_by-cons span_bytes b [] in
    let fits : leb (sum_by span_bytes (b ∷ [])) bound ≡ true = grind (arith, nat_tests) in
    rw fits (in_head b [])
last_is_held bound (c ∷ bs) b within =
    go (leb (sum_by span_bytes (c ∷ (bs ++ b ∷ []))) bound) (last_is_held bound bs b within)
  where
    go : (t : Bool) → Contains (held_of bound (bs ++ b ∷ [])) b
        → Contains (cond t (c ∷ held_of bound (bs ++ b ∷ [])) (held_of bound (bs ++ b ∷ []))) b
    go true rest = in_tail b c (held_of bound (bs ++ b ∷ [])) rest
    go false rest = rest

module _ (bound : ℕ) (recorded : List Event) (run : List Step) (r : Region) (granule : ℕ)
    (ok : admits bound recorded (block_of r) ≡ true) where
  placed : IsPlaced (block_of r)
  placed = admitted_placed (live bound recorded ++ held bound recorded) (block_of r) ok

  now_live : Contains (live bound (event.Malloc r ∷ recorded)) (block_of r)
  now_live = rw (live_malloc bound r recorded ok) (Contains-push (live bound recorded) (block_of r))

  none_since : since_malloc bound (event.Malloc r ∷ recorded) (block_of r) ≡ []
  none_since = rw (itself r, ok) refl

  clear_malloc : NoneShares (since_malloc bound (event.Malloc r ∷ recorded) (block_of r)) granule
  clear_malloc = rw none_since (none_share granule)

  pub stated_live : Contains (live_in run) (block_of r) → LiesInSpan (block_of r) granule
      → NoneShares (since_malloc_in run (block_of r)) granule →
      lift (state_of (marks bound (event.Malloc r ∷ recorded))) granule ≡ lift (state_of (marks_in run)) granule
  stated_live also inside clear =
      let b = block_of r in
      let stated = event.Malloc r ∷ recorded in
      lift_same (state_of (marks bound stated)) (state_of (marks_in run)) granule (λ byte above below.
      let in_span = granule_in_span b granule byte placed inside above below in
      live_span bound stated b byte (8 * granule) (8 * granule + 8) now_live in_span above below clear_malloc
      ∙ sym (live_span_in run b byte (8 * granule) (8 * granule + 8) also in_span above below clear))

  pub stated_redzone : LiesInSpan (block_of r) granule → ¬ LiesInBytes (block_of r) granule
      → lift (state_of (marks_in run)) granule ≡ code_of HeapRedzone →
      lift (state_of (marks bound (event.Malloc r ∷ recorded))) granule ≡ lift (state_of (marks_in run)) granule
  stated_redzone inside outside is =
      redzone_granule bound (event.Malloc r ∷ recorded) granule (block_of r) now_live inside outside clear_malloc
      ∙ sym is

  -- and its free, of a block that the run holds and that fits into the quarantine of the recording
  module _ (p : Place) (within : span_bytes (block_of r) ≤ bound) (also : Contains (held_in run) (block_of r))
      (here : p.at ≡ r.at) where
    now_held : Contains (held bound (event.Free p ∷ event.Malloc r ∷ recorded)) (block_of r)
    now_held = rw (frees.held_after bound (event.Malloc r ∷ recorded) p (block_of r) now_live (sym here))
        (last_is_held bound (held bound (event.Malloc r ∷ recorded)) (block_of r) within)

    starts_here : starts_at p.at (block_of r) ≡ true
    starts_here = eq-eqb r.at p.at (sym here)

    any_here : list_any (starts_at p.at) (live bound (event.Malloc r ∷ recorded)) ≡ true
    any_here = passes_any (starts_at p.at) (live bound (event.Malloc r ∷ recorded)) (block_of r) now_live starts_here

    none_since_free : since_free bound (event.Free p ∷ event.Malloc r ∷ recorded) (block_of r) ≡ []
    none_since_free = rw (starts_here, any_here) refl

    pub stated_held : LiesInBytes (block_of r) granule → NoneShares (since_free_in run (block_of r)) granule →
        lift (state_of (marks bound (event.Free p ∷ event.Malloc r ∷ recorded))) granule
        ≡ lift (state_of (marks_in run)) granule
    stated_held inside clear =
        let b = block_of r in
        let stated = event.Free p ∷ event.Malloc r ∷ recorded in
        let start = placed.0 in
        let from = inside.0 in
        let to = inside.1 in
        lift_same (state_of (marks bound stated)) (state_of (marks_in run)) granule (λ byte above below.
        held_bytes bound stated b byte (8 * granule) (8 * granule + 8) now_held (omega arith) (omega arith) above below
        (rw none_since_free (none_share granule))
        ∙ sym (held_bytes_in run b byte (8 * granule) (8 * granule + 8) also (omega arith) (omega arith) above below
        clear))

    pub stated_around : LiesInSpan (block_of r) granule → ¬ LiesInBytes (block_of r) granule
        → NoneShares (since_malloc_in run (block_of r)) granule →
        lift (state_of (marks bound (event.Free p ∷ event.Malloc r ∷ recorded))) granule
        ≡ lift (state_of (marks_in run)) granule
    stated_around inside outside clear =
        let b = block_of r in
        let stated = event.Free p ∷ event.Malloc r ∷ recorded in
        lift_same (state_of (marks bound stated)) (state_of (marks_in run)) granule (λ byte above below.
        let in_span = granule_in_span b granule byte placed inside above below in
        let out = out_of_bytes bound recorded recorded granule b placed outside byte above below in
        held_redzone bound stated b byte (8 * granule) (8 * granule + 8) now_held in_span out above below
        (subst (λ es. NoneShares es granule) (sym since_it) (free_shares_none p granule))
        ∙ sym (held_redzone_in run b byte (8 * granule) (8 * granule + 8) also in_span out above below clear))
      where
        since_it : since_malloc bound (event.Free p ∷ event.Malloc r ∷ recorded) (block_of r) ≡ event.Free p ∷ []
        since_it = ap (λ es. event.Free p ∷ es) none_since
