-- What a recorder has to note to know which blocks its recording has.
use Rattle.std.proofs.Common.{◌≡◌, ℕ, ◌≤◌, true, false, List, [], ◌∷◌, ◌++◌, refl, subst}
use Rattle.std.specs.Prelude.{not, filter, Contains, sum_by}
use Rattle.std.specs.List.{list_any}
use Rattle.std.specs.List.Sorted.{IsPermutation}
use Rattle.std.proofs.lemmas.List.Sorted.{IsPermutation-filter_both, IsPermutation-sym}
use Rattle.trace_record.specs.declared.event.Event.{Event}
use Rattle.trace_record.specs.declared.event.Event.TheVariants as event
use Rattle.trace_record.specs.declared.event.Place.{Place}
use Rattle.trace_record.specs.declared.event.Region.{Region}
use Rattle.heap_book.specs.Spans.{Extent, IsPlaced, span_bytes, meets, held_of, starts_at}
use Rattle.heap_book.proofs.Held.{held-within}
use Rattle.heap_book.proofs.NeverMeet.{may_be_admitted-true}
use Rattle.asan_check.specs.History.{block_of, live, held, admits}
use Rattle.asan_check.proofs.Steps.{live_malloc, held_malloc, live_free}
use Rattle.asan_check.proofs.Members.{none_from}
use Rattle.asan_check.proofs.Frees as frees
use Rattle.asan_laws.specs.Recording.{is_of_block}
use Rattle.asan_laws.proofs.SameBlocks.{is_other}

module _ (bound : ℕ) where
  pub book_admits : (recorded : List Event) (b : Extent) → IsPlaced b
      → ((other : Extent) → Contains (live bound recorded ++ held bound recorded) other → meets b other ≡ false)
      → admits bound recorded b ≡ true
  book_admits recorded b placed apart =
      let taken = live bound recorded ++ held bound recorded in may_be_admitted-true taken b placed
      (none_from (meets b) taken apart)

  pub book_malloc : (recorded : List Event) (r : Region) → admits bound recorded (block_of r) ≡ true
      → (live bound (event.Malloc r ∷ recorded) ≡ live bound recorded ++ block_of r ∷ [])
      × (held bound (event.Malloc r ∷ recorded) ≡ held bound recorded)
  book_malloc recorded r ok = (live_malloc bound r recorded ok, held_malloc bound r recorded)

  pub book_free : (recorded : List Event) (p : Place) (b : Extent) → Contains (live bound recorded) b → b.at ≡ p.at
      → IsPermutation (b ∷ live bound (event.Free p ∷ recorded)) (live bound recorded)
      × (held bound (event.Free p ∷ recorded) ≡ held_of bound (held bound recorded ++ b ∷ []))
  book_free recorded p b has here =
      let lives = live bound recorded in
      let both : IsPermutation lives (filter (starts_at p.at) lives ++ filter (λ x. not (starts_at p.at x)) lives) =
      IsPermutation-filter_both (starts_at p.at) (λ x. not (starts_at p.at x)) (λ x. refl) lives in
      let parts : filter (starts_at p.at) lives ++ filter (λ x. not (starts_at p.at x)) lives
      ≡ b ∷ live bound (event.Free p ∷ recorded) =
      rw (frees.freed_block bound recorded p b has here, live_free bound p recorded) refl in (
        IsPermutation-sym lives (b ∷ live bound (event.Free p ∷ recorded)) (subst (IsPermutation lives) parts both),
        frees.held_after bound recorded p b has here,
      )

  pub book_fits : (helds : List Extent) → sum_by span_bytes helds ≤ bound → held_of bound helds ≡ helds
  book_fits helds within = held-within bound helds within

  pub book_refused : (recorded : List Event) (r : Region) → admits bound recorded (block_of r) ≡ false
      → (live bound (event.Malloc r ∷ recorded) ≡ live bound recorded)
      × (held bound (event.Malloc r ∷ recorded) ≡ held bound recorded)
  book_refused recorded r refused = (rw refused refl, held_malloc bound r recorded)

  pub book_bad_free : (recorded : List Event) (p : Place) → list_any (starts_at p.at) (live bound recorded) ≡ false
      → (live bound (event.Free p ∷ recorded) ≡ live bound recorded)
      × (held bound (event.Free p ∷ recorded) ≡ held bound recorded)
  book_bad_free recorded p none = (frees.live_stays bound recorded p none, frees.held_stays bound recorded p none)

  pub book_others : (recorded : List Event) (e : Event) → is_of_block e ≡ false
      → (live bound (e ∷ recorded) ≡ live bound recorded) × (held bound (e ∷ recorded) ≡ held bound recorded)
  book_others recorded e is = is_other e is bound recorded
