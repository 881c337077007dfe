-- Since when a block is live, or held.
use Rattle.std.proofs.Common.{◌≡◌, ◌≢◌, ℕ, true, false, List, [], ◌∷◌, ◌++◌, refl, sym, ap, subst, ◌∙◌, inl, inr}
use Rattle.std.specs.Prelude.{not, ◌&&◌, ◌⊎◌, filter, Contains}
use Rattle.std.specs.List.{list_any}
use Rattle.std.proofs.lemmas.Bool.{both_ways, and_parts, and_from, and_right, cases_Bool, eqb-true, eq-eqb, ne_eqb}
use Rattle.std.proofs.lemmas.Bool.{false_from_ne_true, not-true, not_from_false}
use Rattle.std.proofs.lemmas.List.Elements.{Contains-append_left, Contains-append_cases, Contains-push_cases}
use Rattle.std.proofs.lemmas.List.Elements.{Contains-push}
use Rattle.trace_record.specs.declared.event.Event.{Event}
use Rattle.trace_record.specs.declared.event.Event.TheVariants as event
use Rattle.trace_record.specs.declared.event.Place.{Place}
use Rattle.trace_record.specs.declared.event.Region.{Region}
use Rattle.heap_book.specs.Spans.{Extent, meets, starts_at}
use Rattle.heap_book.proofs.NeverMeet.{unmet-admitted}
use Rattle.asan_check.specs.History.{block_of, live, held, admits}
use Rattle.asan_laws.specs.Laws.{asks_for, since_malloc, since_free, IsLiveSince, IsHeldSince}
use Rattle.asan_check.proofs.Steps.{live_free, live_malloc, held_free, held_malloc, spans_apart}
use Rattle.asan_check.proofs.Members.{in_none, in_head, in_tail, cons_cases, from_filtered, passes_any}
use Rattle.asan_laws.proofs.Members.{filtered}
use Rattle.asan_check.proofs.Members.{none_passes, meets_same, apart_across}
use Rattle.asan_laws.proofs.Members.{any_passes}
use Rattle.asan_laws.proofs.Blocks.{held_was_freed}

-- ---- a live block and one more event

-- a block is not admitted again while it is live
pub live_not_admitted : (bound : ℕ) (past : List Event) (b : Extent) → Contains (live bound past) b
    → admits bound past b ≡ false
live_not_admitted bound past b has =
    let taken = live bound past ++ held bound past in
    false_from_ne_true _ (λ ok. both_ways (meets b b)
    (none_passes (meets b) taken b (unmet-admitted taken b ok)
    (Contains-append_left (live bound past) (held bound past) b has))
    (meets_same b b refl))

not_its_malloc : (bound : ℕ) (past : List Event) (b : Extent) (r : Region) → Contains (live bound past) b →
    since_malloc bound (event.Malloc r ∷ past) b ≡ event.Malloc r ∷ since_malloc bound past b
not_its_malloc bound past b r has = rw (and_right (asks_for b r) (admits bound past b)
    (live_not_admitted bound past b has)) refl

its_malloc : (bound : ℕ) (past : List Event) (b : Extent) (r : Region) → block_of r ≡ b → admits bound past b ≡ true →
    since_malloc bound (event.Malloc r ∷ past) b ≡ []
its_malloc bound past b r asked ok =
    let same : asks_for b r ≡ true = and_from _ _ (eq-eqb b.at r.at (ap (λ x. x.at) (sym asked)))
    (eq-eqb b.size r.size (ap (λ x. x.size) (sym asked))) in
    rw (and_from (asks_for b r) (admits bound past b) same ok) refl

-- after a malloc: it is the block's, or the block was live before it
pub live_malloc_cases : (bound : ℕ) (past : List Event) (b : Extent) (r : Region)
    → Contains (live bound (event.Malloc r ∷ past)) b →
    ((block_of r ≡ b) × (admits bound past b ≡ true) × (since_malloc bound (event.Malloc r ∷ past) b ≡ []))
    ⊎ (Contains (live bound past) b × (since_malloc bound (event.Malloc r ∷ past) b
    ≡ event.Malloc r ∷ since_malloc bound past b))
live_malloc_cases bound past b r has =
    elim (cases_Bool (admits bound past (block_of r))) [
      | inl ok ↦ elim (Contains-push_cases (live bound past) (block_of r) b (rw (live_malloc bound r past ok) at has)) [
        | inl old ↦ inr (old, not_its_malloc bound past b r old)
        | inr new ↦ let admitted = ap (admits bound past) (sym new) ∙ ok in
            inl (new, admitted, its_malloc bound past b r new admitted)
      ]
      | inr refused ↦ let old : Contains (live bound past) b = rw refused at has in
          inr (old, not_its_malloc bound past b r old)
    ]

-- after a free: it is of another block
pub live_free_cases : (bound : ℕ) (past : List Event) (b : Extent) (p : Place)
    → Contains (live bound (event.Free p ∷ past)) b →
    Contains (live bound past) b × (starts_at p.at b ≡ false)
live_free_cases bound past b p has =
    let parts = from_filtered (λ x. not (starts_at p.at x)) (live bound past) b (rw (live_free bound p past) at has) in
    (parts.0, not-true _ parts.1)

-- a block stays live under a malloc and under a free of another
live_through_malloc : (bound : ℕ) (past : List Event) (b : Extent) (r : Region) → Contains (live bound past) b
    → Contains (live bound (event.Malloc r ∷ past)) b
live_through_malloc bound past b r has =
    elim (cases_Bool (admits bound past (block_of r))) [
      | inl ok ↦ rw (live_malloc bound r past ok) (Contains-append_left (live bound past) (block_of r ∷ []) b has)
      | inr refused ↦ rw refused has
    ]

live_through_free : (bound : ℕ) (past : List Event) (b : Extent) (p : Place) → Contains (live bound past) b
    → p.at ≢ b.at → Contains (live bound (event.Free p ∷ past)) b
live_through_free bound past b p has other =
    rw (live_free bound p past) (filtered (λ x. not (starts_at p.at x)) (live bound past) b has
    (not_from_false _ (ne_eqb b.at p.at (λ same. other (sym same)))))

-- ---- a live block and its malloc

-- one more event
longer : (bound : ℕ) (past : List Event) (b : Extent) (since : List Event) (e : Event) → IsLiveSince bound past b since
    →
    ((p : Place) → e ≡ event.Free p → p.at ≢ b.at) → IsLiveSince bound (e ∷ past) b (e ∷ since)
longer bound past b since e s other = record {
  before = s.before;
  malloc = s.malloc;
  split = ap (λ es. e ∷ es) s.split;
  asked = s.asked;
  was_admitted = s.was_admitted;
  unfreed = λ p has. elim (cons_cases (event.Free p) e since has) [
    | inl same ↦ other p same
    | inr rest ↦
        s.unfreed p rest
  ];
}

pub live_found : (bound : ℕ) (past : List Event) (b : Extent) → Contains (live bound past) b
    → IsLiveSince bound past b (since_malloc bound past b)
live_found bound [] b has = absurd (in_none b has)
live_found bound (event.Free q ∷ past) b has =
    let parts = live_free_cases bound past b q has in
    longer _ _ _ _ _ (live_found bound past b parts.0)
    (λ p same at_it. both_ways (starts_at q.at b) parts.1
    (eq-eqb b.at q.at (sym (ap (λ (e : Event). place_of e) same ∙ at_it))))
  where
    place_of : Event → ℕ
    place_of (event.Free p) = p.at
    place_of _ = 0
live_found bound (event.Malloc r ∷ past) b has =
    elim (live_malloc_cases bound past b r has) [
      | inl (asked, ok, none) ↦ rw none record {
        before = past;
        malloc = r;
        split = refl;
        asked = asked;
        was_admitted = ok;
        unfreed = λ p has. absurd (in_none _ has);
      }
      | inr (old, more) ↦ rw more (longer _ _ _ _ _ (live_found bound past b old) (λ p same. absurd cc))
    ]
live_found bound (e ∷ past) b has = longer _ _ _ _ _ (live_found bound past b has) (λ p same. absurd cc)

pub live_only : (bound : ℕ) (before since : List Event) (malloc : Region) (b : Extent) → block_of malloc ≡ b
    → admits bound before b ≡ true →
    ((p : Place) → Contains since (event.Free p) → p.at ≢ b.at) →
    Contains (live bound (since ++ event.Malloc malloc ∷ before)) b
    × (since ≡ since_malloc bound (since ++ event.Malloc malloc ∷ before) b)
live_only bound before [] malloc b asked ok unfreed = (
  rw (live_malloc bound malloc before (ap (admits bound before) asked ∙ ok))
      (subst (λ x. Contains (live bound before ++ block_of malloc ∷ []) x) asked
      (Contains-push (live bound before) (block_of malloc))),
  sym (its_malloc bound before b malloc asked ok),
)
live_only bound before (event.Free q ∷ since) malloc b asked ok unfreed =
    let rest = live_only bound before since malloc b asked ok (λ p has. unfreed p (in_tail _ _ since has)) in (
      live_through_free bound (since ++ event.Malloc malloc ∷ before) b q rest.0 (unfreed q (in_head _ since)),
      ap (λ es. event.Free q ∷ es) rest.1,
    )
live_only bound before (event.Malloc r ∷ since) malloc b asked ok unfreed =
    let rest = live_only bound before since malloc b asked ok (λ p has. unfreed p (in_tail _ _ since has)) in
    let past = since ++ event.Malloc malloc ∷ before in (
      live_through_malloc bound past b r rest.0,
      ap (λ es. event.Malloc r ∷ es) rest.1
          ∙ sym (not_its_malloc bound past b r rest.0),
    )
live_only bound before (e ∷ since) malloc b asked ok unfreed =
    let rest = live_only bound before since malloc b asked ok (λ p has. unfreed p (in_tail _ _ since has)) in
    (rest.0, ap (λ es. e ∷ es) rest.1)

-- ---- a held block and one more event

-- a block that is held is not live, nor is another at its address
pub none_live_where_held : (bound : ℕ) (past : List Event) (b : Extent) → Contains (held bound past) b
    → list_any (starts_at b.at) (live bound past) ≡ false
none_live_where_held bound past b has =
    false_from_ne_true _ (λ any.
    let found = any_passes (starts_at b.at) (live bound past) any in
    both_ways (meets found.0 b) (apart_across (live bound past) (held bound past) found.0 b (spans_apart bound past)
    found.1 has) (meets_same found.0 b (eqb-true found.0.at b.at found.2)))

not_its_free : (bound : ℕ) (past : List Event) (b : Extent) (p : Place) → Contains (held bound past) b →
    since_free bound (event.Free p ∷ past) b ≡ event.Free p ∷ since_free bound past b
not_its_free bound past b p has = rw (false_from_ne_true
    (starts_at p.at b && list_any (starts_at p.at) (live bound past)) clash) refl
  where
    clash : (starts_at p.at b && list_any (starts_at p.at) (live bound past)) ≡ true → ⊥
    clash both =
        let parts = and_parts (starts_at p.at b) (list_any (starts_at p.at) (live bound past)) both in
        both_ways (list_any (starts_at p.at) (live bound past))
        (subst (λ (at : ℕ). list_any (starts_at at) (live bound past) ≡ false) (eqb-true b.at p.at parts.0)
        (none_live_where_held bound past b has))
        parts.1

its_free : (bound : ℕ) (past : List Event) (b : Extent) (p : Place) → Contains (live bound past) b
    → starts_at p.at b ≡ true →
    since_free bound (event.Free p ∷ past) b ≡ []
its_free bound past b p has here = rw (and_from _ _ here (passes_any (starts_at p.at) (live bound past) b has here))
    refl

-- after a free: it is the block's, or the block was held before it
pub held_free_cases : (bound : ℕ) (past : List Event) (b : Extent) (p : Place)
    → Contains (held bound (event.Free p ∷ past)) b →
    (Contains (live bound past) b × (starts_at p.at b ≡ true) × (since_free bound (event.Free p ∷ past) b ≡ []))
    ⊎ (Contains (held bound past) b × (since_free bound (event.Free p ∷ past) b
    ≡ event.Free p ∷ since_free bound past b))
held_free_cases bound past b p has =
    let freed_now = filter (starts_at p.at) (live bound past) in
    let queued = held_was_freed bound (held bound past ++ freed_now) b (rw (held_free bound p past) at has) in
    elim (Contains-append_cases (held bound past) freed_now b queued) [
      | inl old ↦ inr (old, not_its_free bound past b p old)
      | inr new ↦ let parts = from_filtered (starts_at p.at) (live bound past) b new in
          inl (parts.0, parts.1, its_free bound past b p parts.0 parts.1)
    ]

-- ---- a held block and its free

still : (bound : ℕ) (past : List Event) (b : Extent) (since : List Event) (e : Event)
    → Contains (held bound (e ∷ past)) b → IsHeldSince bound past b since →
    IsHeldSince bound (e ∷ past) b (e ∷ since)
still bound past b since e has s = record {
  before = s.before;
  free = s.free;
  split = ap (λ es. e ∷ es) s.split;
  at_block = s.at_block;
  was_live = s.was_live;
  held_through = through;
}
  where
    tail_of : List Event → List Event
    tail_of [] = []
    tail_of (x ∷ xs) = xs

    through : (newer older : List Event) → e ∷ since ≡ newer ++ older
        → Contains (held bound (older ++ event.Free s.free ∷ s.before)) b
    through [] older parts =
        subst (λ es. Contains (held bound (es ++ event.Free s.free ∷ s.before)) b) parts
        (subst (λ es. Contains (held bound (e ∷ es)) b) s.split has)
    through (x ∷ newer) older parts = s.held_through newer older (ap tail_of parts)

pub held_found : (bound : ℕ) (past : List Event) (b : Extent) → Contains (held bound past) b
    → IsHeldSince bound past b (since_free bound past b)
held_found bound [] b has = absurd (in_none b has)
held_found bound (event.Malloc r ∷ past) b has =
    still _ _ _ _ (event.Malloc r) has (held_found bound past b (rw (held_malloc bound r past) at has))
held_found bound (event.Free p ∷ past) b has =
    elim (held_free_cases bound past b p has) [
      | inl (was_live, here, none) ↦ rw none record {
        before = past;
        free = p;
        split = refl;
        at_block = sym (eqb-true b.at p.at here);
        was_live = was_live;
        held_through = λ newer older parts. subst (λ es. Contains (held bound (es ++ event.Free p ∷ past)) b)
            (back_none newer older parts) has;
      }
      | inr (old, more) ↦ rw more (still _ _ _ _ (event.Free p) has (held_found bound past b old))
    ]
  where
    back_none : (newer older : List Event) → [] ≡ newer ++ older → [] ≡ older
    back_none [] older parts = parts
    back_none (x ∷ newer) older parts = absurd cc
held_found bound (e ∷ past) b has = still _ _ _ _ e has (held_found bound past b has)

-- all the while that it is held, its free stays the same
pub held_only : (bound : ℕ) (before since : List Event) (free : Place) (b : Extent) → free.at ≡ b.at
    → Contains (live bound before) b →
    ((newer older : List Event) → since ≡ newer ++ older → Contains (held bound (older ++ event.Free free ∷ before)) b)
    →
    since ≡ since_free bound (since ++ event.Free free ∷ before) b
held_only bound before [] free b same was_live through =
    sym (its_free bound before b free was_live (eq-eqb b.at free.at (sym same)))
held_only bound before (e ∷ since) free b same was_live through =
    let rest = held_only bound before since free b same was_live
    (λ newer older parts. through (e ∷ newer) older (ap (λ es. e ∷ es) parts)) in
    let past = since ++ event.Free free ∷ before in
    ap (λ es. e ∷ es) rest ∙ sym (step e past (through (e ∷ []) since refl))
  where
    step : (f : Event) (past : List Event) → Contains (held bound past) b
        → since_free bound (f ∷ past) b ≡ f ∷ since_free bound past b
    step (event.Free p) past has = not_its_free bound past b p has
    step f past has = refl

-- ---- the same, of the records

pub live_since : (bound : ℕ) (past : List Event) (b : Extent) (since : List Event) → IsLiveSince bound past b since
    → Contains (live bound past) b × (since ≡ since_malloc bound past b)
live_since bound past b since s =
    subst (λ es. Contains (live bound es) b × (since ≡ since_malloc bound es b)) (sym s.split)
    (live_only bound s.before since s.malloc b s.asked s.was_admitted s.unfreed)

pub held_since : (bound : ℕ) (past : List Event) (b : Extent) (since : List Event) → IsHeldSince bound past b since
    → Contains (held bound past) b × (since ≡ since_free bound past b)
held_since bound past b since s =
    subst (λ es. Contains (held bound es) b × (since ≡ since_free bound es b)) (sym s.split)
    (s.held_through [] since refl, held_only bound s.before since s.free b s.at_block s.was_live s.held_through)
