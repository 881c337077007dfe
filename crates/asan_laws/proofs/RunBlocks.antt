-- The blocks and the marks of a run: where they lie, and that spans never meet.
use Rattle.std.proofs.Common.{◌≡◌, Bool, true, false, cond, List, [], ◌∷◌, ◌++◌, refl, subst, inl, inr, append_assoc}
use Rattle.std.specs.Prelude.{filter, not, Contains}
use Rattle.std.specs.List.{AllByRecursion, IsDistinct}
use Rattle.std.specs.List.Sorted.{IsPermutation}
use Rattle.std.proofs.lemmas.Bool.{cases_Bool}
use Rattle.std.proofs.lemmas.List.Elements.{Contains-append_cases, Contains-push_cases}
use Rattle.std.proofs.lemmas.List.Sorted.{IsPermutation-trans, IsPermutation-append_comm, IsPermutation-append_left}
use Rattle.std.proofs.lemmas.List.Sorted.{IsPermutation-sym, IsPermutation-middle, IsPermutation-filter_both}
use Rattle.std.proofs.lemmas.Map.Keys.{IsDistinct-cons, IsDistinct-head, IsDistinct-tail, IsDistinct-IsPermutation}
use Rattle.trace_record.specs.declared.event.Event.TheVariants as event
use Rattle.trace_record.specs.declared.event.Region.{Region}
use Rattle.trace_record.specs.Shades.{shade_kind}
use Rattle.shadow_map.specs.States.{AreMarks}
use Rattle.heap_book.specs.Spans.{Extent, IsPlaced, meets, may_be_admitted, starts_at}
use Rattle.heap_book.proofs.NeverMeet.{apart-admitted, meets-flip}
use Rattle.asan_check.specs.History.{block_of, freed_mark, released_mark}
use Rattle.asan_check.proofs.Blocks.{admitted_placed}
use Rattle.asan_check.proofs.Members.{in_none, from_filtered}
use Rattle.asan_check.proofs.Steps.{none_apart}
use Rattle.asan_laws.specs.Runs.{Step, Does, Releases, live_in, held_in, admits_in, marks_in}
use Rattle.asan_laws.proofs.Marks.{freed_is_mark, released_is_mark, kind_is_code, each_is_mark}

-- ---- one more malloc

pub live_malloc_in : (r : Region) (run : List Step) → admits_in run (block_of r) ≡ true
    → live_in (Does (event.Malloc r) ∷ run) ≡ live_in run ++ block_of r ∷ []
live_malloc_in r run ok = rw ok refl

pub live_refused_in : (r : Region) (run : List Step) → admits_in run (block_of r) ≡ false
    → live_in (Does (event.Malloc r) ∷ run) ≡ live_in run
live_refused_in r run refused = rw refused refl

-- ---- blocks are placed

pub live_placed_in : (run : List Step) (b : Extent) → Contains (live_in run) b → IsPlaced b
live_placed_in [] b has = absurd (in_none b has)
live_placed_in (Does (event.Malloc r) ∷ run) b has =
    elim (cases_Bool (admits_in run (block_of r))) [
      | inl ok ↦ elim (Contains-push_cases (live_in run) (block_of r) b (rw (live_malloc_in r run ok) at has)) [
        | inl old ↦ live_placed_in run b old
        | inr new ↦ subst IsPlaced new (admitted_placed (live_in run ++ held_in run) (block_of r) ok)
      ]
      | inr refused ↦ live_placed_in run b (rw (live_refused_in r run refused) at has)
    ]
live_placed_in (Does (event.Free p) ∷ run) b has =
    live_placed_in run b (from_filtered (λ x. not (starts_at p.at x)) (live_in run) b has).0
live_placed_in (Does e ∷ run) b has = live_placed_in run b has
live_placed_in (Releases at ∷ run) b has = live_placed_in run b has

pub held_placed_in : (run : List Step) (b : Extent) → Contains (held_in run) b → IsPlaced b
held_placed_in [] b has = absurd (in_none b has)
held_placed_in (Does (event.Free p) ∷ run) b has =
    elim (Contains-append_cases (held_in run) (filter (starts_at p.at) (live_in run)) b has) [
      | inl old ↦ held_placed_in run b old
      | inr now ↦ live_placed_in run b (from_filtered (starts_at p.at) (live_in run) b now).0
    ]
held_placed_in (Does e ∷ run) b has = held_placed_in run b has
held_placed_in (Releases at ∷ run) b has =
    held_placed_in run b (from_filtered (λ x. not (starts_at at x)) (held_in run) b has).0

-- ---- marks

pub are_marks_in : (run : List Step) → AreMarks (marks_in run)
are_marks_in [] = tt
are_marks_in (Does (event.Poison s) ∷ run) = ((kind_is_code (shade_kind s), s.in_range), are_marks_in run)
are_marks_in (Does (event.Unpoison r) ∷ run) = (r.in_range, are_marks_in run)
are_marks_in (Does (event.Malloc r) ∷ run) =
    let rest = are_marks_in run in
    elim (cases_Bool (admits_in run (block_of r))) [
      | inl ok ↦ rw ok (admitted_placed (live_in run ++ held_in run) (block_of r) ok, rest)
      | inr refused ↦ rw refused rest
    ]
are_marks_in (Does (event.Free p) ∷ run) =
    each_is_mark freed_mark (filter (starts_at p.at) (live_in run)) (marks_in run) freed_is_mark
    (λ b has. live_placed_in run b (from_filtered (starts_at p.at) (live_in run) b has).0) (are_marks_in run)
are_marks_in (Does e ∷ run) = are_marks_in run
are_marks_in (Releases at ∷ run) =
    each_is_mark released_mark (filter (starts_at at) (held_in run)) (marks_in run) released_is_mark
    (λ b has. held_placed_in run b (from_filtered (starts_at at) (held_in run) b has).0) (are_marks_in run)

-- ---- spans never meet

pushed_apart : (lives helds : List Extent) (b : Extent) → IsDistinct meets (lives ++ helds)
    → may_be_admitted (lives ++ helds) b ≡ true → IsDistinct meets ((lives ++ b ∷ []) ++ helds)
pushed_apart lives helds b apart may =
    rw (append_assoc lives (b ∷ []) helds)
    (IsDistinct-IsPermutation meets meets-flip _ _ (IsPermutation-sym _ _ (IsPermutation-middle lives b helds))
    (apart-admitted lives helds b apart may))

freed_apart : (p : Extent → Bool) (lives helds : List Extent) → IsDistinct meets (lives ++ helds)
    → IsDistinct meets (filter (λ b. not (p b)) lives ++ (helds ++ filter p lives))
freed_apart p lives helds apart =
    let q : Extent → Bool = λ b. not (p b) in
    let parts = IsPermutation-filter_both p q (λ b. refl) lives in
    let all : IsPermutation (lives ++ helds) ((filter p lives ++ filter q lives) ++ helds) =
    IsPermutation-append_left helds lives _ parts in
    let moved : IsPermutation ((filter p lives ++ filter q lives) ++ helds)
    (filter q lives ++ (helds ++ filter p lives)) =
    rw (append_assoc (filter p lives) (filter q lives) helds, ← append_assoc (filter q lives) helds (filter p lives))
    (IsPermutation-append_comm (filter p lives) (filter q lives ++ helds)) in
    IsDistinct-IsPermutation meets meets-flip _ _ (IsPermutation-trans _ _ _ all moved) apart

all_filtered : (P : Extent → Type 0) (q : Extent → Bool) (xs ys : List Extent) → AllByRecursion P (xs ++ ys)
    → AllByRecursion P (xs ++ filter q ys)
all_filtered P q [] [] all = tt
all_filtered P q [] (y ∷ ys) all = go (q y) (all_filtered P q [] ys all.1)
  where
    go : (t : Bool) → AllByRecursion P (filter q ys) → AllByRecursion P (cond t (y ∷ filter q ys) (filter q ys))
    go true rest = (all.0, rest)
    go false rest = rest
all_filtered P q (x ∷ xs) ys all = (all.0, all_filtered P q xs ys all.1)

filtered_apart : (q : Extent → Bool) (xs ys : List Extent) → IsDistinct meets (xs ++ ys)
    → IsDistinct meets (xs ++ filter q ys)
filtered_apart q [] [] apart = apart
filtered_apart q [] (y ∷ ys) apart = go (q y) (filtered_apart q [] ys (IsDistinct-tail meets y ys apart))
  where
    go : (t : Bool) → IsDistinct meets (filter q ys) → IsDistinct meets (cond t (y ∷ filter q ys) (filter q ys))
    go true rest = IsDistinct-cons meets y (filter q ys)
        (all_filtered (λ x. meets y x ≡ false) q [] ys (IsDistinct-head meets y ys apart)) rest
    go false rest = rest
filtered_apart q (x ∷ xs) ys apart =
    IsDistinct-cons meets x (xs ++ filter q ys)
    (all_filtered (λ y. meets x y ≡ false) q xs ys (IsDistinct-head meets x (xs ++ ys) apart))
    (filtered_apart q xs ys (IsDistinct-tail meets x (xs ++ ys) apart))

-- the spans of live and held blocks never meet
pub apart_in : (run : List Step) → IsDistinct meets (live_in run ++ held_in run)
apart_in [] = none_apart
apart_in (Does (event.Malloc r) ∷ run) =
    elim (cases_Bool (admits_in run (block_of r))) [
      | inl ok ↦ rw (live_malloc_in r run ok) (pushed_apart (live_in run) (held_in run) (block_of r) (apart_in run) ok)
      | inr refused ↦ rw (live_refused_in r run refused) (apart_in run)
    ]
apart_in (Does (event.Free p) ∷ run) = freed_apart (starts_at p.at) (live_in run) (held_in run) (apart_in run)
apart_in (Does e ∷ run) = apart_in run
apart_in (Releases at ∷ run) =
    filtered_apart (λ b. not (starts_at at b)) (live_in run) (held_in run) (apart_in run)
