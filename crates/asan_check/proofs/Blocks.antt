-- Where the blocks of a history lie.
use Rattle.std.proofs.Common.{◌≡◌, ℕ, ◌≤◌, true, false, eqb, List, [], ◌∷◌, ◌++◌, refl, subst, arith}
use Rattle.std.proofs.Common.{inl, inr}
use Rattle.std.specs.Prelude.{not, Contains}
use Rattle.std.specs.List.{list_any}
use Rattle.std.specs.List.Sorted.{IsPermutation}
use Rattle.std.proofs.lemmas.Bool.{and_parts, eqb-true, leb-true, cases_Bool}
use Rattle.std.proofs.lemmas.Bool.Decides.{nat_tests}
use Rattle.std.proofs.lemmas.List.Elements.{Contains-push_cases}
use Rattle.std.proofs.lemmas.List.Sorted.{list_any-IsPermutation, IsPermutation-append_left}
use Rattle.trace_record.specs.declared.event.Event.{Event}
use Rattle.trace_record.specs.declared.event.Event.TheVariants as event
use Rattle.heap_book.specs.Spans.{Extent, IsPlaced, meets, may_be_admitted, starts_at}
use Rattle.asan_check.specs.History.{block_of, live, held, admits}
use Rattle.asan_check.proofs.Steps.{live_free, live_malloc}
use Rattle.asan_check.proofs.Members.{in_none, from_filtered, none_from}

-- an admitted block is placed
pub admitted_placed : (taken : List Extent) (b : Extent) → may_be_admitted taken b ≡ true → IsPlaced b
admitted_placed taken b ok =
    let apart = and_parts _ _ ok in
    let below = and_parts _ _ apart.0 in
    let above = and_parts _ _ below.0 in
    (eqb-true _ _ above.0, leb-true _ _ above.1, leb-true _ _ below.1)

-- every live block is placed
pub live_placed : (bound : ℕ) (past : List Event) (b : Extent) → Contains (live bound past) b → IsPlaced b
live_placed bound [] b has = absurd (in_none b has)
live_placed bound (event.Free p ∷ past) b has =
    live_placed bound past b (from_filtered (λ x. not (starts_at p.at x)) (live bound past) b
    (rw (live_free bound p past) at has)).0
live_placed bound (event.Malloc r ∷ past) b has =
    elim (cases_Bool (admits bound past (block_of r))) [
      | inl ok ↦ elim (Contains-push_cases (live bound past) (block_of r) b (rw (live_malloc bound r past ok) at has)) [
        | inl old ↦ live_placed bound past b old
        | inr new ↦ subst IsPlaced new (admitted_placed (live bound past ++ held bound past) (block_of r) ok)
      ]
      | inr refused ↦ live_placed bound past b (rw refused at has)
    ]
live_placed bound (e ∷ past) b has = live_placed bound past b has

-- no live block starts at address 0: a free there is of none
pub none_at_zero : (bound : ℕ) (past : List Event) (at : ℕ) → at ≡ 0 → list_any (starts_at at) (live bound past) ≡ false
none_at_zero bound past at zero_is =
    none_from (starts_at at) (live bound past) (λ b has. let above = (live_placed bound past b has).1 in
    not_at_zero b.at at zero_is above)
  where
    not_at_zero : (m n : ℕ) → n ≡ 0 → 32 ≤ m → eqb m n ≡ false
    not_at_zero m n is above = grind (arith, nat_tests)

-- the test of a malloc does not depend on the order of the live blocks
pub admits_by_any_order : (bound : ℕ) (past : List Event) (lives : List Extent) (b : Extent)
    → IsPermutation lives (live bound past) →
    may_be_admitted (lives ++ held bound past) b ≡ admits bound past b
admits_by_any_order bound past lives b same =
    rw (list_any-IsPermutation (meets b) (lives ++ held bound past) (live bound past ++ held bound past)
    (IsPermutation-append_left (held bound past) lives (live bound past) same)) refl
