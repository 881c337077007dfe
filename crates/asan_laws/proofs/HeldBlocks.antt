-- What a run says of a block that it holds, and that one that releases nothing holds each block that it freed.
use Rattle.std.proofs.Common.{◌≡◌, ℕ, ◌+◌, ◌*◌, ◌/◌, ◌≤◌, Bool, true, false, eqb, List, [], ◌∷◌, ◌++◌, Some}
use Rattle.std.proofs.Common.{refl, sym, ◌∙◌, arith}
use Rattle.std.specs.Prelude.{filter, Contains}
use Rattle.std.specs.List.{list_any}
use Rattle.std.proofs.lemmas.Bool.{both_ways, eqb-true, eq-eqb, false_from_ne_true}
use Rattle.std.proofs.lemmas.Bool.Decides.{nat_tests}
use Rattle.std.proofs.lemmas.List.Elements.{Contains-append_left, Contains-append_right}
use Rattle.trace_record.specs.declared.event.Event.{Event}
use Rattle.trace_record.specs.declared.event.Event.TheVariants as event
use Rattle.trace_record.specs.declared.event.Access.{Access}
use Rattle.trace_record.specs.declared.event.Place.{Place}
use Rattle.trace_record.specs.declared.event.Region.{Region}
use Rattle.shadow_map.specs.States.{code_of, state_of}
use Rattle.heap_book.specs.Spans.{Extent, meets, starts_at}
use Rattle.heap_book.proofs.NeverMeet.{may_be_admitted-met}
use Rattle.asan_check.specs.declared.report.Class.TheVariants as class
use Rattle.asan_check.specs.declared.report.Fault.TheVariants as fault
use Rattle.asan_check.specs.Codes.{Freed}
use Rattle.asan_check.specs.History.{block_of}
use Rattle.asan_check.specs.Verdicts.{access_fault}
use Rattle.asan_check.proofs.Members.{passes_any, apart_across, meets_same}
use Rattle.asan_laws.specs.Laws.{NoPoisonShares, NoUnpoisonShares, StartsWithin, access_event}
use Rattle.asan_laws.specs.Runs.{Step, live_in, held_in, admits_in, marks_in, fault_in, since_free_in}
use Rattle.asan_laws.specs.Runs.{without_release}
use Rattle.asan_laws.proofs.Accesses.{freed_fault}
use Rattle.asan_laws.proofs.Bytes.{neither_there}
use Rattle.asan_laws.proofs.Members.{any_passes, filtered}
use Rattle.asan_laws.proofs.RunBlocks.{held_placed_in, apart_in}
use Rattle.asan_laws.proofs.RunBytes.{held_bytes_in}

-- ---- a free, and a malloc

-- no live block starts where one is held
none_live_there : (run : List Step) (b : Extent) (at : ℕ) → Contains (held_in run) b → at ≡ b.at
    → list_any (starts_at at) (live_in run) ≡ false
none_live_there run b at has here =
    false_from_ne_true _ (λ any.
    let found = any_passes (starts_at at) (live_in run) any in
    both_ways (meets found.0 b) (apart_across (live_in run) (held_in run) found.0 b (apart_in run) found.1 has)
    (meets_same found.0 b (eqb-true found.0.at at found.2 ∙ here)))

pub freed_again : (run : List Step) (b : Extent) (p : Place) → Contains (held_in run) b → p.at ≡ b.at
    → fault_in run (event.Free p) ≡ Some (fault.DoubleFree p.at)
freed_again run b p has here =
    let low = (held_placed_in run b has).1 in
    let some : eqb p.at 0 ≡ false = not_at_zero p.at b.at here low in
    let any : list_any (starts_at p.at) (held_in run) ≡ true =
    passes_any (starts_at p.at) (held_in run) b has (eq-eqb b.at p.at (sym here)) in
    rw (some, none_live_there run b p.at has here, any) refl
  where
    not_at_zero : (m n : ℕ) → m ≡ n → 32 ≤ n → eqb m 0 ≡ false
    not_at_zero m n is above = grind (arith, nat_tests)

pub not_handed_out : (run : List Step) (b : Extent) (r : Region) → Contains (held_in run) b
    → meets (block_of r) b ≡ true → admits_in run (block_of r) ≡ false
not_handed_out run b r has met =
    let taken = live_in run ++ held_in run in
    may_be_admitted-met taken (block_of r) (passes_any (meets (block_of r)) taken b
    (Contains-append_right (live_in run) (held_in run) b has) met)

-- ---- an access

by_states : (run : List Step) (is_store : Bool) (a : Access)
    → fault_in run (access_event is_store a) ≡ access_fault (state_of (marks_in run)) is_store a
by_states run false a = refl
by_states run true a = refl

pub used_after_free : (run : List Step) (b : Extent) (is_store : Bool) (a : Access) → Contains (held_in run) b
    → StartsWithin b a → NoPoisonShares (since_free_in run b) a.at (a.at + 1)
    → NoUnpoisonShares (since_free_in run b) a.at (a.at + 1) →
    fault_in run (access_event is_store a)
    ≡ Some (fault.Access is_store a.width a.at a.at class.HeapUseAfterFree (code_of Freed))
used_after_free run b is_store a has start clear clear' =
    let from = start.0 in
    let to = start.1 in
    let aligned = (held_placed_in run b has).0 in
    by_states run is_store a ∙ freed_fault (state_of (marks_in run)) is_store a (λ byte above below.
    held_bytes_in run b byte (8 * (a.at / 8)) (8 * (a.at / 8) + 8) has (omega arith) (omega arith) above below
    (neither_there (since_free_in run b) a.at clear clear'))

-- ---- a run that releases nothing

pub still_held : (before later : List Event) (b : Extent) (p : Place) → Contains (live_in (without_release before)) b
    → p.at ≡ b.at → Contains (held_in (without_release (later ++ event.Free p ∷ before))) b
still_held before [] b p has here =
    let run = without_release before in
    Contains-append_right (held_in run) (filter (starts_at p.at) (live_in run)) b
    (filtered (starts_at p.at) (live_in run) b has (eq-eqb b.at p.at (sym here)))
still_held before (event.Free q ∷ later) b p has here =
    let run = without_release (later ++ event.Free p ∷ before) in
    Contains-append_left (held_in run) (filter (starts_at q.at) (live_in run)) b
    (still_held before later b p has here)
still_held before (e ∷ later) b p has here = still_held before later b p has here
