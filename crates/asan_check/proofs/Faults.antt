-- What is wrong with a malloc or a free, by the blocks that the history has.
use Rattle.std.proofs.Common.{◌≡◌, ℕ, ◌<◌, true, false, eqb, List, Some, None, refl, arith}
use Rattle.std.specs.Prelude.{Contains}
use Rattle.std.specs.List.{list_any}
use Rattle.std.proofs.lemmas.Bool.{or_from, or_left, or_right, eq-eqb}
use Rattle.std.proofs.lemmas.Bool.Decides.{nat_tests}
use Rattle.trace_record.specs.declared.event.Event.{Event}
use Rattle.heap_book.specs.Spans.{Extent, starts_at}
use Rattle.asan_check.specs.declared.report.Fault.TheVariants as fault
use Rattle.asan_check.specs.History.{live, held, admits}
use Rattle.asan_check.specs.Verdicts.{malloc_fault, free_fault}
use Rattle.asan_check.proofs.Members.{passes_any}

not_zero : (at : ℕ) → 0 < at → eqb at 0 ≡ false
not_zero at some = grind (arith, nat_tests)

module _ (bound : ℕ) (past : List Event) (at : ℕ) where
  -- ---- a free

  -- at address 0 nothing is wrong
  pub free_of_null : at ≡ 0 → free_fault bound past at ≡ None
  free_of_null zero_is = rw (or_left (eqb at 0) (list_any (starts_at at) (live bound past)) (eq-eqb at 0 zero_is)) refl

  -- nor where a live block starts
  pub free_of_any_live : list_any (starts_at at) (live bound past) ≡ true → free_fault bound past at ≡ None
  free_of_any_live one = rw (or_right (eqb at 0) (list_any (starts_at at) (live bound past)) one) refl

  pub free_of_live : (b : Extent) → Contains (live bound past) b → b.at ≡ at → free_fault bound past at ≡ None
  free_of_live b has here =
      free_of_any_live (passes_any (starts_at at) (live bound past) b has (eq-eqb b.at at here))

  -- where a held block starts it is a double free
  pub free_of_held : 0 < at → list_any (starts_at at) (live bound past) ≡ false
      → list_any (starts_at at) (held bound past) ≡ true →
      free_fault bound past at ≡ Some (fault.DoubleFree at)
  free_of_held some none_live one_held = rw (
    or_from (eqb at 0) (list_any (starts_at at) (live bound past))
        (not_zero at some) none_live,
    one_held,
  ) refl

  -- elsewhere it is a bad free
  pub free_of_none : 0 < at → list_any (starts_at at) (live bound past) ≡ false
      → list_any (starts_at at) (held bound past) ≡ false →
      free_fault bound past at ≡ Some (fault.BadFree at)
  free_of_none some none_live none_held = rw (
    or_from (eqb at 0) (list_any (starts_at at) (live bound past))
        (not_zero at some) none_live,
    none_held,
  ) refl

  -- ---- a malloc

  -- nothing is wrong where it is admitted
  pub malloc_admitted : (size : ℕ) → admits bound past (record { at = at; size = size }) ≡ true
      → malloc_fault bound past at size ≡ None
  malloc_admitted size ok = rw (or_right (eqb at 0) (admits bound past (record { at = at; size = size })) ok) refl

  -- elsewhere it is a bad malloc
  pub malloc_refused : (size : ℕ) → 0 < at → admits bound past (record { at = at; size = size }) ≡ false →
      malloc_fault bound past at size ≡ Some (fault.BadMalloc at size)
  malloc_refused size some refused = rw (or_from (eqb at 0) (admits bound past (record { at = at; size = size }))
      (not_zero at some) refused) refl
