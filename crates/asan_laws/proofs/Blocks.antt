-- Where the freed and the held blocks of a history lie.
use Rattle.std.proofs.Common.{ℕ, Bool, true, false, List, [], ◌∷◌, subst}
use Rattle.std.proofs.Common.{inl, inr}
use Rattle.std.specs.Prelude.{filter, Contains, sum_by, nat_le, cond}
use Rattle.std.proofs.lemmas.List.Elements.{Contains-append_cases}
use Rattle.trace_record.specs.declared.event.Event.{Event}
use Rattle.trace_record.specs.declared.event.Event.TheVariants as event
use Rattle.heap_book.specs.Spans.{Extent, IsPlaced, span_bytes, held_of, starts_at}
use Rattle.asan_check.specs.History.{live, freed, held}
use Rattle.asan_check.proofs.Steps.{freed_free, freed_malloc}
use Rattle.asan_check.proofs.Members.{in_none, cons_cases, from_filtered, in_tail, in_head}
use Rattle.asan_check.proofs.Blocks.{live_placed}

-- what is held was freed
pub held_was_freed : (bound : ℕ) (xs : List Extent) (x : Extent) → Contains (held_of bound xs) x → Contains xs x
held_was_freed bound [] x has = has
held_was_freed bound (y ∷ ys) x has = go (nat_le (sum_by span_bytes (y ∷ ys)) bound) has (held_was_freed bound ys x)
  where
    go : (t : Bool) → Contains (cond t (y ∷ held_of bound ys) (held_of bound ys)) x
        → (Contains (held_of bound ys) x → Contains ys x) → Contains (y ∷ ys) x
    go false h rest = in_tail x y ys (rest h)
    go true h rest =
        elim (cons_cases x y (held_of bound ys) h) [
          | inl same ↦ subst (λ z. Contains (y ∷ ys) z) same (in_head y ys)
          | inr more ↦ in_tail x y ys (rest more)
        ]

freed_placed : (bound : ℕ) (past : List Event) (b : Extent) → Contains (freed bound past) b → IsPlaced b
freed_placed bound [] b has = absurd (in_none b has)
freed_placed bound (event.Malloc r ∷ past) b has = freed_placed bound past b (rw (freed_malloc bound r past) at has)
freed_placed bound (event.Free p ∷ past) b has =
    elim (Contains-append_cases (freed bound past) (filter (starts_at p.at) (live bound past)) b
    (rw (freed_free bound p past) at has)) [
      | inl old ↦ freed_placed bound past b old
      | inr now ↦ live_placed bound past b (from_filtered (starts_at p.at) (live bound past) b now).0
    ]
freed_placed bound (e ∷ past) b has = freed_placed bound past b has

-- every held block is placed
pub held_placed : (bound : ℕ) (past : List Event) (b : Extent) → Contains (held bound past) b → IsPlaced b
held_placed bound past b has = freed_placed bound past b (held_was_freed bound (freed bound past) b has)
