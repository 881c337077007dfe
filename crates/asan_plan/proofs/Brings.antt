-- What is stated of a block and of bytes, in a history of its own.
use Rattle.std.proofs.Common.{◌≡◌, ℕ, ◌≤◌, true, false, [], ◌∷◌, ◌++◌}
use Rattle.std.proofs.Common.{refl, sym, ap, ◌∙◌, arith}
use Rattle.std.specs.Prelude.{Contains}
use Rattle.std.proofs.lemmas.Bool.{eq-eqb}
use Rattle.trace_record.specs.declared.event.Event.TheVariants as event
use Rattle.trace_record.specs.declared.event.Place.{Place}
use Rattle.trace_record.specs.declared.event.Region.{Region}
use Rattle.heap_book.specs.Spans.{IsPlaced, span_bytes, starts_at}
use Rattle.heap_book.proofs.NeverMeet.{may_be_admitted-true}
use Rattle.heap_book.proofs.Held.{held-within}
use Rattle.asan_check.specs.History.{block_of, live, held, admits}
use Rattle.asan_check.specs.Verdicts.{verdicts_of}
use Rattle.asan_check.proofs.Members.{in_head}
use Rattle.asan_check.proofs.Steps.{live_malloc, live_free, held_malloc, held_free}
use Rattle.asan_check.proofs.Faults.{malloc_admitted, free_of_live}
use Rattle.asan_laws.specs.LeanRecording.{shadow_after}
use Rattle.asan_laws.proofs.Shown.{shadow_malloc, shadow_free}
use Rattle.asan_plan.specs.Saying.{left_by}

-- ---- a block

module _ (bound : ℕ) (r : Region) (placed : IsPlaced (block_of r)) where
  pub admitted : admits bound [] (block_of r) ≡ true
  admitted = may_be_admitted-true [] (block_of r) placed refl

  is_live : live bound (event.Malloc r ∷ []) ≡ block_of r ∷ []
  is_live = live_malloc bound r [] admitted

  has_live : Contains (live bound (event.Malloc r ∷ [])) (block_of r)
  has_live = rw is_live (in_head (block_of r) [])

  pub live_shadow : (granule : ℕ) →
      shadow_after bound (event.Malloc r ∷ []) granule ≡ left_by (block_of r) false granule
  live_shadow granule = shadow_malloc bound [] r granule admitted

  pub live_quiet : verdicts_of bound (event.Malloc r ∷ []) ≡ []
  live_quiet = rw (malloc_admitted bound [] r.at r.size admitted) refl

  module _ (p : Place) (at : p.at ≡ r.at) (fits : span_bytes (block_of r) ≤ bound) where
    none_held : held bound (event.Malloc r ∷ []) ≡ []
    none_held = held_malloc bound r []

    starts : starts_at p.at (block_of r) ≡ true
    starts = eq-eqb r.at p.at (sym at)

    pub is_held : held bound (event.Free p ∷ event.Malloc r ∷ []) ≡ block_of r ∷ []
    is_held =
        held_free bound p (event.Malloc r ∷ [])
        ∙ rw (none_held, is_live, starts) (held-within bound (block_of r ∷ []) (omega arith))

    pub not_live : live bound (event.Free p ∷ event.Malloc r ∷ []) ≡ []
    not_live = live_free bound p (event.Malloc r ∷ []) ∙ rw (is_live, starts) refl

    pub held_shadow : (granule : ℕ) →
        shadow_after bound (event.Free p ∷ event.Malloc r ∷ []) granule ≡ left_by (block_of r) true granule
    held_shadow granule =
        shadow_free bound (event.Malloc r ∷ []) p (block_of r) [] granule has_live (sym at)
        (is_held ∙ ap (λ bs. bs ++ block_of r ∷ []) (sym none_held))
        ∙ rw (live_shadow granule) refl

    pub held_quiet : verdicts_of bound (event.Free p ∷ event.Malloc r ∷ []) ≡ []
    held_quiet = rw (
      free_of_live bound (event.Malloc r ∷ []) p.at (block_of r) has_live (sym at),
      live_quiet,
    ) refl
