-- What a free does to a history's blocks and marks: of a live block, with the blocks that it releases, and of none.
use Rattle.std.proofs.Common.{◌≡◌, ℕ, ◌≤◌, ◌<◌, true, false, List, [], ◌∷◌, ◌++◌, refl, sym, ap, ◌∙◌, append_assoc}
use Rattle.std.specs.Prelude.{not, ◌==◌, filter, Contains, sum_by}
use Rattle.std.specs.List.{IsDistinct, list_any}
use Rattle.std.proofs.lemmas.Bool.{not_from_false, not_from_true, eq-eqb}
use Rattle.std.proofs.lemmas.List.{append-nil}
use Rattle.std.proofs.lemmas.List.Elements.{filter-append}
use Rattle.std.proofs.lemmas.List.Sorted.{IsPermutation-append_comm}
use Rattle.std.proofs.lemmas.Map.Keys.{IsDistinct-cons, IsDistinct-IsPermutation}
use Rattle.trace_record.specs.declared.event.Event.{Event}
use Rattle.trace_record.specs.declared.event.Event.TheVariants as event
use Rattle.trace_record.specs.declared.event.Place.{Place}
use Rattle.shadow_map.specs.States.{Mark}
use Rattle.heap_book.specs.Spans.{Extent, span_bytes, meets, held_of, starts_at}
use Rattle.heap_book.proofs.Held.{held-within, held-past, held-total}
use Rattle.heap_book.proofs.NeverMeet.{meets-flip}
use Rattle.asan_check.specs.History.{live, freed, held, marks, with_marks, freed_mark, released_mark, released_from}
use Rattle.asan_check.proofs.Steps.{live_free, held_free, spans_apart}
use Rattle.asan_check.proofs.Members.{at_each, passes_any, none_passes, none_from, filter_all, filter_none}
use Rattle.asan_check.proofs.Members.{apart_starts, apart_across, apart_left, apart_right, starts_once}

-- ---- lists

-- one more released block is one more mark
pub marked_push : (mark : Extent → Mark) (blocks : List Extent) (b : Extent) (marks : List Mark)
    → with_marks mark (blocks ++ b ∷ []) marks ≡ mark b ∷ with_marks mark blocks marks
marked_push mark [] b marks = refl
marked_push mark (c ∷ blocks) b marks = marked_push mark blocks b (mark c ∷ marks)

-- what is gone from a list of which the end stays is its front
gone_front : (front stays : List Extent) → IsDistinct meets (front ++ stays)
    → released_from (front ++ stays) stays ≡ front
gone_front front stays apart =
    filter-append (λ b. not (list_any (starts_at b.at) stays)) front stays
    ∙ ap (λ xs. xs ++ filter (λ b. not (list_any (starts_at b.at) stays)) stays)
    (filter_all _ front (λ x has. not_from_false _
    (none_from (starts_at x.at) stays (λ y in_stays. apart_starts x y
    (apart_across front stays x y apart has in_stays)))))
    ∙ ap (λ xs. front ++ xs)
    (filter_none _ stays (λ x has. not_from_true _ (passes_any (starts_at x.at) stays x has (start x.at))))
    ∙ append-nil front
  where
    start : (at : ℕ) → (at == at) ≡ true
    start at = eq-eqb at at refl

-- ---- a free of a live block

module _ (bound : ℕ) (past : List Event) (p : Place) (b : Extent) (is_live : Contains (live bound past) b)
    (here : b.at ≡ p.at) where
  -- the block is the only live one that starts there
  pub freed_block : filter (starts_at p.at) (live bound past) ≡ b ∷ []
  freed_block = starts_once (live bound past) b p.at
      (apart_left (live bound past) (held bound past) (spans_apart bound past)) is_live here

  -- it joins the back of the quarantine, which then holds what the bound leaves
  pub held_after : held bound (event.Free p ∷ past) ≡ held_of bound (held bound past ++ b ∷ [])
  held_after = held_free bound p past ∙ ap (λ xs. held_of bound (held bound past ++ xs)) freed_block

  -- the spans of the quarantine with the block at its back don't meet
  pub queue_apart : IsDistinct meets (held bound past ++ b ∷ [])
  queue_apart =
      let all = spans_apart bound past in
      let first = IsDistinct-cons meets b (held bound past)
      (at_each (λ y. meets b y ≡ false) (held bound past)
      (λ y has. apart_across (live bound past) (held bound past) b y all is_live has))
      (apart_right (live bound past) (held bound past) all) in
      IsDistinct-IsPermutation meets meets-flip (b ∷ held bound past) (held bound past ++ b ∷ [])
      (IsPermutation-append_comm (b ∷ []) (held bound past)) first

  -- where blocks were taken from the front of the queue until what is held was left, those are the ones that are gone
  pub gone_is : (evicted : List Extent) → evicted ++ held bound (event.Free p ∷ past) ≡ held bound past ++ b ∷ [] →
      released_from (held bound past ++ b ∷ []) (held bound (event.Free p ∷ past)) ≡ evicted
  gone_is evicted parts =
      let stays = held bound (event.Free p ∷ past) in
      ap (λ xs. released_from xs stays) (sym parts) ∙ gone_front evicted stays (rw parts queue_apart)

  -- then the marks of the free are the block's bytes, freed, and after it the release of each of those in turn
  pub marks_after : (evicted : List Extent) → evicted ++ held bound (event.Free p ∷ past) ≡ held bound past ++ b ∷ [] →
      marks bound (event.Free p ∷ past) ≡ with_marks released_mark evicted (freed_mark b ∷ marks bound past)
  marks_after evicted parts = rw (freed_block, gone_is evicted parts) refl

  -- ---- the release of what the bound no longer holds

  -- a queue on its way there: these blocks were taken from the front of what the free had queued, and what is held of
  -- the rest is what is held after the free
  pub record IsReleasing (evicted queue : List Extent) : Type 0 where
    pub parts : evicted ++ queue ≡ held bound past ++ b ∷ []
    pub left : held_of bound queue ≡ held bound (event.Free p ∷ past)

  -- it starts with the queue with the block at its back
  pub releasing_starts : IsReleasing [] (held bound past ++ b ∷ [])
  releasing_starts = record { parts = refl; left = sym held_after }

  -- while the spans add up to more than the bound, the oldest goes
  pub releasing_goes_on : (evicted : List Extent) (oldest : Extent) (rest : List Extent)
      → IsReleasing evicted (oldest ∷ rest) →
      bound < sum_by span_bytes (oldest ∷ rest) → IsReleasing (evicted ++ oldest ∷ []) rest
  releasing_goes_on evicted oldest rest so_far past_bound = record {
    parts = append_assoc evicted (oldest ∷ []) rest ∙ so_far.parts;
    left = sym (held-past bound oldest rest past_bound) ∙ so_far.left;
  }

  -- once they don't, the queue is what is held after the free, and its marks are the block's and those of what went
  pub releasing_ends : (evicted queue : List Extent) → IsReleasing evicted queue → sum_by span_bytes queue ≤ bound →
      (queue ≡ held bound (event.Free p ∷ past))
      × (marks bound (event.Free p ∷ past) ≡ with_marks released_mark evicted (freed_mark b ∷ marks bound past))
  releasing_ends evicted queue so_far within =
      let is : queue ≡ held bound (event.Free p ∷ past) = sym (held-within bound queue within) ∙ so_far.left in
      (is, marks_after evicted (ap (λ xs. evicted ++ xs) (sym is) ∙ so_far.parts))

-- ---- a free where no live block starts

module _ (bound : ℕ) (past : List Event) (p : Place) (none : list_any (starts_at p.at) (live bound past) ≡ false) where
  nothing_freed : filter (starts_at p.at) (live bound past) ≡ []
  nothing_freed = filter_none (starts_at p.at) (live bound past)
      (λ x has. none_passes (starts_at p.at) (live bound past) x none has)

  -- the live blocks stay
  pub live_stays : live bound (event.Free p ∷ past) ≡ live bound past
  live_stays =
      live_free bound p past
      ∙ filter_all (λ x. not (starts_at p.at x)) (live bound past)
      (λ x has. not_from_false _ (none_passes (starts_at p.at) (live bound past) x none has))

  -- the quarantine stays: it is within its bound already
  pub held_stays : held bound (event.Free p ∷ past) ≡ held bound past
  held_stays =
      held_free bound p past
      ∙ ap (λ xs. held_of bound (held bound past ++ xs)) nothing_freed
      ∙ ap (held_of bound) (append-nil (held bound past))
      ∙ held-within bound (held bound past) (held-total bound (freed bound past))

  -- and there is no mark
  pub marks_stay : marks bound (event.Free p ∷ past) ≡ marks bound past
  marks_stay = rw (
    nothing_freed,
    held_stays,
    append-nil (held bound past),
    gone_front [] (held bound past) (apart_right (live bound past) (held bound past) (spans_apart bound past)),
  ) refl
