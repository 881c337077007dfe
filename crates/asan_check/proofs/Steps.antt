-- What one more event does to the blocks of a history: to the live ones, the freed ones and the held ones.
--
-- A load, a store, a poison and an unpoison change none of them, nor does a malloc that is refused: there the lists
-- compute to what they were, a refused malloc's by its `admits .. ≡ false`.
use Rattle.std.proofs.Common.{◌≡◌, ℕ, suc, ◌+◌, ◌≤◌, ◌<◌, Bool, true, false, cond, leb, eqb, List, [], ◌∷◌, ◌++◌}
use Rattle.std.proofs.Common.{length, map, refl, ap, ◌∙◌, arith, add-one, append_assoc}
use Rattle.std.specs.Prelude.{filter, not, ◌&&◌, ◌||◌}
use Rattle.std.specs.List.{AllByRecursion, IsDistinct}
use Rattle.std.proofs.lemmas.Bool.Decides.{nat_tests}
use Rattle.std.proofs.lemmas.List.{map-append, append-nil}
use Rattle.std.proofs.lemmas.List.Elements.{filter-append}
use Rattle.trace_record.specs.declared.event.Event.{Event}
use Rattle.trace_record.specs.declared.event.Event.TheVariants as event
use Rattle.trace_record.specs.declared.event.Place.{Place}
use Rattle.trace_record.specs.declared.event.Region.{Region}
use Rattle.heap_book.specs.Spans.{Extent, held_of, meets, may_be_admitted, starts_at}
use Rattle.heap_book.proofs.Held.{held-append}
use Rattle.heap_book.proofs.NeverMeet.{apart-freed, apart-admitted, meets-flip}
use Rattle.std.proofs.lemmas.List.Sorted.{IsPermutation-sym, IsPermutation-middle}
use Rattle.std.proofs.lemmas.Map.Keys.{IsDistinct-IsPermutation}
use Rattle.asan_check.specs.History.{Admitted, block_of, is_freed_since, is_unfreed, live_among, freed_among}
use Rattle.asan_check.specs.History.{admitted_blocks, live, freed, held, admits}

-- an admitted block, at the end of the live ones
apart_pushed : (lives helds : List Extent) (b : Extent) → IsDistinct meets (lives ++ helds)
    → may_be_admitted (lives ++ helds) b ≡ true → IsDistinct meets ((lives ++ b ∷ []) ++ helds)
apart_pushed lives helds b apart may =
    rw (append_assoc lives (b ∷ []) helds)
    (IsDistinct-IsPermutation meets meets-flip _ _ (IsPermutation-sym _ _ (IsPermutation-middle lives b helds))
    (apart-admitted lives helds b apart may))

-- tests of equality, either way round
pub eqb_flips : (m n : ℕ) → eqb m n ≡ eqb n m
eqb_flips m n = grind (arith, nat_tests)

-- ---- the numbers of admitted blocks

abbrev NumbersUpTo : ℕ → List Admitted → Type 0
NumbersUpTo n blocks = AllByRecursion (λ b. b.number ≤ n) blocks

numbers_more : (n : ℕ) (blocks : List Admitted) → NumbersUpTo n blocks → NumbersUpTo (n + 1) blocks
numbers_more n [] h = tt
numbers_more n (b ∷ blocks) h = (let le = h.0 in omega arith, numbers_more n blocks h.1)

numbers_push : (n : ℕ) (blocks : List Admitted) (b : Admitted) → NumbersUpTo n blocks → b.number ≤ n
    → NumbersUpTo n (blocks ++ b ∷ [])
numbers_push n [] b h le = (le, tt)
numbers_push n (c ∷ blocks) b h le = (h.0, numbers_push n blocks b h.1 le)

-- a block's number is that of an event of the history
numbers : (bound : ℕ) (past : List Event) → NumbersUpTo (length past) (admitted_blocks bound past)
numbers bound [] = tt
numbers bound (event.Malloc r ∷ past) = go (admits bound past (block_of r)) (numbers_more _ _ (numbers bound past))
  where
    go : (b : Bool) → NumbersUpTo (length past + 1) (admitted_blocks bound past) →
        NumbersUpTo (suc (length past)) (cond b (admitted_blocks bound past
        ++ record { number = length past + 1; block = block_of r } ∷ []) (admitted_blocks bound past))
    go true more = rw (← add-one) (numbers_push _ _ _ more (omega arith))
    go false more = rw (← add-one) more
numbers bound (e ∷ past) = rw (← add-one) (numbers_more _ _ (numbers bound past))

-- no free stands after an event that has not come
unfreed_new : (past : List Event) (at n : ℕ) → length past < n → is_freed_since past at n ≡ false
unfreed_new [] at n lt = refl
unfreed_new (event.Free p ∷ past) at n lt =
    let no : leb n (length past) ≡ false = grind (arith, nat_tests) in
    rw (no, unfreed_new past at n (omega arith)) (and_false (eqb p.at at))
  where
    and_false : (b : Bool) → ((b && false) || false) ≡ false
    and_false true = refl
    and_false false = refl
unfreed_new (e ∷ past) at n lt = unfreed_new past at n (omega arith)

-- ---- the live blocks

live_filter : (p : Place) (past : List Event) (blocks : List Admitted) → NumbersUpTo (length past) blocks →
    live_among (event.Free p ∷ past) blocks ≡ filter (λ x. not (starts_at p.at x)) (live_among past blocks)
live_filter p past [] h = refl
live_filter p past (b ∷ blocks) h =
    let old : leb b.number (length past) ≡ true = let le = h.0 in grind (arith, nat_tests) in
    rw (old, eqb_flips p.at b.block.at) (go (eqb b.block.at p.at) (is_freed_since past b.block.at b.number) refl
    (live_filter p past blocks h.1))
  where
    go : (e f : Bool) → eqb b.block.at p.at ≡ e
        → live_among (event.Free p ∷ past) blocks ≡ filter (λ x. not (starts_at p.at x)) (live_among past blocks) →
        map (λ b. b.block) (cond (not ((e && true) || f)) (b ∷ filter (is_unfreed (event.Free p ∷ past)) blocks)
        (filter (is_unfreed (event.Free p ∷ past)) blocks))
        ≡ filter (λ x. not (starts_at p.at x)) (map (λ b. b.block)
        (cond (not f) (b ∷ filter (is_unfreed past) blocks) (filter (is_unfreed past) blocks)))
    go true true is rest = rest
    go false true is rest = rest
    go true false is rest = rw is rest
    go false false is rest = rw is (ap (λ xs. b.block ∷ xs) rest)

-- a free takes away the live block that starts at its address
pub live_free : (bound : ℕ) (p : Place) (past : List Event) →
    live bound (event.Free p ∷ past) ≡ filter (λ x. not (starts_at p.at x)) (live bound past)
live_free bound p past = live_filter p past (admitted_blocks bound past) (numbers bound past)

-- an admitted malloc adds its block at the end
pub live_malloc : (bound : ℕ) (r : Region) (past : List Event) → admits bound past (block_of r) ≡ true →
    live bound (event.Malloc r ∷ past) ≡ live bound past ++ block_of r ∷ []
live_malloc bound r past ok =
    rw (ok, filter-append, unfreed_new past r.at (length past + 1) (omega arith), map-append) refl

-- ---- the freed blocks

-- a free adds the live block that starts at its address
pub freed_free : (bound : ℕ) (p : Place) (past : List Event) →
    freed bound (event.Free p ∷ past) ≡ freed bound past ++ filter (starts_at p.at) (live bound past)
freed_free bound p past = ap (λ xs. freed bound past ++ xs) (taken (admitted_blocks bound past) (numbers bound past))
  where
    taken : (blocks : List Admitted) → NumbersUpTo (length past) blocks →
        map (λ b. b.block) (filter (λ b. eqb b.block.at p.at && leb b.number (length past) && is_unfreed past b) blocks)
        ≡ filter (starts_at p.at) (live_among past blocks)
    taken [] h = refl
    taken (b ∷ blocks) h =
        let old : leb b.number (length past) ≡ true = let le = h.0 in grind (arith, nat_tests) in
        rw old (go (eqb b.block.at p.at) (is_unfreed past b) refl (taken blocks h.1))
      where
        go : (e f : Bool) → eqb b.block.at p.at ≡ e →
            map (λ b. b.block) (filter (λ b. eqb b.block.at p.at && leb b.number (length past) && is_unfreed past b)
            blocks) ≡ filter (starts_at p.at) (live_among past blocks) →
            map (λ b. b.block) (cond ((e && true) && f)
            (b ∷ filter (λ b. eqb b.block.at p.at && leb b.number (length past) && is_unfreed past b) blocks)
            (filter (λ b. eqb b.block.at p.at && leb b.number (length past) && is_unfreed past b) blocks))
            ≡ filter (starts_at p.at) (map (λ b. b.block)
            (cond f (b ∷ filter (is_unfreed past) blocks) (filter (is_unfreed past) blocks)))
        go true true is rest = rw is (ap (λ xs. b.block ∷ xs) rest)
        go false true is rest = rw is rest
        go true false is rest = rest
        go false false is rest = rest

freed_new : (past : List Event) (blocks : List Admitted) (b : Admitted) → length past < b.number
    → freed_among past (blocks ++ b ∷ []) ≡ freed_among past blocks
freed_new [] blocks b lt = refl
freed_new (event.Free p ∷ past) blocks b lt =
    let later : leb b.number (length past) ≡ false = grind (arith, nat_tests) in
    let none : (eqb b.block.at p.at && leb b.number (length past) && is_unfreed past b) ≡ false =
    rw later (neither (eqb b.block.at p.at) (is_unfreed past b)) in
    rw (freed_new past blocks b (omega arith), filter-append, none, append-nil) refl
  where
    neither : (x y : Bool) → (x && false && y) ≡ false
    neither true y = refl
    neither false y = refl
freed_new (e ∷ past) blocks b lt = freed_new past blocks b (omega arith)

-- a malloc, admitted or not, leaves them
pub freed_malloc : (bound : ℕ) (r : Region) (past : List Event) → freed bound (event.Malloc r ∷ past) ≡ freed bound past
freed_malloc bound r past = go (admits bound past (block_of r))
  where
    go : (b : Bool) → freed_among past (cond b
        (admitted_blocks bound past ++ record { number = length past + 1; block = block_of r } ∷ [])
        (admitted_blocks bound past)) ≡ freed bound past
    go true = freed_new past (admitted_blocks bound past) _ (omega arith)
    go false = refl

-- ---- the held blocks

-- after a free, those that are held of what was held and of the block that starts at its address
pub held_free : (bound : ℕ) (p : Place) (past : List Event) →
    held bound (event.Free p ∷ past) ≡ held_of bound (held bound past ++ filter (starts_at p.at) (live bound past))
held_free bound p past =
    ap (held_of bound) (freed_free bound p past)
    ∙ held-append bound (freed bound past) (filter (starts_at p.at) (live bound past))

-- a malloc, admitted or not, leaves them
pub held_malloc : (bound : ℕ) (r : Region) (past : List Event) → held bound (event.Malloc r ∷ past) ≡ held bound past
held_malloc bound r past = ap (held_of bound) (freed_malloc bound r past)

-- ---- their spans

pub none_apart : IsDistinct meets []
unfolding IsDistinct
none_apart = tt

-- the spans of live and held blocks never meet
pub spans_apart : (bound : ℕ) (past : List Event) → IsDistinct meets (live bound past ++ held bound past)
spans_apart bound [] = none_apart
spans_apart bound (event.Free p ∷ past) =
    rw (live_free bound p past, freed_free bound p past)
    (apart-freed (starts_at p.at) bound (live bound past) (freed bound past) (spans_apart bound past))
spans_apart bound (event.Malloc r ∷ past) = go (admits bound past (block_of r)) refl (spans_apart bound past)
  where
    go : (b : Bool) → admits bound past (block_of r) ≡ b → IsDistinct meets (live bound past ++ held bound past) →
        IsDistinct meets (live bound (event.Malloc r ∷ past) ++ held bound (event.Malloc r ∷ past))
    go true ok before = rw (live_malloc bound r past ok, freed_malloc bound r past)
        (apart_pushed (live bound past) (held bound past) (block_of r) before ok)
    go false is before = rw is before
spans_apart bound (e ∷ past) = spans_apart bound past
