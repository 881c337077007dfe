-- The blocks of a map's entries, live and freed, as an entry comes in, changes or goes.
use Rattle.std.proofs.Common.{◌≡◌, ℕ, ◌+◌, ◌^◌, ◌<◌, ◌≤◌, Bool, true, false, cond, not, List, [], ◌∷◌, ◌++◌, Some, None}
use Rattle.std.proofs.Common.{Ordering, refl, sym, ap, ◌∙◌, arith}
use Rattle.std.specs.Prelude.{sum_by, Contains, filter, ◌||◌}
use Rattle.std.specs.List.{IsDistinct, list_any}
use Rattle.std.specs.List.Sorted.{IsPermutation}
use Rattle.std.specs.Map.{remove_entry, set_value}
use Rattle.std.specs.BTreeMap.{is_at, insert_entry}
use Rattle.std.specs.Ordering.{nat_cmp, is_eq, match_ordering}
use Rattle.std.specs.declared.cmp.Ordering.TheVariants as order
use Rattle.std.proofs.lemmas.Bool.{or_parts, or_from, or_left}
use Rattle.std.proofs.lemmas.Bool.Decides.{nat_tests}
use Rattle.std.proofs.lemmas.Grind.{common_steps}
use Rattle.std.proofs.lemmas.List.Folds.{list_any-append}
use Rattle.std.proofs.lemmas.List.Sorted.{IsPermutation-refl, IsPermutation-sym, IsPermutation-trans}
use Rattle.std.proofs.lemmas.List.Sorted.{IsPermutation-cons, IsPermutation-middle, IsPermutation-append_right}
use Rattle.std.proofs.lemmas.List.Sorted.{Contains-permutation, IsPermutation-to_front, list_any-IsPermutation}
use Rattle.std.proofs.lemmas.List.Sorted.{sum_by-IsPermutation}
use Rattle.std.proofs.lemmas.List.Sums.{sum_by-cons, sum_by-append}
use Rattle.std.proofs.lemmas.Map.Keys.{IsDistinct-cons, IsDistinct-IsPermutation}
use Rattle.line_map.specs.declared.tag.Slot.{Slot}
use Rattle.heap_book.specs.Spans.{Extent, span_to, span_bytes, meets, starts_at}
use Rattle.heap_book.specs.Slots.{block_of, blocks_of, live_of, freed_of, FollowFrom}
use Rattle.heap_book.proofs.Permutations.{same, same-refl, same-true, IsPermutation-tail}
use Rattle.line_map.specs.Maps.{slot_at}
use Rattle.heap_book.proofs.Following.{block_in, at_self, at_true, some_is, found, total-follow, unmet-after}
use Rattle.heap_book.proofs.NeverMeet.{all-unmet, meets-flip}

abbrev Entries : Type 0
Entries = List (ℕ × Slot)

swapped : (a b : Extent) (xs ys : List Extent) → IsPermutation (a ∷ xs) ys → IsPermutation (a ∷ b ∷ xs) (b ∷ ys)
swapped a b xs ys perm =
    IsPermutation-trans (a ∷ b ∷ xs) (b ∷ a ∷ xs) (b ∷ ys) (IsPermutation-middle (a ∷ []) b xs)
    (IsPermutation-cons b (a ∷ xs) ys perm)

-- ---- each entry's block is live or freed
pub blocks_of-parts : (es : Entries) → IsPermutation (blocks_of es) (live_of es ++ freed_of es)
blocks_of-parts [] = IsPermutation-refl []
blocks_of-parts (e ∷ es) = go e.1.live (IsPermutation-cons (block_of e) (blocks_of es) (live_of es ++ freed_of es)
    (blocks_of-parts es))
  where
    go : (t : Bool) → IsPermutation (block_of e ∷ blocks_of es) (block_of e ∷ (live_of es ++ freed_of es))
        → IsPermutation (block_of e ∷ blocks_of es)
        (cond t (block_of e ∷ live_of es) (live_of es) ++ cond t (freed_of es) (block_of e ∷ freed_of es))
    go true perm = perm
    go false perm = IsPermutation-trans (block_of e ∷ blocks_of es) (block_of e ∷ (live_of es ++ freed_of es))
        (live_of es ++ block_of e ∷ freed_of es) perm
        (IsPermutation-sym (live_of es ++ block_of e ∷ freed_of es) (block_of e ∷ (live_of es ++ freed_of es))
        (IsPermutation-middle (live_of es) (block_of e) (freed_of es)))

-- the same, where a queue has the freed ones in its own order
pub blocks_of-taken : (es : Entries) (queue : List Extent) → IsPermutation (freed_of es) queue
    → IsPermutation (blocks_of es) (live_of es ++ queue)
blocks_of-taken es queue freed =
    IsPermutation-trans (blocks_of es) (live_of es ++ freed_of es) (live_of es ++ queue) (blocks_of-parts es)
    (IsPermutation-append_right (live_of es) (freed_of es) queue freed)

-- ---- a live block comes in
pub live_of-insert : (k : ℕ) (s : Slot) (es : Entries) → slot_at es k ≡ None → s.live ≡ true
    → IsPermutation (block_in k s ∷ live_of es) (live_of (insert_entry nat_cmp es k s))
live_of-insert k s [] none live = rw live (IsPermutation-refl (block_in k s ∷ []))
live_of-insert k s (e ∷ es) none live = go (nat_cmp k e.0) none (λ rest. live_of-insert k s es rest live)
  where
    go : (o : Ordering) → cond (is_eq o) (Some e.1) (slot_at es k) ≡ None
        → (slot_at es k ≡ None → IsPermutation (block_in k s ∷ live_of es) (live_of (insert_entry nat_cmp es k s)))
        → IsPermutation (block_in k s ∷ live_of (e ∷ es))
        (live_of (match_ordering o ((k, s) ∷ e ∷ es) ((e.0, s) ∷ es) (e ∷ insert_entry nat_cmp es k s)))
    go order.Less gone later = rw live (IsPermutation-refl (block_in k s ∷ live_of (e ∷ es)))
    go order.Equal gone later = absurd cc
    go order.Greater gone later = by_live e.1.live (later gone)
      where
        by_live : (t : Bool) → IsPermutation (block_in k s ∷ live_of es) (live_of (insert_entry nat_cmp es k s))
            → IsPermutation (block_in k s ∷ cond t (block_of e ∷ live_of es) (live_of es))
            (cond t (block_of e ∷ live_of (insert_entry nat_cmp es k s)) (live_of (insert_entry nat_cmp es k s)))
        by_live false perm = perm
        by_live true perm = swapped (block_in k s) (block_of e) (live_of es) (live_of (insert_entry nat_cmp es k s))
            perm

pub freed_of-insert : (k : ℕ) (s : Slot) (es : Entries) → slot_at es k ≡ None → s.live ≡ true
    → freed_of (insert_entry nat_cmp es k s) ≡ freed_of es
freed_of-insert k s [] none live = rw live refl
freed_of-insert k s (e ∷ es) none live = go (nat_cmp k e.0) none (λ rest. freed_of-insert k s es rest live)
  where
    go : (o : Ordering) → cond (is_eq o) (Some e.1) (slot_at es k) ≡ None
        → (slot_at es k ≡ None → freed_of (insert_entry nat_cmp es k s) ≡ freed_of es)
        → freed_of (match_ordering o ((k, s) ∷ e ∷ es) ((e.0, s) ∷ es) (e ∷ insert_entry nat_cmp es k s))
        ≡ freed_of (e ∷ es)
    go order.Less gone later = rw live refl
    go order.Equal gone later = absurd cc
    go order.Greater gone later = ap (λ bs. cond e.1.live bs (block_of e ∷ bs)) (later gone)

-- ---- a freed block goes
pub live_of-remove : (k : ℕ) (s : Slot) (es : Entries) → slot_at es k ≡ Some s → s.live ≡ false
    → live_of (remove_entry (is_at (nat_cmp k)) es) ≡ live_of es
live_of-remove k s [] is dead = refl
live_of-remove k s (e ∷ es) is dead = go (is_at (nat_cmp k) e.0) is (λ rest. live_of-remove k s es rest dead)
  where
    go : (t : Bool) → cond t (Some e.1) (slot_at es k) ≡ Some s
        → (slot_at es k ≡ Some s → live_of (remove_entry (is_at (nat_cmp k)) es) ≡ live_of es)
        → live_of (cond t es (e ∷ remove_entry (is_at (nat_cmp k)) es)) ≡ live_of (e ∷ es)
    go true some later = let off : e.1.live ≡ false = rw (some_is e.1 s some) dead in rw off refl
    go false some later = ap (λ bs. cond e.1.live (block_of e ∷ bs) bs) (later some)

pub freed_of-remove : (k : ℕ) (s : Slot) (es : Entries) → slot_at es k ≡ Some s → s.live ≡ false
    → IsPermutation (block_in k s ∷ freed_of (remove_entry (is_at (nat_cmp k)) es)) (freed_of es)
freed_of-remove k s [] is dead = absurd cc
freed_of-remove k s (e ∷ es) is dead = go (is_at (nat_cmp k) e.0) refl is (λ rest. freed_of-remove k s es rest dead)
  where
    go : (t : Bool) → is_at (nat_cmp k) e.0 ≡ t → cond t (Some e.1) (slot_at es k) ≡ Some s
        → (slot_at es k ≡ Some s → IsPermutation (block_in k s ∷ freed_of (remove_entry (is_at (nat_cmp k)) es))
        (freed_of es))
        → IsPermutation (block_in k s ∷ freed_of (cond t es (e ∷ remove_entry (is_at (nat_cmp k)) es)))
        (freed_of (e ∷ es))
    go true here some later =
        let off : e.1.live ≡ false = rw (some_is e.1 s some) dead in
        rw (off, at_true k e.0 here, ← some_is e.1 s some) (IsPermutation-refl (block_of e ∷ freed_of es))
    go false here some later = by_live e.1.live (later some)
      where
        by_live : (t : Bool) → IsPermutation (block_in k s ∷ freed_of (remove_entry (is_at (nat_cmp k)) es))
            (freed_of es)
            → IsPermutation (block_in k s ∷ cond t (freed_of (remove_entry (is_at (nat_cmp k)) es))
            (block_of e ∷ freed_of (remove_entry (is_at (nat_cmp k)) es)))
            (cond t (freed_of es) (block_of e ∷ freed_of es))
        by_live true perm = perm
        by_live false perm = swapped (block_in k s) (block_of e) (freed_of (remove_entry (is_at (nat_cmp k)) es))
            (freed_of es) perm

-- ---- a live block is freed
pub live_of-set : (k : ℕ) (s t : Slot) (es : Entries) → slot_at es k ≡ Some s → s.live ≡ true → t.live ≡ false
    → IsPermutation (block_in k s ∷ live_of (set_value (is_at (nat_cmp k)) es t)) (live_of es)
live_of-set k s t [] is live dead = absurd cc
live_of-set k s t (e ∷ es) is live dead = go (is_at (nat_cmp k) e.0) refl is
    (λ rest. live_of-set k s t es rest live dead)
  where
    go : (b : Bool) → is_at (nat_cmp k) e.0 ≡ b → cond b (Some e.1) (slot_at es k) ≡ Some s
        → (slot_at es k ≡ Some s → IsPermutation (block_in k s ∷ live_of (set_value (is_at (nat_cmp k)) es t))
        (live_of es))
        → IsPermutation (block_in k s ∷ live_of (cond b ((e.0, t) ∷ es) (e ∷ set_value (is_at (nat_cmp k)) es t)))
        (live_of (e ∷ es))
    go true here some later =
        let on : e.1.live ≡ true = rw (some_is e.1 s some) live in
        rw (dead, on, at_true k e.0 here, ← some_is e.1 s some) (IsPermutation-refl (block_of e ∷ live_of es))
    go false here some later = by_live e.1.live (later some)
      where
        by_live : (b : Bool) → IsPermutation (block_in k s ∷ live_of (set_value (is_at (nat_cmp k)) es t)) (live_of es)
            → IsPermutation (block_in k s ∷ cond b (block_of e ∷ live_of (set_value (is_at (nat_cmp k)) es t))
            (live_of (set_value (is_at (nat_cmp k)) es t))) (cond b (block_of e ∷ live_of es) (live_of es))
        by_live false perm = perm
        by_live true perm = swapped (block_in k s) (block_of e) (live_of (set_value (is_at (nat_cmp k)) es t))
            (live_of es) perm

pub freed_of-set : (k : ℕ) (s t : Slot) (es : Entries) → slot_at es k ≡ Some s → s.live ≡ true → t.live ≡ false
    → t.size ≡ s.size
    → IsPermutation (block_in k s ∷ freed_of es) (freed_of (set_value (is_at (nat_cmp k)) es t))
freed_of-set k s t [] is live dead size = absurd cc
freed_of-set k s t (e ∷ es) is live dead size =
    go (is_at (nat_cmp k) e.0) refl is (λ rest. freed_of-set k s t es rest live dead size)
  where
    go : (b : Bool) → is_at (nat_cmp k) e.0 ≡ b → cond b (Some e.1) (slot_at es k) ≡ Some s
        → (slot_at es k ≡ Some s → IsPermutation (block_in k s ∷ freed_of es)
        (freed_of (set_value (is_at (nat_cmp k)) es t)))
        → IsPermutation (block_in k s ∷ freed_of (e ∷ es))
        (freed_of (cond b ((e.0, t) ∷ es) (e ∷ set_value (is_at (nat_cmp k)) es t)))
    go true here some later =
        let on : e.1.live ≡ true = rw (some_is e.1 s some) live in
        rw (dead, on, size, at_true k e.0 here, ← some_is e.1 s some) (IsPermutation-refl (block_of e ∷ freed_of es))
    go false here some later = by_live e.1.live (later some)
      where
        by_live : (b : Bool) → IsPermutation (block_in k s ∷ freed_of es)
            (freed_of (set_value (is_at (nat_cmp k)) es t))
            → IsPermutation (block_in k s ∷ cond b (freed_of es) (block_of e ∷ freed_of es))
            (cond b (freed_of (set_value (is_at (nat_cmp k)) es t))
            (block_of e ∷ freed_of (set_value (is_at (nat_cmp k)) es t)))
        by_live true perm = perm
        by_live false perm = swapped (block_in k s) (block_of e) (freed_of es)
            (freed_of (set_value (is_at (nat_cmp k)) es t)) perm

-- ---- which blocks start at an address
-- none where nothing is found
pub starts-none : (k : ℕ) (es : Entries) → slot_at es k ≡ None → list_any (starts_at k) (blocks_of es) ≡ false
starts-none k [] none = refl
starts-none k (e ∷ es) none = go (is_at (nat_cmp k) e.0) refl none (starts-none k es)
  where
    go : (t : Bool) → is_at (nat_cmp k) e.0 ≡ t → cond t (Some e.1) (slot_at es k) ≡ None
        → (slot_at es k ≡ None → list_any (starts_at k) (blocks_of es) ≡ false)
        → list_any (starts_at k) (blocks_of (e ∷ es)) ≡ false
    go true here gone later = absurd cc
    go false here gone later =
        let other : starts_at k (block_of e) ≡ false = grind (arith, common_steps) in
        or_from (starts_at k (block_of e)) (list_any (starts_at k) (blocks_of es)) other (later gone)

-- none that lies after it
starts-after : (k start : ℕ) (es : Entries) → k < start → FollowFrom start es
    → list_any (starts_at k) (blocks_of es) ≡ false
starts-after k start [] lt follows = refl
starts-after k start (e ∷ es) lt follows =
    let placed = follows.0 in
    let first = follows.1 in
    let other : starts_at k (block_of e) ≡ false = grind (arith, nat_tests) in
    or_from (starts_at k (block_of e)) (list_any (starts_at k) (blocks_of es)) other
    (starts-after k (span_to (block_of e)) es (omega arith) follows.2)

-- no live one where none at all
live-none : (p : Extent → Bool) (es : Entries) → list_any p (blocks_of es) ≡ false → list_any p (live_of es) ≡ false
live-none p es none =
    (or_parts (list_any p (live_of es)) (list_any p (freed_of es))
    (sym (list_any-append p (live_of es) (freed_of es))
    ∙ sym (list_any-IsPermutation p (blocks_of es) (live_of es ++ freed_of es) (blocks_of-parts es)) ∙ none)).0

-- what starts at the address of a freed block is not live
pub live-starts-none : (k start : ℕ) (s : Slot) (es : Entries) → slot_at es k ≡ Some s → s.live ≡ false
    → FollowFrom start es → list_any (starts_at k) (live_of es) ≡ false
live-starts-none k start s [] is dead follows = refl
live-starts-none k start s (e ∷ es) is dead follows =
    go (is_at (nat_cmp k) e.0) refl is (λ rest. live-starts-none k (span_to (block_of e)) s es rest dead follows.2)
  where
    go : (t : Bool) → is_at (nat_cmp k) e.0 ≡ t → cond t (Some e.1) (slot_at es k) ≡ Some s
        → (slot_at es k ≡ Some s → list_any (starts_at k) (live_of es) ≡ false)
        → list_any (starts_at k) (live_of (e ∷ es)) ≡ false
    go true here some later =
        let off : e.1.live ≡ false = rw (some_is e.1 s some) dead in
        let at : k ≡ e.0 = at_true k e.0 here in
        let placed = follows.0 in
        let none : list_any (starts_at k) (blocks_of es) ≡ false =
        starts-after k (span_to (block_of e)) es (omega arith) follows.2 in
        rw off (live-none (starts_at k) es none)
    go false here some later = by_live e.1.live (later some)
      where
        by_live : (t : Bool) → list_any (starts_at k) (live_of es) ≡ false
            → list_any (starts_at k) (cond t (block_of e ∷ live_of es) (live_of es)) ≡ false
        by_live true none =
            let other : starts_at k (block_of e) ≡ false = grind (arith, common_steps) in
            or_from (starts_at k (block_of e)) (list_any (starts_at k) (live_of es)) other none
        by_live false none = none

-- a freed block is found
pub freed-found : (b : Extent) (start : ℕ) (es : Entries) → list_any (same b) (freed_of es) ≡ true → FollowFrom start es
    → slot_at es b.at ≡ Some (record { size = b.size; live = false })
freed-found b start [] any follows = absurd cc
freed-found b start (e ∷ es) any follows =
    go e.1.live refl any (λ rest. elsewhere (freed-found b (span_to (block_of e)) es rest follows.2))
  where
    elsewhere : slot_at es b.at ≡ Some (record { size = b.size; live = false })
        → slot_at (e ∷ es) b.at ≡ Some (record { size = b.size; live = false })
    elsewhere is =
        let after = found (span_to (block_of e)) b.at (record { size = b.size; live = false }) es is follows.2 in
        let placed = follows.0 in
        let other : is_at (nat_cmp b.at) e.0 ≡ false = grind (arith, common_steps) in
        rw other is

    go : (t : Bool) → e.1.live ≡ t → list_any (same b) (cond t (freed_of es) (block_of e ∷ freed_of es)) ≡ true
        → (list_any (same b) (freed_of es) ≡ true
        → slot_at (e ∷ es) b.at ≡ Some (record { size = b.size; live = false }))
        → slot_at (e ∷ es) b.at ≡ Some (record { size = b.size; live = false })
    go true live some later = later some
    go false live some later = here_or_later (same b (block_of e)) refl some
      where
        here_or_later : (t : Bool) → same b (block_of e) ≡ t → (t || list_any (same b) (freed_of es)) ≡ true
            → slot_at (e ∷ es) b.at ≡ Some (record { size = b.size; live = false })
        here_or_later true is _ =
            let block : b ≡ block_of e = same-true b (block_of e) is in
            rw (block, at_self e.0, ← live) refl
        here_or_later false is rest = later rest

-- ---- how many bytes a queue of the freed blocks has, with a live block
pub total-with-live : (k : ℕ) (s : Slot) (es : Entries) (queue : List Extent) → slot_at es k ≡ Some s → s.live ≡ true
    → FollowFrom 0 es → IsPermutation (freed_of es) queue
    → sum_by span_bytes queue + span_bytes (block_in k s) ≤ 2 ^ 47
total-with-live k s es queue is live follows freed =
    let rest = live_of (set_value (is_at (nat_cmp k)) es (record { size = s.size; live = false })) in
    let out : sum_by span_bytes (live_of es) ≡ sum_by span_bytes (block_in k s ∷ rest) =
    sum_by-IsPermutation span_bytes (block_in k s ∷ rest) (live_of es)
    (live_of-set k s (record { size = s.size; live = false }) es is live refl) in
    let one : sum_by span_bytes (block_in k s ∷ rest) ≡ span_bytes (block_in k s) + sum_by span_bytes rest =
    sum_by-cons span_bytes (block_in k s) rest in
    let parts : sum_by span_bytes (live_of es ++ queue) ≡ sum_by span_bytes (live_of es) + sum_by span_bytes queue =
    sum_by-append span_bytes (live_of es) queue in
    let all : sum_by span_bytes (live_of es ++ queue) ≡ sum_by span_bytes (blocks_of es) =
    sum_by-IsPermutation span_bytes (blocks_of es) (live_of es ++ queue) (blocks_of-taken es queue freed) in
    let within : 0 + sum_by span_bytes (blocks_of es) ≤ 2 ^ 47 = total-follow 0 es (omega arith) follows in
    omega arith

-- ---- the spans of the live blocks and of a queue of the freed ones
-- which they meet
pub meets-taken : (b : Extent) (es : Entries) (queue : List Extent) → IsPermutation (freed_of es) queue
    → list_any (meets b) (live_of es ++ queue) ≡ list_any (meets b) (blocks_of es)
meets-taken b es queue freed = sym (list_any-IsPermutation (meets b) (blocks_of es) (live_of es ++ queue)
    (blocks_of-taken es queue freed))

-- they never meet
blocks_of-apart : (start : ℕ) (es : Entries) → FollowFrom start es → IsDistinct meets (blocks_of es)
blocks_of-apart start [] follows = unfold IsDistinct in tt
blocks_of-apart start (e ∷ es) follows =
    IsDistinct-cons meets (block_of e) (blocks_of es)
    (all-unmet (block_of e) (blocks_of es) (unmet-after (block_of e) (span_to (block_of e)) es (omega arith)
    follows.2))
    (blocks_of-apart (span_to (block_of e)) es follows.2)

pub taken-apart : (es : Entries) (queue : List Extent) → FollowFrom 0 es → IsPermutation (freed_of es) queue
    → IsDistinct meets (live_of es ++ queue)
taken-apart es queue follows freed =
    IsDistinct-IsPermutation meets meets-flip (blocks_of es) (live_of es ++ queue) (blocks_of-taken es queue freed)
    (blocks_of-apart 0 es follows)

-- ---- the block that was freed first, as the queue's order has it
pub oldest-found : (b : Extent) (rest : List Extent) (es : Entries) → IsPermutation (freed_of es) (b ∷ rest)
    → FollowFrom 0 es → slot_at es b.at ≡ Some (record { size = b.size; live = false })
oldest-found b rest es freed follows =
    freed-found b 0 es (list_any-IsPermutation (same b) (freed_of es) (b ∷ rest) freed
    ∙ or_left (same b b) (list_any (same b) rest) (same-refl b)) follows

pub freed_of-rest : (b : Extent) (rest : List Extent) (es : Entries) → IsPermutation (freed_of es) (b ∷ rest)
    → FollowFrom 0 es → IsPermutation (freed_of (remove_entry (is_at (nat_cmp b.at)) es)) rest
freed_of-rest b rest es freed follows =
    let slot : Slot = record { size = b.size; live = false } in
    let left = freed_of (remove_entry (is_at (nat_cmp b.at)) es) in
    IsPermutation-tail b left rest (IsPermutation-trans (b ∷ left) (freed_of es) (b ∷ rest)
    (freed_of-remove b.at slot es (oldest-found b rest es freed follows) refl) freed)

-- ---- a live block that is found
pub Contains-live : (k : ℕ) (s : Slot) (es : Entries) → slot_at es k ≡ Some s → s.live ≡ true
    → Contains (live_of es) (block_in k s)
Contains-live k s es is live =
    let slot : Slot = record { size = s.size; live = false } in
    let rest = live_of (set_value (is_at (nat_cmp k)) es slot) in
    Contains-permutation (block_in k s ∷ rest) (live_of es) (block_in k s) (live_of-set k s slot es is live refl)
    (0, omega arith, refl)

pub live-starts : (k : ℕ) (s : Slot) (es : Entries) → slot_at es k ≡ Some s → s.live ≡ true
    → list_any (starts_at k) (live_of es) ≡ true
live-starts k s es is live =
    let slot : Slot = record { size = s.size; live = false } in
    let rest = live_of (set_value (is_at (nat_cmp k)) es slot) in
    let here : starts_at k (block_in k s) ≡ true = grind (arith, nat_tests) in
    sym (list_any-IsPermutation (starts_at k) (block_in k s ∷ rest) (live_of es) (live_of-set k s slot es is live refl))
    ∙ or_left (starts_at k (block_in k s)) (list_any (starts_at k) rest) here

-- a freed one
pub freed-starts : (k : ℕ) (s : Slot) (es : Entries) → slot_at es k ≡ Some s → s.live ≡ false
    → list_any (starts_at k) (freed_of es) ≡ true
freed-starts k s es is dead =
    let rest = freed_of (remove_entry (is_at (nat_cmp k)) es) in
    let here : starts_at k (block_in k s) ≡ true = grind (arith, nat_tests) in
    sym (list_any-IsPermutation (starts_at k) (block_in k s ∷ rest) (freed_of es) (freed_of-remove k s es is dead))
    ∙ or_left (starts_at k (block_in k s)) (list_any (starts_at k) rest) here

-- a list of which none passes a test is left by the filter for the others
filter-none : (p : Extent → Bool) (bs : List Extent) → list_any p bs ≡ false → filter (λ b. not (p b)) bs ≡ bs
filter-none p [] none = refl
filter-none p (b ∷ bs) none =
    let both = or_parts (p b) (list_any p bs) none in
    rw both.0 (ap (λ cs. b ∷ cs) (filter-none p bs both.1))

-- the other live blocks are those that start elsewhere
pub live_of-others : (k start : ℕ) (s t : Slot) (es : Entries) → slot_at es k ≡ Some s → s.live ≡ true → t.live ≡ false
    → FollowFrom start es
    → live_of (set_value (is_at (nat_cmp k)) es t) ≡ filter (λ b. not (starts_at k b)) (live_of es)
live_of-others k start s t [] is live dead follows = refl
live_of-others k start s t (e ∷ es) is live dead follows =
    go (is_at (nat_cmp k) e.0) refl is (λ rest. live_of-others k (span_to (block_of e)) s t es rest live dead follows.2)
  where
    go : (b : Bool) → is_at (nat_cmp k) e.0 ≡ b → cond b (Some e.1) (slot_at es k) ≡ Some s
        → (slot_at es k ≡ Some s → live_of (set_value (is_at (nat_cmp k)) es t)
        ≡ filter (λ b. not (starts_at k b)) (live_of es))
        → live_of (cond b ((e.0, t) ∷ es) (e ∷ set_value (is_at (nat_cmp k)) es t))
        ≡ filter (λ b. not (starts_at k b)) (live_of (e ∷ es))
    go true here some later =
        let on : e.1.live ≡ true = rw (some_is e.1 s some) live in
        let at : k ≡ e.0 = at_true k e.0 here in
        let placed = follows.0 in
        let starts : starts_at k (block_of e) ≡ true = grind (arith, nat_tests) in
        let none : list_any (starts_at k) (blocks_of es) ≡ false =
        starts-after k (span_to (block_of e)) es (omega arith) follows.2 in
        rw (dead, on, starts) (sym (filter-none (starts_at k) (live_of es) (live-none (starts_at k) es none)))
    go false here some later = by_live e.1.live (later some)
      where
        by_live : (b : Bool) → live_of (set_value (is_at (nat_cmp k)) es t)
            ≡ filter (λ b. not (starts_at k b)) (live_of es)
            → cond b (block_of e ∷ live_of (set_value (is_at (nat_cmp k)) es t))
            (live_of (set_value (is_at (nat_cmp k)) es t))
            ≡ filter (λ b. not (starts_at k b)) (cond b (block_of e ∷ live_of es) (live_of es))
        by_live false rest = rest
        by_live true rest =
            let other : starts_at k (block_of e) ≡ false = grind (arith, common_steps) in
            rw other (ap (λ bs. block_of e ∷ bs) rest)

-- one more freed block, at the back of the queue
pub freed_of-push : (b : Extent) (before after queue : List Extent) → IsPermutation before queue
    → IsPermutation (b ∷ before) after → IsPermutation after (queue ++ b ∷ [])
freed_of-push b before after queue freed more =
    IsPermutation-trans after (b ∷ before) (queue ++ b ∷ []) (IsPermutation-sym (b ∷ before) after more)
    (IsPermutation-trans (b ∷ before) (b ∷ queue) (queue ++ b ∷ []) (IsPermutation-cons b before queue freed)
    (IsPermutation-sym (queue ++ b ∷ []) (b ∷ queue) (IsPermutation-to_front queue b)))

-- nothing starts where nothing is found
pub none-starts : (k : ℕ) (es : Entries) (queue : List Extent) → slot_at es k ≡ None → IsPermutation (freed_of es) queue
    → (list_any (starts_at k) (live_of es) ≡ false) × (list_any (starts_at k) queue ≡ false)
none-starts k es queue none freed =
    or_parts (list_any (starts_at k) (live_of es)) (list_any (starts_at k) queue)
    (sym (list_any-append (starts_at k) (live_of es) queue)
    ∙ sym (list_any-IsPermutation (starts_at k) (blocks_of es) (live_of es ++ queue)
    (blocks_of-taken es queue freed)) ∙ starts-none k es none)
