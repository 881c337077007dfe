-- The entries of a map whose spans follow one another.
use Rattle.std.proofs.Common.{◌≡◌, ℕ, ◌+◌, ◌/◌, ◌^◌, ◌<◌, ◌≤◌, Bool, true, false, cond, List, [], ◌∷◌, Option, Some}
use Rattle.std.proofs.Common.{None, Ordering, refl, ap, arith, inl, inr}
use Rattle.std.specs.Prelude.{sum_by, IsSome}
use Rattle.std.specs.List.{list_any}
use Rattle.std.specs.Map.{remove_entry, set_value}
use Rattle.std.specs.BTreeMap.{is_at, insert_entry}
use Rattle.std.specs.Ordering.{nat_cmp, match_ordering}
use Rattle.std.specs.declared.cmp.Ordering.TheVariants as order
use Rattle.std.proofs.lemmas.Bool.{cases_lt, or_parts, or_from, or_left, or_right}
use Rattle.std.proofs.lemmas.Bool.Decides.{nat_tests}
use Rattle.std.proofs.lemmas.Grind.{common_steps}
use Rattle.std.proofs.lemmas.List.Sums.{sum_by-cons}
use Rattle.line_map.specs.declared.tag.Slot.{Slot}
use Rattle.line_map.specs.Maps.{slot_at}
use Rattle.heap_book.specs.Spans.{Extent, IsPlaced, span_from, span_to, span_bytes, meets}
use Rattle.heap_book.specs.Slots.{block_of, blocks_of, FollowFrom}

abbrev Entries : Type 0
Entries = List (ℕ × Slot)

-- a block of a slot's size
abbrev pub block_in : ℕ → Slot → Extent
block_in k s = record { at = k; size = s.size }

-- ---- addresses as keys
pub at_self : (k : ℕ) → is_at (nat_cmp k) k ≡ true
at_self k = grind (arith, common_steps)

pub at_true : (k p : ℕ) → is_at (nat_cmp k) p ≡ true → k ≡ p
at_true k p is = grind (arith, common_steps)

pub some_is : (s t : Slot) → Some s ≡ Some t → s ≡ t
some_is s t e = cc

-- ---- a start that is not later
pub follow-lower : (low high : ℕ) (es : Entries) → low ≤ high → FollowFrom high es → FollowFrom low es
follow-lower low high [] le follows = tt
follow-lower low high (e ∷ es) le follows = (follows.0, (let start = follows.1 in omega arith), follows.2)

-- ---- what is found
pub found : (start k : ℕ) (s : Slot) (es : Entries) → slot_at es k ≡ Some s → FollowFrom start es
    → IsPlaced (block_in k s) × (start ≤ span_from (block_in k s))
found start k s [] is follows = absurd cc
found start k s (e ∷ es) is follows = go (is_at (nat_cmp k) e.0) refl is
    (λ rest. found (span_to (block_of e)) k s es rest follows.2)
  where
    go : (t : Bool) → is_at (nat_cmp k) e.0 ≡ t → cond t (Some e.1) (slot_at es k) ≡ Some s
        → (slot_at es k ≡ Some s → IsPlaced (block_in k s) × (span_to (block_of e) ≤ span_from (block_in k s)))
        → IsPlaced (block_in k s) × (start ≤ span_from (block_in k s))
    go true here some later = rw (at_true k e.0 here, ← some_is e.1 s some) (follows.0, follows.1)
    go false here some later =
        let rest = later some in
        let first = follows.1 in
        let placed = follows.0 in
        (rest.0, omega arith)

-- ---- how many bytes the spans have
pub total-follow : (start : ℕ) (es : Entries) → start ≤ 2 ^ 47 → FollowFrom start es
    → start + sum_by span_bytes (blocks_of es) ≤ 2 ^ 47
total-follow start [] le follows = omega arith
total-follow start (e ∷ es) le follows =
    let placed = follows.0 in
    let first = follows.1 in
    let all : sum_by span_bytes (block_of e ∷ blocks_of es)
    ≡ span_bytes (block_of e) + sum_by span_bytes (blocks_of es) =
    sum_by-cons span_bytes (block_of e) (blocks_of es) in
    let rest = total-follow (span_to (block_of e)) es placed.2 follows.2 in
    omega arith

-- ---- which spans are met
-- none that begins past the block's span
pub unmet-after : (b : Extent) (start : ℕ) (es : Entries) → span_to b ≤ start → FollowFrom start es
    → list_any (meets b) (blocks_of es) ≡ false
unmet-after b start [] le follows = refl
unmet-after b start (e ∷ es) le follows =
    let placed = follows.0 in
    let first = follows.1 in
    let here : meets b (block_of e) ≡ false = grind (arith, nat_tests) in
    or_from (meets b (block_of e)) (list_any (meets b) (blocks_of es)) here
    (unmet-after b (span_to (block_of e)) es (omega arith) follows.2)

-- none where no span begins before the block's ends
pub unmet-none : (b : Extent) (start : ℕ) (es : Entries) → ((p : ℕ) → p < span_to b + 32 → slot_at es p ≡ None)
    → FollowFrom start es → list_any (meets b) (blocks_of es) ≡ false
unmet-none b start [] none follows = refl
unmet-none b start (e ∷ es) none follows =
    elim (cases_lt e.0 (span_to b + 32)) [
      | inl lt ↦ let gone : slot_at (e ∷ es) e.0 ≡ None = none e.0 lt in
          let there : slot_at (e ∷ es) e.0 ≡ Some e.1 = rw (at_self e.0) refl in
          absurd cc
      | inr le ↦ let placed = follows.0 in
          unmet-after b (span_from (block_of e)) (e ∷ es) (omega arith) (follows.0, omega arith, follows.2)
    ]

-- what is found after the first entry is found
pub later-some : (p : ℕ) (e : ℕ × Slot) (es : Entries) → IsSome (slot_at es p) → IsSome (slot_at (e ∷ es) p)
later-some p e es some = go (is_at (nat_cmp p) e.0)
  where
    go : (t : Bool) → IsSome (cond t (Some e.1) (slot_at es p))
    go true = refl
    go false = some

none_from : (o : Option Slot) → ((s : Slot) → o ≡ Some s → ⊥) → o ≡ None
none_from None without = refl
none_from (Some s) without = absurd (without s refl)

-- none where the last one that begins before the block's end ends before the block's span
pub unmet-last : (b : Extent) (start k : ℕ) (s : Slot) (es : Entries) → slot_at es k ≡ Some s
    → ((p : ℕ) → p < span_to b + 32 → IsSome (slot_at es p) → p ≤ k) → span_to (block_in k s) ≤ span_from b
    → FollowFrom start es
    → list_any (meets b) (blocks_of es) ≡ false
unmet-last b start k s [] is last before follows = refl
unmet-last b start k s (e ∷ es) is last before follows =
    go (is_at (nat_cmp k) e.0) refl is (λ rest. unmet-last b (span_to (block_of e)) k s es rest
    (λ p lt some. last p lt (later-some p e es some)) before follows.2)
  where
    go : (t : Bool) → is_at (nat_cmp k) e.0 ≡ t → cond t (Some e.1) (slot_at es k) ≡ Some s
        → (slot_at es k ≡ Some s → list_any (meets b) (blocks_of es) ≡ false)
        → list_any (meets b) (blocks_of (e ∷ es)) ≡ false
    go true here some later =
        let at : k ≡ e.0 = at_true k e.0 here in
        let slot : e.1 ≡ s = some_is e.1 s some in
        let size : e.1.size ≡ s.size = ap (λ x. x.size) slot in
        let unmet : meets b (block_of e) ≡ false = grind (arith, nat_tests) in
        let none : (p : ℕ) → p < span_to b + 32 → slot_at es p ≡ None = λ p lt. none_from (slot_at es p) (λ t there.
        let after = found (span_to (block_of e)) p t es there follows.2 in
        let le : p ≤ k = last p lt (later-some p e es (rw there refl)) in
        omega arith) in
        or_from (meets b (block_of e)) (list_any (meets b) (blocks_of es)) unmet
        (unmet-none b (span_to (block_of e)) es none follows.2)
    go false here some later =
        let after = found (span_to (block_of e)) k s es some follows.2 in
        let unmet : meets b (block_of e) ≡ false = grind (arith, nat_tests) in
        or_from (meets b (block_of e)) (list_any (meets b) (blocks_of es)) unmet (later some)

-- one that is found
pub met : (b : Extent) (k : ℕ) (s : Slot) (es : Entries) → slot_at es k ≡ Some s → meets b (block_in k s) ≡ true
    → list_any (meets b) (blocks_of es) ≡ true
met b k s [] is meet = absurd cc
met b k s (e ∷ es) is meet = go (is_at (nat_cmp k) e.0) refl is (λ rest. met b k s es rest meet)
  where
    go : (t : Bool) → is_at (nat_cmp k) e.0 ≡ t → cond t (Some e.1) (slot_at es k) ≡ Some s
        → (slot_at es k ≡ Some s → list_any (meets b) (blocks_of es) ≡ true)
        → list_any (meets b) (blocks_of (e ∷ es)) ≡ true
    go true here some later = or_left (meets b (block_of e)) (list_any (meets b) (blocks_of es))
        (rw (← at_true k e.0 here, some_is e.1 s some) meet)
    go false here some later = or_right (meets b (block_of e)) (list_any (meets b) (blocks_of es)) (later some)

-- ---- a block that comes in
pub follow-insert : (start : ℕ) (b : Extent) (s : Slot) (es : Entries) → s.size ≡ b.size → IsPlaced b
    → start ≤ span_from b
    → list_any (meets b) (blocks_of es) ≡ false → FollowFrom start es
    → FollowFrom start (insert_entry nat_cmp es b.at s)
follow-insert start b s [] size placed le unmet follows = rw size (placed, le, tt)
follow-insert start b s (e ∷ es) size placed le unmet follows =
    let both = or_parts (meets b (block_of e)) (list_any (meets b) (blocks_of es)) unmet in
    go (nat_cmp b.at e.0) refl both.0 (λ le. follow-insert (span_to (block_of e)) b s es size placed le both.1
    follows.2)
  where
    go : (o : Ordering) → nat_cmp b.at e.0 ≡ o → meets b (block_of e) ≡ false
        → (span_to (block_of e) ≤ span_from b → FollowFrom (span_to (block_of e)) (insert_entry nat_cmp es b.at s))
        → FollowFrom start (match_ordering o ((b.at, s) ∷ e ∷ es) ((e.0, s) ∷ es) (e ∷ insert_entry nat_cmp es b.at s))
    go order.Less is apart later =
        let lt : b.at < e.0 = grind (arith, common_steps) in
        let here = follows.0 in
        let after : span_to b ≤ span_from (block_of e) = grind (arith, nat_tests) in
        rw size (placed, le, (follows.0, after, follows.2))
    go order.Equal is apart later =
        let at : b.at ≡ e.0 = grind (arith, common_steps) in
        let here = follows.0 in
        absurd (grind (arith, nat_tests))
    go order.Greater is apart later =
        let lt : e.0 < b.at = grind (arith, common_steps) in
        let here = follows.0 in
        let after : span_to (block_of e) ≤ span_from b = grind (arith, nat_tests) in
        (follows.0, follows.1, later after)

-- a block whose span meets none starts where none does
pub absent : (b : Extent) (es : Entries) → list_any (meets b) (blocks_of es) ≡ false → slot_at es b.at ≡ None
absent b es unmet = none_from (slot_at es b.at) (λ s is.
    let meet : meets b (block_in b.at s) ≡ true = grind (arith, nat_tests) in
    let any : list_any (meets b) (blocks_of es) ≡ true = met b b.at s es is meet in
    cc)

-- blocks that start less than 64 bytes apart meet
near-meets : (b c : Extent) → IsPlaced b → IsPlaced c → c.at < b.at + 64 → b.at < c.at + 64 → meets b c ≡ true
near-meets b c placed placed' near also = grind (arith, nat_tests)

-- one whose span meets none has its line for itself
pub alone : (b : Extent) (start : ℕ) (es : Entries) → IsPlaced b → FollowFrom start es
    → list_any (meets b) (blocks_of es) ≡ false
    → (p : ℕ) → p / 64 ≡ b.at / 64 → slot_at es p ≡ None
alone b start es placed follows unmet p line = none_from (slot_at es p) (λ s is.
    let there = found start p s es is follows in
    let near : p < b.at + 64 = omega arith in
    let also : b.at < p + 64 = omega arith in
    let meet : meets b (block_in p s) ≡ true = near-meets b (block_in p s) placed there.0 near also in
    let any : list_any (meets b) (blocks_of es) ≡ true = met b p s es is meet in
    cc)

-- ---- an entry that goes, or whose slot changes
pub follow-remove : (start k : ℕ) (es : Entries) → FollowFrom start es
    → FollowFrom start (remove_entry (is_at (nat_cmp k)) es)
follow-remove start k [] follows = tt
follow-remove start k (e ∷ es) follows = go (is_at (nat_cmp k) e.0)
    (follow-remove (span_to (block_of e)) k es follows.2)
  where
    go : (t : Bool) → FollowFrom (span_to (block_of e)) (remove_entry (is_at (nat_cmp k)) es)
        → FollowFrom start (cond t es (e ∷ remove_entry (is_at (nat_cmp k)) es))
    go true rest = follow-lower start (span_to (block_of e)) es (let placed = follows.0 in let first = follows.1 in
        omega arith) follows.2
    go false rest = (follows.0, follows.1, rest)

pub follow-set : (start k : ℕ) (s t : Slot) (es : Entries) → slot_at es k ≡ Some s → t.size ≡ s.size
    → FollowFrom start es → FollowFrom start (set_value (is_at (nat_cmp k)) es t)
follow-set start k s t [] is size follows = tt
follow-set start k s t (e ∷ es) is size follows =
    go (is_at (nat_cmp k) e.0) is (λ rest. follow-set (span_to (block_of e)) k s t es rest size follows.2)
  where
    go : (b : Bool) → cond b (Some e.1) (slot_at es k) ≡ Some s
        → (slot_at es k ≡ Some s → FollowFrom (span_to (block_of e)) (set_value (is_at (nat_cmp k)) es t))
        → FollowFrom start (cond b ((e.0, t) ∷ es) (e ∷ set_value (is_at (nat_cmp k)) es t))
    go true some later = rw (size, ← some_is e.1 s some) (follows.0, follows.1, follows.2)
    go false some later = (follows.0, follows.1, later some)
