-- Marks that leave a byte as it was: those of blocks whose spans it isn't in, and of regions that share no granule
-- with it.
use Rattle.std.proofs.Common.{◌≡◌, ℕ, ◌+◌, ◌*◌, ◌/◌, ◌≤◌, ◌<◌, Bool, true, false, cond, leb, ltb, List, [], ◌∷◌, Some}
use Rattle.std.proofs.Common.{None, refl, ◌∙◌, arith, inl, inr}
use Rattle.std.specs.Prelude.{◌&&◌, unwrap_or, Contains}
use Rattle.std.proofs.lemmas.Bool.{and_parts, ltb-true, leb-true, cases_lt, false_from_ne_true}
use Rattle.std.proofs.lemmas.Bool.Decides.{nat_tests}
use Rattle.trace_record.specs.declared.event.Region.{Region}
use Rattle.shadow_map.specs.States.{State, Addressable, Mark, Block, Poison, Unpoison, lies_in, granule_lies_in}
use Rattle.shadow_map.specs.States.{state_of}
use Rattle.heap_book.specs.Spans.{Extent, span_from, span_to, meets}
use Rattle.asan_units.specs.Units.{round_up}
use Rattle.asan_check.specs.History.{with_marks, freed_mark, released_mark}
use Rattle.asan_laws.specs.Laws.{SharesGranule}
use Rattle.asan_check.proofs.Members.{in_head, in_tail}

-- a mark that leaves a byte as it was, whatever marks stand before it
abbrev pub Leaves : Mark → ℕ → Type 0
Leaves mark byte = (marks : List Mark) → state_of (mark ∷ marks) byte ≡ state_of marks byte

-- ---- the marks of blocks

-- a byte of one block's span
pub record IsInSpan (b : Extent) (byte : ℕ) : Type 0 where
  pub from : span_from b ≤ byte
  pub to : byte < span_to b

module _ (b other : Extent) (byte : ℕ) (apart : meets b other ≡ false) (in_span : IsInSpan b byte) where
  off_span : lies_in (span_from other) (span_to other) byte ≡ false
  off_span = let from = in_span.from in let to = in_span.to in grind (arith, nat_tests)

  off_bytes : lies_in other.at (other.at + round_up other.size) byte ≡ false
  off_bytes = let from = in_span.from in let to = in_span.to in grind (arith, nat_tests)

  pub block_leaves : Leaves (Block other.at other.size) byte
  block_leaves marks = rw off_span refl

  pub freed_leaves : Leaves (freed_mark other) byte
  freed_leaves marks = rw off_bytes refl

  pub released_leaves : Leaves (released_mark other) byte
  released_leaves marks = rw off_span refl

-- the same for a mark of each block of a list
pub marked_leaves : (mark : Extent → Mark) (blocks : List Extent) (marks : List Mark) (byte : ℕ)
    → ((b : Extent) → Contains blocks b → Leaves (mark b) byte) →
    state_of (with_marks mark blocks marks) byte ≡ state_of marks byte
marked_leaves mark [] marks byte each = refl
marked_leaves mark (b ∷ blocks) marks byte each =
    marked_leaves mark blocks (mark b ∷ marks) byte (λ c has. each c (in_tail c b blocks has))
    ∙ each b (in_head b blocks) marks

-- ---- the marks of regions

module _ (at size from to byte : ℕ) (clear : ¬ SharesGranule at size from to) (above : from ≤ byte)
    (below : byte < to) where
  shares : (own : ℕ) → at ≤ own → own < at + size → own / 8 ≡ byte / 8 → ⊥
  shares own least most same = clear record {
    own = own;
    other = byte;
    in_region = (least, most);
    in_range = (above, below);
    one_granule = same;
  }

  not_whole : granule_lies_in at (at + size) byte ≡ false
  not_whole = false_from_ne_true _ (λ whole.
      let parts = and_parts (leb at (8 * (byte / 8))) (leb (8 * (byte / 8) + 8) (at + size)) whole in
      let first = leb-true _ _ parts.0 in
      let last = leb-true _ _ parts.1 in
      shares byte (omega arith) (omega arith) refl)

  not_part : lies_in at (at + size) byte ≡ false
  not_part = false_from_ne_true _ (λ part.
      let parts = and_parts (leb at byte) (ltb byte (at + size)) part in
      shares byte (leb-true _ _ parts.0) (ltb-true _ _ parts.1) refl)

  not_reached : (ltb 0 size && ltb byte (at + size) && ltb at (8 * (byte / 8) + 8)) ≡ false
  not_reached = false_from_ne_true _ (λ reached.
      let outer = and_parts (ltb 0 size && ltb byte (at + size)) (ltb at (8 * (byte / 8) + 8)) reached in
      let inner = and_parts (ltb 0 size) (ltb byte (at + size)) outer.0 in
      let some = ltb-true _ _ inner.0 in
      let before_end = ltb-true _ _ inner.1 in
      let begun = ltb-true _ _ outer.1 in
      elim (cases_lt byte at) [
        | inl less ↦ shares at (omega arith) (omega arith) (omega arith)
        | inr more ↦ shares byte more before_end refl
      ])

  pub poison_leaves : (code : ℕ) → Leaves (Poison at size code) byte
  poison_leaves code marks = rw (not_whole, not_part) refl

  pub unpoison_leaves : Leaves (Unpoison at size) byte
  unpoison_leaves marks = rw not_reached refl

-- an addressable byte stays so under an unpoison, wherever it is
pub unpoison_keeps : (r : Region) (byte : ℕ) (marks : List Mark) → state_of marks byte ≡ Addressable
    → state_of (Unpoison r.at r.size ∷ marks) byte ≡ Addressable
unpoison_keeps r byte marks is = go (ltb 0 r.size && ltb byte (r.at + r.size) && ltb r.at (8 * (byte / 8) + 8))
    (state_of marks byte) is
  where
    go : (t : Bool) (s : State) → s ≡ Addressable → unwrap_or (cond t (Some Addressable) None) s ≡ Addressable
    go true s is = refl
    go false s is = is
