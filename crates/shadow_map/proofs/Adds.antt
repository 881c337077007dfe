-- From granules to marks: a call that makes of each shadow byte what a mark does adds that mark.
use Rattle.std.proofs.Common.{◌≡◌, ◌≢◌, ℕ, ◌+◌, ◌*◌, ◌/◌, ◌%◌, ◌^◌, ◌<◌, ◌≤◌, true, leb, ltb, sym, ◌∙◌, arith}
use Rattle.std.specs.Prelude.{◌&&◌}
use Rattle.std.proofs.lemmas.Bool.Decides.{nat_tests}
use Rattle.shadow_map.specs.declared.shadow.Shadow.{Shadow}
use Rattle.shadow_map.specs.declared.granule.Change.TheVariants.{Poisoned}
use Rattle.shadow_map.specs.States.{IsCode, Mark, Fill, Block, Poison, Unpoison, IsMark}
use Rattle.shadow_map.specs.Shows.{value_at}
use Rattle.shadow_map.specs.Granules.{changed_in}
use Rattle.shadow_map.specs.Calls.{range_from, range_to, Adds, AddsInPart, IsBrokenOff}
use Rattle.shadow_map.proofs.Bytes.{MakesOfBytes, fill_makes, poison_makes}
use Rattle.shadow_map.proofs.Cuts.{LeavesMarks, fill_leaves, poison_leaves}
use Rattle.shadow_map.proofs.Fills.{IsFilled, torn_fill, either}

-- a mark that a call may make ends within the memory
mark_ends : (mark : Mark) → IsMark mark → range_to mark ≤ 2 ^ 47
mark_ends (Fill from to code) is = is.4
mark_ends (Block at size) is = is.2
mark_ends (Poison at size code) is = is.1
mark_ends (Unpoison at size) is = is

module _ {A : Type 0} (old new : Shadow A) where
  pub adds : (mark : Mark) (byte_after : ℕ → ℕ → ℕ) → IsMark mark → MakesOfBytes mark byte_after →
      ((granule : ℕ) → value_at new granule ≡ byte_after (value_at old granule) granule) → Adds old new mark
  adds mark byte_after is makes each marks shows = record {
    are_marks = (is, shows.are_marks);
    values = λ granule lt. each granule ∙ makes marks shows.are_marks granule (value_at old granule)
        (shows.values granule lt);
  }

  pub adds_in_part : (mark : Mark) (byte_after : ℕ → ℕ → ℕ) → IsMark mark → MakesOfBytes mark byte_after →
      LeavesMarks mark byte_after → IsBrokenOff (range_from mark) (range_to mark) byte_after old new
      → AddsInPart old new mark
  adds_in_part mark byte_after is makes leaves torn = record {
    byte = torn.byte;
    in_range = torn.in_range;
    shown = λ marks shows granule lt.
        either (ltb granule (torn.byte / 8)) _ _ _ _ _ (torn.values granule)
        (makes marks shows.are_marks granule (value_at old granule) (shows.values granule lt))
        (shows.values granule lt);
    due = λ marks shows same.
        let end = mark_ends mark is in
        let below = torn.in_range.1 in
        let was = shows.values (torn.byte / 8) (omega arith) in
        torn.due (makes marks shows.are_marks (torn.byte / 8) (value_at old (torn.byte / 8)) was ∙ same ∙ sym was);
    some_marks = λ marks shows.
        let left = leaves marks shows.are_marks torn.byte torn.in_range in (
          left.0,
          record {
            are_marks = left.1;
            values = λ granule lt. torn.values granule
                ∙ left.2 granule (value_at old granule) (shows.values granule lt);
          },
        );
  }

  module _ (from to code : ℕ) (granules : (from % 8 ≡ 0) × (to % 8 ≡ 0)) (order : from ≤ to) (end : to ≤ 2 ^ 47)
      (is_a_code : IsCode code) where
    mark_is : IsMark (Fill from to code)
    mark_is = (is_a_code, granules.0, granules.1, order, end)

    pub fill_adds : IsFilled (λ g. value_at old g) (λ g. value_at new g) (from / 8) (to / 8) code
        → Adds old new (Fill from to code)
    fill_adds each = adds (Fill from to code) _ mark_is (fill_makes from to code mark_is) each

    pub fill_adds_in_part : (place : ℕ) × (from / 8 ≤ place) × (place < to / 8)
        × IsFilled (λ g. value_at old g) (λ g. value_at new g) (from / 8) place code × (value_at old place ≢ code) →
        AddsInPart old new (Fill from to code)
    fill_adds_in_part torn =
        let low = torn.1 in
        let below = torn.2 in
        let aligned = granules.0 in
        let also = granules.1 in
        let place : 8 * torn.0 / 8 ≡ torn.0 = omega arith in
        let in_it : (leb (from / 8) torn.0 && ltb torn.0 (to / 8)) ≡ true = grind (arith, nat_tests) in
        adds_in_part (Fill from to code) _ mark_is (fill_makes from to code mark_is) (fill_leaves from to code mark_is)
        record {
          byte = 8 * torn.0;
          in_range = (omega arith, omega arith);
          values = rw place (λ g. torn.3 g ∙ torn_fill (from / 8) (to / 8) torn.0 code (value_at old g) g torn.2);
          due = rw place (rw in_it (λ is. torn.4 (sym is)));
        }

  module _ (at size code : ℕ) (end : at + size ≤ 2 ^ 47) (is_a_code : IsCode code) where
    poison_is_mark : IsMark (Poison at size code)
    poison_is_mark = (is_a_code, end)

    pub poison_adds : ((granule : ℕ) → value_at new granule
        ≡ changed_in (Poisoned code) at (at + size) (value_at old granule) granule) → Adds old new (Poison at size code)
    poison_adds each = adds (Poison at size code) _ poison_is_mark (poison_makes at size code poison_is_mark) each

    pub poison_adds_in_part : IsBrokenOff at (at + size) (changed_in (Poisoned code) at (at + size)) old new
        → AddsInPart old new (Poison at size code)
    poison_adds_in_part torn =
        adds_in_part (Poison at size code) _ poison_is_mark (poison_makes at size code poison_is_mark)
        (poison_leaves at size code poison_is_mark) torn
