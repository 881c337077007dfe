-- Lists of items that the contracts of a lane refuse.
-- Each lemma is named for what would have gone wrong.
use Rattle.std.proofs.Common.{◌≡◌, ℕ, ◌≤◌, ◌++◌, List, [], ◌∷◌, length, take, refl, sym, ap, ◌∙◌, arith, length-append}
use Rattle.std.proofs.lemmas.List.{length-take-le}
use Rattle.std.specs.Prelude.{slice_index}
use Rattle.trace_lane.specs.declared.lane_in.LaneIn.{LaneIn}
use Rattle.trace_lane.specs.declared.lane_out.LaneOut.{LaneOut}
use Rattle.trace_lane.specs.declared.lane_end.LaneEnd.{LaneEnd}
use Rattle.trace_lane.specs.Lanes.{put_list, taken_list, waiting, end_list}

-- ---- what is put

module _ {T A : Type 0} (before after : LaneIn T A) (x y : T) where
  -- the first of two items is put twice, however many are said to have been put
  put_some_puts_its_first_item_twice :
      (count : ℕ) → count ≤ 2 →
      put_list after ≡ put_list before ++ x ∷ x ∷ y ∷ [] →
      ¬ (put_list after ≡ put_list before ++ take count (x ∷ y ∷ []))
  put_some_puts_its_first_item_twice count some twice put =
      let three : length (x ∷ x ∷ y ∷ []) ≡ 3 = refl in
      let two : length (x ∷ y ∷ []) ≡ 2 = refl in
      let same : length (put_list before ++ x ∷ x ∷ y ∷ [])
      ≡ length (put_list before ++ take count (x ∷ y ∷ []))
      = ap length (sym twice ∙ put) in
      let wrong = length-append (put_list before) (x ∷ x ∷ y ∷ []) in
      let right = length-append (put_list before) (take count (x ∷ y ∷ [])) in
      let taken = length-take-le count (x ∷ y ∷ []) some in
      absurd (omega (arith, three, two, same, wrong, right, taken))

-- ---- what is taken, and what waits

module _ {T A : Type 0} (out : LaneOut T A) (end : LaneEnd T A) (x y : T) where
  -- an item that was taken still waits
  item_is_given_twice :
      taken_list out ≡ x ∷ [] → waiting out ≡ x ∷ y ∷ [] → end_list end ≡ x ∷ y ∷ [] →
      ¬ (taken_list out ++ waiting out ≡ end_list end)
  item_is_given_twice taken waits put all =
      let same : (x ∷ []) ++ (x ∷ y ∷ []) ≡ x ∷ y ∷ [] = cc in
      let three_is_two : ◌≡◌ {A = ℕ} 3 2 = ap length same in absurd (omega arith)

  -- an item that was put was not taken, and does not wait
  item_is_lost :
      taken_list out ≡ x ∷ [] → waiting out ≡ [] → end_list end ≡ x ∷ y ∷ [] →
      ¬ (taken_list out ++ waiting out ≡ end_list end)
  item_is_lost taken waits put all =
      let same : (x ∷ []) ++ [] ≡ x ∷ y ∷ [] = cc in
      let one_is_two : ◌≡◌ {A = ℕ} 1 2 = ap length same in absurd (omega arith)

-- the item that was put last is taken first
last_comes_first :
    {A : Type 0} (out : LaneOut ℕ A) (end : LaneEnd ℕ A) →
    taken_list out ≡ 2 ∷ [] → waiting out ≡ 1 ∷ [] → end_list end ≡ 1 ∷ 2 ∷ [] →
    ¬ (taken_list out ++ waiting out ≡ end_list end)
last_comes_first out end taken waits put all =
    let same : ◌≡◌ {A = List ℕ} (2 ∷ 1 ∷ []) (1 ∷ 2 ∷ []) = cc in
    let two_is_one : ◌≡◌ {A = ℕ} 2 1 = ap (λ items. slice_index items 0) same in
    absurd (omega arith)

-- a take passes over the first item that waits
item_is_passed_over :
    {A : Type 0} (before after : LaneOut ℕ A) →
    waiting before ≡ 1 ∷ 2 ∷ [] → waiting after ≡ [] →
    ¬ (waiting before ≡ 2 ∷ waiting after)
item_is_passed_over before after waits none known =
    let same : ◌≡◌ {A = List ℕ} (1 ∷ 2 ∷ []) (2 ∷ []) = cc in
    let two_is_one : ◌≡◌ {A = ℕ} 2 1 = ap length same in
    absurd (omega arith)
