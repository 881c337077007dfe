-- A list after a fill of a part of it.
use Rattle.std.proofs.Common.{◌≡◌, ℕ, ◌-◌, ◌≤◌, true, false, cond, leb, ltb, ◌&&◌, List, length, take, drop, get_or}
use Rattle.std.proofs.Common.{◌∙◌, ap, arith, inl, inr, length-take}
use Rattle.std.specs.Prelude.{replicate}
use Rattle.std.proofs.lemmas.Bool.{cases_lt}
use Rattle.std.proofs.lemmas.Bool.Decides.{nat_tests}
use Rattle.std.proofs.lemmas.List.{length-replicate, get_or-append_right, get_or_append_left, get_or-replicate}
use Rattle.std.proofs.lemmas.List.{get_or-take, get_or-drop}
use borrow.Rule.Slice.PartMut.{put_mid}

pub filled : (xs ys : List ℕ) (from to n v i : ℕ) → from ≤ to → to ≤ length xs → n ≡ to - from → ys ≡ replicate n v →
    get_or (put_mid from (to - from) xs ys) i 0 ≡ cond (leb from i && ltb i to) v (get_or xs i 0)
filled xs ys from to n v i le within count is =
    let front : length (take from xs) ≡ from = length-take from xs ∙ omega arith in
    let long : length ys ≡ to - from = ap length is ∙ length-replicate n v ∙ count in
    elim (cases_lt i from) [
      | inl lt ↦ let no : leb from i ≡ false = grind (arith, nat_tests) in
          rw no (get_or_append_left (take from xs) _ 0 i (omega arith) ∙ get_or-take from xs i 0 lt)
      | inr ge ↦ let yes : leb from i ≡ true = grind (arith, nat_tests) in
          get_or-append_right (take from xs) _ from i 0 front ge ∙
          elim (cases_lt i to) [
            | inl lt ↦ let also : ltb i to ≡ true = grind (arith, nat_tests) in
                rw (yes, also) (get_or_append_left ys _ 0 (i - from) (omega arith)
                ∙ ap (λ (l : List ℕ). get_or l (i - from) 0) is ∙ get_or-replicate n (i - from) v 0 (omega arith))
            | inr past ↦ let no : ltb i to ≡ false = grind (arith, nat_tests) in
                rw (yes, no) (get_or-append_right ys _ (to - from) (i - from) 0 long (omega arith)
                ∙ get_or-drop (to - from) (drop from xs) (i - from - (to - from)) 0 ∙ get_or-drop from xs _ 0
                ∙ ap (λ k. get_or xs k 0) (omega arith))
          ]
    ]
