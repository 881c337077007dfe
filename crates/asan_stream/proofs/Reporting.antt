-- Reports on their way out of a bench.
use Rattle.std.proofs.Common.{◌≡◌, ◌≤◌, List, ◌++◌, length, take, drop, Option, None, Some, refl, sym, ap, subst, ◌∙◌}
use Rattle.std.proofs.Common.{arith, inl, inr}
use Rattle.std.proofs.lemmas.Bool.{cases_lt}
use Rattle.std.proofs.lemmas.List.{take_all, take-append-le, take-append-drop}
use Rattle.trace_lane.specs.Lanes.{Lane}
use Rattle.asan_check.specs.declared.report.Report.{Report}
use Rattle.asan_stream.specs.declared.outbox.Outbox.{Outbox}
use Rattle.asan_stream.specs.Outboxes.{IsFront, KeepsLane, Holds}
use Rattle.asan_stream.proofs.Checking.{begins_more}

pub front_same : (xs : List Report) → IsFront xs xs
front_same xs = take_all (length xs) xs (omega arith)

front_within : (xs ys : List Report) → IsFront xs ys → length xs ≤ length ys
front_within xs ys front = elim (cases_lt (length ys) (length xs)) [
  | inl short ↦ absurd (let whole = ap length (take_all (length xs) ys (omega arith)) in let same = ap length front in
      omega arith)
  | inr long ↦ long
]

-- a list that begins with another is that one and some more
rest_of : (xs ys : List Report) → IsFront xs ys → ys ≡ xs ++ drop (length xs) ys
rest_of xs ys front = sym (take-append-drop (length xs) ys) ∙ ap (λ zs. zs ++ drop (length xs) ys) front

pub front_trans : (xs ys zs : List Report) → IsFront xs ys → IsFront ys zs → IsFront xs zs
front_trans xs ys zs first second =
    ap (take (length xs)) (rest_of ys zs second) ∙ begins_more xs ys (drop (length ys) zs) first

module _ {A : Type 0} where
  pub keeps_same : (a : Option (Lane A)) → KeepsLane a a
  keeps_same None = tt
  keeps_same (Some lane) = refl

  pub keeps_trans : (a b c : Option (Lane A)) → KeepsLane a b → KeepsLane b c → KeepsLane a c
  keeps_trans a b None first second = tt
  keeps_trans a b (Some lane) first second = subst (λ x. KeepsLane a x) second first

  -- what was put are the first of the reports also where more of them come
  pub holds_more : (o : Outbox A) (xs ys : List Report) → IsFront xs ys → Holds o xs → Holds o ys
  holds_more o xs ys front holds =
      let few = holds.few in
      let within = front_within xs ys front in
      record {
        few = omega arith;
        first = holds.first ∙ sym (ap (take o.put) (rest_of xs ys front)
            ∙ take-append-le o.put xs (drop (length xs) ys) few);
      }
