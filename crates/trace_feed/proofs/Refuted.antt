-- What the contracts of writes and of doors refuse.
-- Each lemma is named for what would have gone wrong.
use Rattle.std.proofs.Common.{◌≡◌, ℕ, [], ◌∷◌, Some, ap, arith}
use Rattle.std.specs.Prelude.{length, take}
use Rattle.std.specs.Io.KnownBytes.{Appends}
use Rattle.trace_feed.specs.declared.door.Arrival.TheVariants.{Refused, Over}
use Rattle.trace_feed.specs.Doors.{Arrives}

-- the writer took one byte and failed, and the next byte is written after that
writes_on_after_fault : ¬ Appends (Some []) (Some (97 ∷ 98 ∷ [])) (take 1 (97 ∷ 98 ∷ []))
writes_on_after_fault appended =
    let two_is_one : ◌≡◌ {A = ℕ} 2 1 = ap length appended in absurd (omega arith)

-- a door with no arrivals left answers that one was refused
refused_where_none_is_left : (F : Type 0) → ¬ Arrives {F = F} (Some []) (Some []) Refused
refused_where_none_is_left F arrives = absurd cc

-- a door is over though one is left to arrive
over_before_the_last : (F : Type 0) → ¬ Arrives {F = F} (Some (Refused ∷ [])) (Some []) Over
over_before_the_last F arrives =
    let some_is_none : ◌≡◌ {A = ℕ} 1 0 = ap length arrives.0 in absurd (omega arith)
