-- What is wrong in a history, histories that leave the same behind them, and histories from which
-- loads and stores were left out.
use Rattle.std.specs.Prelude.{ℕ, ◌≡◌, ◌⊎◌, IsTrue, List, [], ◌∷◌, map}
use Rattle.trace_record.specs.declared.event.Event.{Event}
use Rattle.asan_check.specs.declared.report.Fault.{Fault}
use Rattle.asan_check.specs.History.{live, held, marks}
use Rattle.asan_check.specs.Verdicts.{is_access, verdicts, verdicts_of}

-- what is wrong in a history, oldest first: the verdicts on it without their numbers
abbrev pub faults_of : ℕ → List Event → List Fault
faults_of bound past = map (λ r. r.fault) (verdicts_of bound past)

-- what is wrong with events that stand in their order, oldest first
abbrev pub faults_on : ℕ → List Event → List Fault
faults_on bound events = map (λ r. r.fault) (verdicts bound events)

-- two histories leave the same behind them: the same marks, the same live and the same held blocks,
-- in the same order
pub record LeaveTheSame (bound : ℕ) (one other : List Event) : Type 0 where
  pub same_marks : marks bound one ≡ marks bound other
  pub same_live : live bound one ≡ live bound other
  pub same_held : held bound one ≡ held bound other

-- the first list of events is the second with some loads and stores left out, and nothing else;
-- what is left stands in its order
pub data LeavesOut : List Event → List Event → Type 0 where
  ends : LeavesOut [] []
  keeps : (e : Event) (thin full : List Event) → LeavesOut thin full
      → LeavesOut (e ∷ thin) (e ∷ full)
  leaves_out : (e : Event) (thin full : List Event) → IsTrue (is_access e)
      → LeavesOut thin full → LeavesOut thin (e ∷ full)

module _ {A : Type 0} where
  -- the elements of one list are, in their order, some of those of another
  abbrev pub IsSublist : List A → List A → Type 0
  IsSublist [] others = Unit {0}
  IsSublist (x ∷ xs) [] = ⊥
  IsSublist (x ∷ xs) (y ∷ others) =
      ((x ≡ y) × IsSublist xs others) ⊎ IsSublist (x ∷ xs) others
