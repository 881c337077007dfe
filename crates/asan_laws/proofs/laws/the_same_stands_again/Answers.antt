use Rattle.asan_laws.proofs.Alike.{by_states, alike_fault, alike_step, left_alike}
use Rattle.asan_check.specs.History.{marks}
use Rattle.asan_laws.proofs.laws.the_same_stands_again.Goals as goal

pub returns-clause-verdict : goal.returns-clause-verdict
returns-clause-verdict c = λ bound one other event same. alike_fault bound one other same event

pub returns-clause-again : goal.returns-clause-again
returns-clause-again c = λ bound one other event same. alike_step bound one other same event

pub returns-clause-left : goal.returns-clause-left
returns-clause-left c = left_alike

pub returns-clause-states : goal.returns-clause-states
returns-clause-states c bound one other same same_live same_held = record {
  same_shadow = by_states (marks bound one) (marks bound other) same;
  same_live = same_live;
  same_held = same_held;
}
