use Rattle.asan_senders.proofs.joining.end.Goals as goal

pub returns-in-Running : goal.returns-in-Running
returns-in-Running g c = rw c.in-Running.is (λ share will. will c.join.result c.join.ensures)

pub returns-in-Lost : goal.returns-in-Lost
returns-in-Lost g c = rw c.in-Lost.is c.new.ensures.items
