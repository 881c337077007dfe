use Rattle.std.proofs.Common.{◌≡◌, ◌++◌, take, drop, ap, sym, ◌∙◌, arith}
use Rattle.std.proofs.Math.Seq.{take-add}
use Rattle.std.proofs.lemmas.Grind.{common_steps}
use Rattle.std.proofs.lemmas.List.{take_rest, length-drop}
use Rattle.trace_lane.specs.Lanes.{put_list}
use Rattle.asan_stream.proofs.outbox.Outbox.send.Goals as goal

pub returns-clause-holds : goal.returns-clause-holds
returns-clause-holds g c =
    let reports = c.args.reports.now in
    let put = c.args.self.now.put in
    let some = c.put_some.result in
    let rest = take_rest reports put in
    let most = rw rest at c.put_some.ensures.some in
    let before : put_list c.in-Some.lane ≡ take put reports = rw c.in-Some.is at c.requires.first in
    let after = rw rest at c.put_some.ensures.put in
    let few = c.requires.few in
    record {
      few = omega (arith, length-drop put reports);
      first = c.is_left.ensures.put ∙ after ∙ ap (λ xs. xs ++ take some (drop put reports)) before
          ∙ sym (take-add put some reports);
    }

pub returns-clause-all : goal.returns-clause-all
returns-clause-all g c = grind (arith, common_steps)

pub returns-clause-stays : goal.returns-clause-stays
returns-clause-stays g c = grind (arith, common_steps)
