use Rattle.std.proofs.Common.{◌≡◌, ◌+◌, ◌-◌, leb, ltb, false, take, ◌∙◌, arith}
use Rattle.std.specs.Prelude.{◌&&◌}
use Rattle.std.proofs.lemmas.Bool.Decides.{nat_tests}
use Rattle.std.proofs.lemmas.Result.{err_from_is_err_and}
use Rattle.page_table.specs.Runs.{length_of}
use Rattle.page_table.proofs.Runs.{byte_in_run, filled_on, length_on, length_within}
use Rattle.page_table.proofs.node.fill_each_run.Goals as goal
use Rattle.page_table.proofs.node.fill_each_run.Goals.{then-at-next+in_ok-fill, else-at-next}

pub loop-run-preserved : goal.loop-run-preserved
loop-run-preserved g c =
    let width = g.S.Node.width in
    let byte_at = g.S.Node.byte_at in
    let runs = c.args.runs.now in
    let i = c.loop-run.run-index in
    let lt = c.loop-run-test.true in
    let reached = c.loop-run.invariant.reached in
    let more = length_on runs i lt in
    let next : c.if-at-next.at ≡ c.args.from + length_of (take (i + 1) runs) = elim c.if-at-next.branch [
      | then-at-next+in_ok-fill w ↦ (let at = w.at-is in omega arith)
      | else-at-next w ↦ (let at = w.at-is in omega arith)
    ] in
    record {
      reached = next;
      filled = elim c.if-at-next.branch [
        | then-at-next+in_ok-fill w ↦ rw (w.node-is, w.at-is)
            (filled_on width (byte_at c.args.node.now) (byte_at c.loop-run.node) (byte_at w.fill.new.self) c.args.from
            c.loop-run.at runs i lt reached
            _ (omega arith) (omega arith) c.loop-run.invariant.filled w.in_ok-fill.ensures.ok)
        | else-at-next w ↦ (let same : c.if-at-next.at ≡ c.loop-run.at =
            (let at = w.at-is in let past = w.if-at-next.false in omega arith) in
            rw (w.node-is, same) c.loop-run.invariant.filled)
      ];
    }

pub returns-in_err-fill-clause-err : goal.returns-in_err-fill-clause-err
returns-in_err-fill-clause-err g c =
    let width = g.S.Node.width in
    let byte_at = g.S.Node.byte_at in
    let runs = c.args.runs.now in
    let i = c.loop-run.run-index in
    let lt = c.loop-run-test.true in
    let reached = c.loop-run.invariant.reached in
    let more = length_on runs i lt in
    let within = length_within runs (i + 1) in
    let p = err_from_is_err_and c.from_residual.result c.from_residual.ensures.1 in
    let e = c.in_err-fill.ensures.err in
    rw p.1 (
      e.0,
      (let low = e.1 in omega arith),
      (let high = e.2 in omega arith),
      filled_on width (byte_at c.args.node.now) (byte_at c.loop-run.node) (byte_at c.fill.new.self) c.args.from
          c.loop-run.at runs i lt reached
          e.0 e.1 (let high = e.2 in omega arith) c.loop-run.invariant.filled e.3,
      λ same. e.4 (
          let low = e.1 in
          let high = e.2 in
          let past : (leb c.args.from e.0 && ltb e.0 c.loop-run.at) ≡ false = grind (arith, nat_tests) in
          c.loop-run.invariant.filled e.0 (omega arith) ∙ rw past same
          ∙ byte_in_run runs i (e.0 - c.args.from) lt (omega arith) (omega arith)
          ),
    )
