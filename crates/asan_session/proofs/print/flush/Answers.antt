use Rattle.std.proofs.Common.{sym, ◌∙◌}
use Rattle.asan_session.proofs.Printing.{gone_whole, where_ok, where_not_ok}
use Rattle.asan_session.proofs.print.flush.Goals.{then-is_ok, else-is_ok}
use Rattle.asan_session.proofs.print.flush.Goals as goal

pub returns-clause-ok : goal.returns-clause-ok
returns-clause-ok g c =
    elim c.if-is_ok.branch [
      | then-is_ok w ↦ where_ok c.args.wrote _
          (λ before text sent. rw w.output-is (gone_whole before _ _ text c.args.outcomes.now c.if-is_ok.wrote
          c.exit_status.result w.flush.ensures.bytes c.exit_status.ensures sent))
      | else-is_ok w ↦ where_not_ok c.args.wrote _ (sym c.is_ok.ensures.value ∙ w.if-is_ok.false)
    ]
