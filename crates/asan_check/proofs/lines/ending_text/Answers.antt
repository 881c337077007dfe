use Rattle.std.proofs.Common.{sym, ◌∙◌}
use Rattle.asan_check.proofs.Pieces.{may_be_cut_back}
use Rattle.asan_check.proofs.lines.ending_text.Goals as goal

pub truncate-requires : goal.truncate-requires
truncate-requires g c = λ _. rw c.len-before.ensures (
    may_be_cut_back _ c.args.text.now c.push_ending-answer.new.text c.push_ending-answer.result
    c.push_ending-answer.ensures.appends (sym c.is_err.ensures.value ∙ c.if-is_err.true)
    )
