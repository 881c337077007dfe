use Rattle.std.proofs.Common.{◌∙◌, sym}
use Rattle.asan_request.proofs.Asked.{asked_in_words, asked_quietly}
use Rattle.asan_request.proofs.command_line.read_arguments.Goals as goal

pub returns-clause-input : goal.returns-clause-input
returns-clause-input c =
    asked_in_words c.read_words.result c.args.arguments.now c.read_words.ensures.asks
    (sym c.is_empty.ensures ∙ c.if-is_empty.false)

pub returns-clause-quiet : goal.returns-clause-quiet
returns-clause-quiet c = λ no files is. asked_quietly c.read_words.result (c.read_words.ensures.quiet no) files is
