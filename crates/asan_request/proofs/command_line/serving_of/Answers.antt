use Rattle.std.specs.Str.Parse.{ExplainsUnsignedError, HasUnsignedDigitsIfOk, ParsesUnsigned}
use Rattle.asan_request.proofs.Reading.{given_by}
use Rattle.asan_request.proofs.command_line.serving_of.Goals as goal

pub returns-clause-count : goal.returns-clause-count
returns-clause-count c =
    given_by (λ text r. ParsesUnsigned 32 10 text r × ExplainsUnsignedError 10 text r × HasUnsignedDigitsIfOk text r) 32
    (λ text r given. given.0) _ _ _ c.in-Some-Some.is-1 c.get_one.ensures.none c.get_one.ensures.value
