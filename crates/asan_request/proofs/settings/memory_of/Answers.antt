use Rattle.std.specs.Str.Parse.{ExplainsUnsignedError, HasUnsignedDigitsIfOk, ParsesUnsigned}
use Rattle.asan_request.proofs.Reading.{set_if}
use Rattle.asan_request.proofs.settings.memory_of.Goals as goal

pub returns : goal.returns
returns c =
    set_if (λ text r. ParsesUnsigned 64 10 text r × ExplainsUnsignedError 10 text r × HasUnsignedDigitsIfOk text r) 64
    (λ text r given. given.0) _ _ c.get_one.ensures.none c.get_one.ensures.value
