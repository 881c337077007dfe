use Rattle.std.proofs.Common.{ℕ, List, ◌++◌, ap, ◌∙◌, arith}
use Rattle.std.proofs.lemmas.List.{take_more_set}
use Rattle.std.specs.Int.{w64, to_le_bytes}
use Rattle.trace_record.proofs.encoding.encode_place.Goals as goal

pub returns-clause-front : goal.returns-clause-front
returns-clause-front c =
    let first = take_more_set c.args.out.now 0 c.args.code (omega arith) in
    c.put_number.ensures.front ∙ ap (λ (front : List ℕ). front ++ to_le_bytes w64 c.args.place.now.at) first
