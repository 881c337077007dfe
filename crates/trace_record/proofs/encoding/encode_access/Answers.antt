use Rattle.std.proofs.Common.{ℕ, List, [], ◌∷◌, ◌++◌, ap, ◌∙◌, arith}
use Rattle.std.proofs.Math.ListN.{set}
use Rattle.std.proofs.lemmas.List.{take_more_set, length-set}
use Rattle.std.specs.Int.{w64, to_le_bytes}
use Rattle.trace_record.proofs.encoding.encode_access.Goals as goal

pub returns-clause-front : goal.returns-clause-front
returns-clause-front c =
    let width = c.args.access.now.width in
    let coded = set c.args.out.now 0 c.args.code in
    let first = take_more_set c.args.out.now 0 c.args.code (omega arith) in
    let two = take_more_set coded 1 width (omega (arith, length-set {A = ℕ})) in
    c.put_number.ensures.front ∙ ap (λ (front : List ℕ). front ++ to_le_bytes w64 c.args.access.now.at) (two
    ∙ ap (λ (front : List ℕ). front ++ width ∷ []) first)
