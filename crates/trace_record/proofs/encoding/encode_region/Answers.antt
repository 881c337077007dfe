use Rattle.std.proofs.Common.{ℕ, List, ◌++◌, drop, sym, ap, ◌∙◌, arith}
use Rattle.std.proofs.lemmas.List.{take_more_set, drop-drop, drop-set-lt}
use Rattle.std.specs.Int.{w64, to_le_bytes}
use Rattle.trace_record.proofs.encoding.encode_region.Goals as goal

pub returns-clause-front : goal.returns-clause-front
returns-clause-front c =
    let first = take_more_set c.args.out.now 0 c.args.code (omega arith) in
    let nine = c.put_number.ensures.front ∙ ap (λ (front : List ℕ). front ++ to_le_bytes w64 c.args.at) first in
    c.put_number-2.ensures.front ∙ ap (λ (front : List ℕ). front ++ to_le_bytes w64 c.args.size) nine

pub returns-clause-rest : goal.returns-clause-rest
returns-clause-rest c =
    let past = ap (drop 8) (c.put_number.ensures.rest ∙ drop-set-lt 9 c.args.out.now 0 c.args.code (omega arith)) in
    c.put_number-2.ensures.rest ∙ sym (drop-drop 8 9 c.put_number.new.out) ∙ past ∙ drop-drop 8 9 c.args.out.now
