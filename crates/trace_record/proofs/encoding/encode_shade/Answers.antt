use Rattle.std.proofs.Common.{◌≡◌, ℕ, List, [], ◌∷◌, ◌++◌, drop, sym, ap, ◌∙◌, arith}
use Rattle.std.proofs.Math.ListN.{set}
use Rattle.std.proofs.lemmas.List.{take_more_set, length-set, drop-drop, drop-set-lt}
use Rattle.std.specs.Int.{w64, to_le_bytes}
use Rattle.trace_record.specs.Kinds.{kind_number}
use Rattle.trace_record.specs.Shades.{shade_kind}
use Rattle.trace_record.proofs.encoding.encode_shade.Goals as goal

pub returns-clause-front : goal.returns-clause-front
returns-clause-front c =
    let coded = set c.args.out.now 0 5 in
    let first = take_more_set c.args.out.now 0 5 (omega arith) in
    let two = take_more_set coded 1 c.number.result (omega (arith, length-set {A = ℕ})) in
    let ten = c.put_number.ensures.front ∙ ap (λ (front : List ℕ). front ++ to_le_bytes w64 c.at.result) (two
    ∙ ap (λ (front : List ℕ). front ++ c.number.result ∷ []) first) in
    let all = c.put_number-2.ensures.front ∙ ap (λ (front : List ℕ). front ++ to_le_bytes w64 c.size.result) ten in
    let kind : c.number.result ≡ kind_number (shade_kind c.args.shade.now) = c.number.ensures.number
    ∙ ap kind_number c.kind.ensures in
    rw (kind, c.at.ensures, c.size.ensures) at all

pub returns-clause-rest : goal.returns-clause-rest
returns-clause-rest c =
    let coded = set c.args.out.now 0 5 in
    let past = ap (drop 8) (c.put_number.ensures.rest ∙ drop-set-lt 10 coded 1 c.number.result (omega arith)
    ∙ drop-set-lt 10 c.args.out.now 0 5 (omega arith)) in
    c.put_number-2.ensures.rest ∙ sym (drop-drop 8 10 c.put_number.new.out) ∙ past ∙ drop-drop 8 10 c.args.out.now
