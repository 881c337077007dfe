use Rattle.std.proofs.Common.{◌≡◌, ◌+◌, ◌-◌, ℕ, List, ◌++◌, take, drop, ap, ◌∙◌, arith, length-take}
use Rattle.std.proofs.lemmas.List.{append-nil, drop_all}
use Rattle.std.proofs.lemmas.Slice.{take-put_mid, drop-put_mid}
use Rattle.std.specs.Int.{w64, to_le_bytes}
use Rattle.trace_record.proofs.encoding.put_number.Goals as goal
use Rattle.trace_record.proofs.encoding.put_number.Goals.{After-write_u64}

-- the eight bytes that are written, and none after them
written : (c : After-write_u64) → c.write_u64.new.buf ≡ to_le_bytes w64 c.args.number
written c =
    let part = take (c.args.from + 8 - c.args.from) (drop c.args.from c.args.out.now) in
    c.write_u64.ensures ∙ ap (λ (rest : List ℕ). to_le_bytes w64 c.args.number ++ rest)
    (drop_all 8 part (omega (arith, length-take (c.args.from + 8 - c.args.from) (drop c.args.from c.args.out.now))))
    ∙ append-nil _

pub returns-clause-front : goal.returns-clause-front
returns-clause-front c =
    let is = written (goal.at.returns-clause-front c).After-write_u64 in
    rw is (take-put_mid c.args.from (c.args.from + 8 - c.args.from) c.args.out.now (to_le_bytes w64 c.args.number)
    (c.args.from + 8) (omega arith) (omega arith))

pub returns-clause-rest : goal.returns-clause-rest
returns-clause-rest c =
    let is = written (goal.at.returns-clause-rest c).After-write_u64 in
    rw is (drop-put_mid c.args.from (c.args.from + 8 - c.args.from) c.args.out.now (to_le_bytes w64 c.args.number)
    (c.args.from + 8) (omega arith) (omega arith) (omega arith))
