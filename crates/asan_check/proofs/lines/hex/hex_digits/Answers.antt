use Rattle.std.proofs.Common.{refl, arith}
use Rattle.asan_check.proofs.Digits.{nothing_written, digit_written, all_digits_written, zeros_before}
use Rattle.asan_check.proofs.lines.hex.hex_digits.Goals as goal

pub loop-left-init : goal.loop-left-init
loop-left-init c = nothing_written c.args.number 15 refl (omega arith)

pub loop-left-preserved : goal.loop-left-preserved
loop-left-preserved c =
    let l = c.loop-left in
    digit_written c.args.number l.first l.left l.digits c.hex_digit.result l.invariant c.loop-left-test.true
    c.hex_digit.ensures.glyph c.hex_digit.ensures.ascii

pub returns-clause-digits : goal.returns-clause-digits
returns-clause-digits c =
    let l = c.loop-left in
    all_digits_written c.args.number l.first l.left l.digits c.hex_digit-2.result l.invariant c.loop-left-test.false
    c.hex_digit-2.ensures.glyph

pub returns-clause-zeros : goal.returns-clause-zeros
returns-clause-zeros c =
    let l = c.loop-left in
    zeros_before c.args.number l.first l.left l.digits c.hex_digit-2.result l.invariant
