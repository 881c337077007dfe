use Rattle.std.proofs.Common.{◌-◌, drop, ◌∙◌, arith, take_all, length-drop}
use Rattle.std.proofs.lemmas.Str.{IsUtf8-from_ascii, IsAscii-drop}
use Rattle.asan_check.proofs.Digits.{padded_from}
use Rattle.asan_check.proofs.lines.hex.push_hex.Goals as goal

pub from_utf8_unchecked-padded-requires : goal.from_utf8_unchecked-padded-requires
from_utf8_unchecked-padded-requires g c =
    let h = c.hex_digits-first in
    let rest = drop c.min-start.result h.result.0 in
    IsUtf8-from_ascii _ (rw (take_all (16 - c.min-start.result) rest
    (omega (arith, length-drop c.min-start.result h.result.0, h.ensures.long)))
    (IsAscii-drop h.result.0 c.min-start.result h.ensures.ascii))

pub returns-clause-appends : goal.returns-clause-appends
returns-clause-appends g c =
    let h = c.hex_digits-first in
    let rest = drop c.min-start.result h.result.0 in
    let padded = c.from_utf8_unchecked-padded.ensures
    ∙ take_all (16 - c.min-start.result) rest (omega (arith, length-drop c.min-start.result h.result.0, h.ensures.long))
    ∙ padded_from c.args.number h.result.1 c.args.width c.min-start.result h.result.0 h.ensures.long c.requires
    h.ensures.within
    h.ensures.digits h.ensures.zeros c.min-start.ensures in
    rw padded at c.push_words.ensures

pub returns-clause-short : goal.returns-clause-short
returns-clause-short g c =
    let h = c.hex_digits-first in
    let rest = drop c.min-start.result h.result.0 in
    let is = padded_from c.args.number h.result.1 c.args.width c.min-start.result h.result.0 h.ensures.long c.requires
    h.ensures.within h.ensures.digits h.ensures.zeros c.min-start.ensures in
    rw (← is) (omega (arith, length-drop c.min-start.result h.result.0, h.ensures.long))
