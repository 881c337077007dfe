use Rattle.std.proofs.Common.{◌≡◌, ◌+◌, ◌*◌, ◌/◌, ◌<◌, sym, ◌∙◌, arith}
use Rattle.shadow_map.specs.States.{state_of}
use Rattle.shadow_map.proofs.Queries.{found_in_granule, none_marked, first_marked}
use Rattle.shadow_map.proofs.shadow.Shadow.first_poisoned.Goals as goal

pub returns-in-Some : goal.returns-in-Some
returns-in-Some g c marks shows =
    sym (found_in_granule (state_of marks) c.args.at c.args.size _ (sym (c.in-Some.ensures marks shows)))

pub returns-in_err-granule : goal.returns-in_err-granule
returns-in_err-granule g c marks shows =
    let end = c.requires in
    let up : c.div_ceil.result ≡ (c.args.at + c.args.size + 7) / 8 = omega arith in
    let some : 0 < c.args.size = (let other = c.if-size-eq0.false in omega arith) in
    c.from_residual.ensures
    ∙ sym (none_marked marks shows.are_marks c.args.at c.args.size some (sym (c.in_default.ensures marks shows))
    (λ granule low high. sym (shows.values granule (omega arith)) ∙ c.in_err-granule.ensures granule low (omega arith)))

pub returns : goal.returns
returns g c marks shows =
    let end = c.requires in
    let up : c.div_ceil.result ≡ (c.args.at + c.args.size + 7) / 8 = omega arith in
    let some : 0 < c.args.size = (let other = c.if-size-eq0.false in omega arith) in
    let granule = c.in_ok-granule.granule in
    let e = c.in_ok-granule.ensures in
    let from = e.0 in
    let below = e.1 in
    let turn : granule * 8 ≡ 8 * granule = omega arith in
    rw turn at (c.bad_byte_in_granule-2.ensures marks shows)
    ∙ sym (first_marked marks shows.are_marks c.args.at c.args.size some (sym (c.in_default.ensures marks shows))
    granule from (omega arith)
    (λ other low high. sym (shows.values other (omega arith)) ∙ e.2 other low high)
    (λ zero. e.3 (shows.values granule (omega arith) ∙ zero)))
