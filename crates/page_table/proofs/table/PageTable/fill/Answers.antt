use Rattle.std.proofs.Common.{◌^◌, ◌<◌, ◌∙◌, refl, sym, arith}
use Rattle.std.proofs.lemmas.Result.{err_from_is_err_and}
use Rattle.page_table.specs.Tables.{byte_of, root_byte}
use Rattle.page_table.proofs.Fills.{below_place, at_place}
use Rattle.page_table.proofs.table.PageTable.fill.Goals as goal

pub returns-in_err-fill-clause-err : goal.returns-in_err-fill-clause-err
unfolding byte_of
returns-in_err-fill-clause-err g c =
    let p = err_from_is_err_and c.from_residual.result c.from_residual.ensures.1 in
    let torn = c.in_err-fill.ensures.err in
    let same = c.if-not-write_runs.ensures.other refl in
    let within : torn.0 < 2 ^ 44 = (let below = torn.2 in let end = c.requires.end in omega arith) in
    rw p.1 (
      torn.0,
      torn.1,
      torn.2,
      below_place (2 ^ 47) (2 ^ 44) c.args.from torn.0 _ _ (omega arith) within (λ granule. c.args.byte)
          (λ index lt. torn.3 index lt ∙ rw (same index lt) refl),
      λ is. torn.4 (same torn.0 (omega arith) ∙ sym
          (at_place (2 ^ 47) (2 ^ 44) c.args.from torn.0 (root_byte c.args.self.now) (λ index. 0) (omega arith) within)
          ∙ is),
    )
