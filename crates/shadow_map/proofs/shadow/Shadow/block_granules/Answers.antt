use Rattle.std.proofs.Common.{◌≡◌, ℕ, ◌+◌, ◌*◌, ◌/◌, sym, ◌∙◌, arith}
use Rattle.std.proofs.lemmas.Result.{on_err_weaker}
use Rattle.shadow_map.specs.Shows.{value_at}
use Rattle.shadow_map.proofs.Fills.{block_upto, block_within}
use Rattle.shadow_map.proofs.shadow.Shadow.block_granules.Goals as goal

pub returns-clause-err : goal.returns-clause-err
returns-clause-err g c =
    let at = c.args.at in
    let size = c.args.size in
    let old : ℕ → ℕ = λ k. value_at c.args.self.now k in
    let now : ℕ → ℕ = λ k. value_at c.fill_runs.new.self k in
    let up : c.div_ceil.result ≡ (size + 7) / 8 = omega arith in
    let aligned = c.requires.granules in
    let room = c.requires.room in
    on_err_weaker c.fill_runs.result
    (λ torn.
    let e = rw up at torn in
    let low = e.1 in
    let below = e.2 in
    let place : 8 * e.0 / 8 ≡ e.0 = omega arith in
    record {
      byte = 8 * e.0;
      in_range = (omega arith, omega arith);
      values = rw place (block_upto at size old now e.0 (omega arith) e.1 (omega arith) e.3);
      due = rw place (λ is. e.4 (sym is ∙ block_within at size (old e.0) e.0 (omega arith) e.1 (omega arith)));
    })
    c.fill_runs.ensures.err
