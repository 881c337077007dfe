use Rattle.std.proofs.Common.{◌≡◌, ap, ◌∙◌, arith}
use Rattle.std.proofs.lemmas.Result.{on_ok_weaker, on_err_weaker}
use Rattle.trace_record.specs.Shades.{shade_kind}
use Rattle.asan_check.specs.Codes.{code_of_kind}
use Rattle.asan_check.specs.History.{marks}
use Rattle.asan_check.proofs.checker.Checker.poison.Goals as goal

pub returns-clause-ok : goal.returns-clause-ok
returns-clause-ok g c =
    on_ok_weaker c.poison.result
    (λ adds bound past shown.
    let its_code : c.poison_code-code.result ≡ code_of_kind (shade_kind c.args.shade.now) =
    c.poison_code-code.ensures.kind ∙ ap code_of_kind c.kind.ensures in
    record {
      shadow = rw (c.at.ensures, c.size.ensures, its_code) at (adds (marks bound past) shown.shadow);
      live_blocks = shown.live_blocks;
      queue = shown.queue;
      bound_is = shown.bound_is;
    })
    c.poison.ensures.ok

pub returns-clause-spared : goal.returns-clause-spared
returns-clause-spared g c =
    on_err_weaker c.poison.result
    (λ part.
    let range = part.in_range in
    let from = range.0 in
    let to = range.1 in
    let size = c.size.ensures in
    omega arith)
    c.poison.ensures.err
