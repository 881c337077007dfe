use Rattle.std.proofs.lemmas.Result.{on_ok_weaker, on_err_weaker}
use Rattle.shadow_map.proofs.Adds.{fill_adds, fill_adds_in_part}
use Rattle.shadow_map.proofs.shadow.Shadow.mark.Goals as goal

pub returns : goal.returns
returns g c =
    let r = c.requires in
    record {
      ok = on_ok_weaker c.fill.result
          (λ each. fill_adds c.args.self.now c.fill.new.self c.args.from c.args.to c.args.code r.granules r.order r.end
          r.code each) c.fill.ensures.ok;
      err = on_err_weaker c.fill.result
          (λ torn. fill_adds_in_part c.args.self.now c.fill.new.self c.args.from c.args.to c.args.code r.granules
          r.order r.end r.code torn) c.fill.ensures.err;
    }
