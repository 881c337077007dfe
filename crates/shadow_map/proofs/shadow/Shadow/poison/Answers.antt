use Rattle.std.proofs.lemmas.Result.{on_ok_weaker, on_err_weaker}
use Rattle.shadow_map.proofs.Adds.{poison_adds, poison_adds_in_part}
use Rattle.shadow_map.proofs.shadow.Shadow.poison.Goals as goal

pub returns : goal.returns
returns g c =
    let r = c.requires in
    record {
      ok = on_ok_weaker c.change.result
          (λ each. poison_adds c.args.self.now c.change.new.self c.args.at c.args.size c.args.code r.end r.code each)
          c.change.ensures.ok;
      err = on_err_weaker c.change.result
          (λ torn. poison_adds_in_part c.args.self.now c.change.new.self c.args.at c.args.size c.args.code r.end r.code
          torn) c.change.ensures.err;
    }
