use Rattle.std.proofs.lemmas.Result.{on_ok_weaker, on_err_weaker}
use Rattle.shadow_map.specs.States.{Unpoison}
use Rattle.shadow_map.proofs.Adds.{adds, adds_in_part}
use Rattle.shadow_map.proofs.Bytes.{unpoison_makes}
use Rattle.shadow_map.proofs.Cuts.{unpoison_leaves}
use Rattle.shadow_map.proofs.shadow.Shadow.unpoison.Goals as goal

pub returns : goal.returns
returns g c =
    let makes = unpoison_makes c.args.at c.args.size c.requires in
    record {
      ok = on_ok_weaker c.change.result (adds c.args.self.now c.change.new.self (Unpoison c.args.at c.args.size) _
          c.requires makes) c.change.ensures.ok;
      err = on_err_weaker c.change.result (adds_in_part c.args.self.now c.change.new.self
          (Unpoison c.args.at c.args.size) _ c.requires makes (unpoison_leaves c.args.at c.args.size c.requires))
          c.change.ensures.err;
    }
