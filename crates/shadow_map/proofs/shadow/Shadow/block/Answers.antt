use Rattle.std.proofs.lemmas.Result.{on_ok_weaker, on_err_weaker}
use Rattle.shadow_map.specs.States.{Block, IsMark}
use Rattle.shadow_map.proofs.Adds.{adds, adds_in_part}
use Rattle.shadow_map.proofs.Bytes.{block_makes}
use Rattle.shadow_map.proofs.Cuts.{block_leaves}
use Rattle.shadow_map.proofs.shadow.Shadow.block.Goals as goal

pub returns : goal.returns
returns g c =
    let is : IsMark (Block c.args.at c.args.size) = (c.requires.granules, c.requires.room, c.requires.end) in
    let makes = block_makes c.args.at c.args.size is in
    record {
      ok = on_ok_weaker c.block_granules.result
          (adds c.args.self.now c.block_granules.new.self (Block c.args.at c.args.size) _ is makes)
          c.block_granules.ensures.ok;
      err = on_err_weaker c.block_granules.result
          (adds_in_part c.args.self.now c.block_granules.new.self (Block c.args.at c.args.size) _ is makes
          (block_leaves c.args.at c.args.size is)) c.block_granules.ensures.err;
    }
