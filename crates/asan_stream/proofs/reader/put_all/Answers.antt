use Rattle.std.proofs.Common.{rules, ◌∙◌}
use Rattle.std.proofs.lemmas.List.{take_rest}
use Rattle.asan_stream.proofs.Sending.{put_further}
use Rattle.asan_stream.proofs.reader.put_all.Goals as goal

pub loop-preserved : goal.loop-preserved
loop-preserved g c =
    let was = c.loop.invariant in
    record {
      lane = search rules;
      within = search rules;
      put = c.is_left.ensures.put ∙ put_further _ _ _ c.args.items.now _ c.loop.done c.put_some-more.result was.put
          (take_rest c.args.items.now c.loop.done) c.put_some-more.ensures.put;
    }
