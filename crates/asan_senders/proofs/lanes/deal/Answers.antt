use Rattle.std.proofs.Common.{rules, ◌≡◌, ◌<◌, ◌%◌, ◌∙◌, sym, length, slice_index_or, vec_len, arith}
use Rattle.std.specs.Vec.{vec_capacity}
use Rattle.std.proofs.Math.Nat.{mod-lt}
use Rattle.std.proofs.lemmas.List.{get_or_default}
use Rattle.asan_senders.proofs.Dealing.{room_here}
use Rattle.asan_senders.proofs.lanes.deal.Goals as goal

pub push_reserved-requires : goal.push_reserved-requires
push_reserved-requires g c =
    let shares = c.args.shares.now.items in
    let at = c.args.process % vec_len c.args.shares.now in
    let low : at < length shares = rw c.requires.room.all (mod-lt c.args.process c.requires.room.some) in
    let here = room_here (vec_len c.args.shares.now) c.args.process shares c.index_mut.result.now c.requires.few
    c.requires.room in
    let is : c.index_mut.result.now ≡ slice_index_or shares at c.index_mut.result.now = search rules in
    let room : length c.index_mut.result.now.items < vec_capacity c.index_mut.result.now = rw (sym is) at here in
    omega (arith, c.index_mut.result.now.ok.0)

pub returns : goal.returns
returns g c =
    let shares = c.args.shares.now.items in
    let at = c.args.process % vec_len c.args.shares.now in
    let low : at < length shares = rw c.requires.room.all (mod-lt c.args.process c.requires.room.some) in
    let value : c.index_mut.result.now ≡ slice_index_or shares at c.index_mut.result.now = search rules in
    let is : c.index_mut.result.now ≡ slice_index_or shares at c.push_reserved.new.self = value
    ∙ get_or_default shares at c.index_mut.result.now c.push_reserved.new.self low in
    record {
      share = c.push_reserved.new.self;
      set = search rules;
      items = rw (← is) c.push_reserved.ensures.items;
      capacity = rw (← is) (omega (arith, c.push_reserved.ensures.capacity));
    }
