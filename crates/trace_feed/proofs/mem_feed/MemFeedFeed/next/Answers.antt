use Rattle.std.proofs.Common.{◌≡◌, ◌+◌, ◌-◌, ◌++◌, ◌≤◌, arith, drop, length, rules}
use Rattle.trace_feed.proofs.Moves.{at_end, moved}
use Rattle.trace_feed.proofs.mem_feed.MemFeedFeed.next.Goals as goal

pub returns-clause-bytes : goal.returns-clause-bytes
returns-clause-bytes g c =
    let feed = c.self.inside in let bytes = feed.bytes.items in let stop = c.in-Some.stop in
    let piece = c.copy_from_slice.new.self in let rest = drop (stop - feed.place) c.args.buf.now in
    let room : length (piece ++ rest) ≡ length c.args.buf.now = search rules in
    let ahead : feed.place ≤ stop = search rules in
    let within : stop ≤ length bytes = search rules in
    rw (← c.self.view_is) (
      moved bytes piece rest feed.place stop ahead within (rw c.deref.ensures.value at c.copy_from_slice.ensures.after),
      λ none some. at_end _ (length c.args.buf.now) stop (rw (← c.self.view_is) at c.in-Some.ensures.first)
          (omega (arith, ahead)) (rw room at some),
    )

pub returns-clause-stops : goal.returns-clause-stops
returns-clause-stops g c =
    let feed = c.self.inside in let stop = c.in-Some.stop in
    let room : length (c.copy_from_slice.new.self ++ drop (stop - feed.place) c.args.buf.now) ≡ length c.args.buf.now =
    search rules in
    let ahead : feed.place ≤ stop = search rules in
    let back : feed.place + (stop - feed.place) ≡ stop = omega (arith, ahead) in
    rw (← c.self.view_is, room, back) (rw (← c.self.view_is) at c.in-Some.ensures.first)
