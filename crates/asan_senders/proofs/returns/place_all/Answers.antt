use Rattle.std.proofs.Common.{◌≡◌, ◌∷◌, [], sym, append-nil, arith, length}
use Rattle.std.proofs.lemmas.List.{nil_from_length}
use Rattle.std.specs.Prelude.{All}
use Rattle.asan_senders.specs.Senders.{IsBack, Rejoins, StaysOrJoins}
use Rattle.asan_senders.proofs.Back.{all_cons, joins_on, joins_same, moved, shares_stay}
use Rattle.asan_senders.proofs.Dealing.{shares_front, shares_last}
use Rattle.asan_senders.proofs.ReportLanes.{shares_have_front, shares_have_last}
use Rattle.asan_senders.proofs.Senders.{at_kept, each_after, each_refl, rejoins_on, rejoins_same}
use Rattle.asan_senders.proofs.returns.place_all.Goals as goal

pub loop-share-init : goal.loop-share-init
loop-share-init g c = (
  each_refl (Rejoins g.F.Feed.seen c.args.bound) (rejoins_same g.F.Feed.seen c.args.bound)
      c.args.senders.now.items,
  c.requires,
  λ lanes fit have. (fit, have),
  ([], sym (append-nil c.args.shares.items), λ k d below. absurd (omega arith)),
  each_refl StaysOrJoins joins_same c.args.senders.now.items,
)

pub place-requires : goal.place-requires
place-requires g c =
    let rejoins = Rejoins g.F.Feed.seen c.args.bound in
    let xs = c.args.senders.now.items in
    at_kept rejoins (λ s t h. h.lane) c.args.bound xs c.loop-share.senders.items c.in-Some.share.items
    c.loop-share.invariant.0
    (shares_last c.args.bound xs c.pop.new.self.items c.in-Some.share
    (rw c.in-Some.ensures.items at c.loop-share.invariant.1))

pub loop-share-preserved : goal.loop-share-preserved
loop-share-preserved g c =
    let rejoins = Rejoins g.F.Feed.seen c.args.bound in
    let xs = c.args.senders.now.items in (
      each_after rejoins rejoins rejoins (rejoins_on g.F.Feed.seen c.args.bound) xs c.loop-share.senders.items
          c.place.new.senders.items c.loop-share.invariant.0 c.place.ensures.rejoins,
      shares_front c.args.bound xs c.pop.new.self.items c.in-Some.share
          (rw c.in-Some.ensures.items at c.loop-share.invariant.1),
      λ lanes fit have.
          let was = c.loop-share.invariant.2 lanes fit have in
          let held = rw c.in-Some.ensures.items at was.1 in (
            c.place.ensures.fit lanes was.0 (shares_have_last lanes c.pop.new.self.items c.in-Some.share held),
            shares_have_front lanes c.pop.new.self.items c.in-Some.share held,
          ),
      (
        c.in-Some.share ∷ c.loop-share.invariant.3.0,
        moved c.args.shares.items c.loop-share.shares.items c.pop.new.self.items c.loop-share.invariant.3.0
            c.in-Some.share c.loop-share.invariant.3.1 c.in-Some.ensures.items,
        all_cons (λ share. All (IsBack c.place.new.senders.items) share.items) c.in-Some.share
            c.loop-share.invariant.3.0 c.place.ensures.back
            (shares_stay c.loop-share.senders.items c.place.new.senders.items c.place.ensures.stays
            c.loop-share.invariant.3.0 c.loop-share.invariant.3.2),
      ),
      each_after StaysOrJoins StaysOrJoins StaysOrJoins joins_on xs c.loop-share.senders.items
          c.place.new.senders.items c.loop-share.invariant.4 c.place.ensures.takes,
    )

pub returns-clause-fit : goal.returns-clause-fit
returns-clause-fit g c = λ lanes fit have. (c.loop-share.invariant.2 lanes fit have).0

pub returns-clause-takes : goal.returns-clause-takes
returns-clause-takes g c = c.loop-share.invariant.4

pub returns-clause-back : goal.returns-clause-back
returns-clause-back g c =
    let shares = c.loop-share.shares in
    let zero : length shares.items ≡ 0 =
    (let whole = shares.ok.0 in let none = c.in_default.ensures.cases.0 in omega arith) in
    rw (rw (nil_from_length shares.items zero) at c.loop-share.invariant.3.1) c.loop-share.invariant.3.2

pub returns-clause-rejoins : goal.returns-clause-rejoins
returns-clause-rejoins g c = c.loop-share.invariant.0
