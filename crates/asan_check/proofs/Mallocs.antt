-- What a malloc does to a history's blocks and marks: one that is admitted, and one that is refused or ignored.
use Rattle.std.proofs.Common.{◌≡◌, ℕ, true, false, List, [], ◌∷◌, ◌++◌, refl}
use Rattle.trace_record.specs.declared.event.Event.{Event}
use Rattle.trace_record.specs.declared.event.Event.TheVariants as event
use Rattle.trace_record.specs.declared.event.Region.{Region}
use Rattle.shadow_map.specs.States.{Block}
use Rattle.asan_check.specs.History.{block_of, live, held, marks, admits}
use Rattle.asan_check.proofs.Steps as steps

-- ---- one that is admitted

module _ (bound : ℕ) (past : List Event) (r : Region) (ok : admits bound past (block_of r) ≡ true) where
  -- its block is live
  pub live_after : live bound (event.Malloc r ∷ past) ≡ live bound past ++ block_of r ∷ []
  live_after = steps.live_malloc bound r past ok

  -- the quarantine stays
  pub held_stays : held bound (event.Malloc r ∷ past) ≡ held bound past
  held_stays = steps.held_malloc bound r past

  -- its block is laid
  pub marks_after : marks bound (event.Malloc r ∷ past) ≡ Block r.at r.size ∷ marks bound past
  marks_after = rw ok refl

-- ---- one that is not

module _ (bound : ℕ) (past : List Event) (r : Region) (refused : admits bound past (block_of r) ≡ false) where
  -- the live blocks stay
  pub live_stays_refused : live bound (event.Malloc r ∷ past) ≡ live bound past
  live_stays_refused = rw refused refl

  -- the quarantine stays
  pub held_stays_refused : held bound (event.Malloc r ∷ past) ≡ held bound past
  held_stays_refused = steps.held_malloc bound r past

  -- and there is no mark
  pub marks_stay_refused : marks bound (event.Malloc r ∷ past) ≡ marks bound past
  marks_stay_refused = rw refused refl
