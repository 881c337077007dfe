-- What contracts say of an allocator that refuses.
use Rattle.std.specs.Prelude.{ℕ, Option, None, Some}
use Rattle.refusing_allocator.specs.declared.account.Rule.{Rule}
use Rattle.refusing_allocator.specs.declared.account.Rule.TheVariants.{PastBound, AtTurn}
use Rattle.refusing_allocator.specs.declared.RefusingAllocator.{RefusingAllocator}

-- how many bytes a rule lets an allocator hold at a time, where it bounds them
abbrev pub bound_in : Rule → Option ℕ
bound_in (PastBound bound) = Some bound
bound_in (AtTurn _) = None

-- the number of the request that a rule refuses, counted from 1, where it goes by numbers; 0 where
-- it refuses none
abbrev pub turn_in : Rule → Option ℕ
turn_in (PastBound _) = None
turn_in (AtTurn turn) = Some turn

module _ {B : Type 0} where
  -- the allocator that it passes requests on to
  abbrev pub inner_of : RefusingAllocator B → B
  inner_of r = r.inner

  -- how many bytes it may hold at a time, where that is bounded
  abbrev pub bound_of : RefusingAllocator B → Option ℕ
  bound_of r = bound_in r.account.rule

  -- the number of the request that it refuses, counted from 1, where it goes by numbers; 0 where it
  -- refuses none
  abbrev pub turn_of : RefusingAllocator B → Option ℕ
  turn_of r = turn_in r.account.rule
