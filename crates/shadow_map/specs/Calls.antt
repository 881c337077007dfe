-- What a call on a shadow asks for, and what it leaves.
use Rattle.std.specs.Prelude.{◌≡◌, ◌≢◌, ℕ, ◌+◌, ◌-◌, ◌<◌, ◌≤◌, nat_lt, if◌then◌else◌, List, ◌∷◌}
use Rattle.shadow_map.specs.declared.shadow.Shadow.{Shadow}
use Rattle.shadow_map.specs.States.{Mark, Fill, Block, Poison, Unpoison, state_of, lift}
use Rattle.asan_units.specs.Units.{granule_of, redzone, round_up}
use Rattle.shadow_map.specs.Shows.{value_at, Shows, ShowsUpTo}

-- the range that a mark is laid on, from its first address up to the first past it: a fill has its
-- own, a block its span, poison and unpoison have their region
abbrev pub range_from : Mark → ℕ
range_from (Fill from to code) = from
range_from (Block at size) = at - redzone
range_from (Poison at size code) = at
range_from (Unpoison at size) = at

abbrev pub range_to : Mark → ℕ
range_to (Fill from to code) = to
range_to (Block at size) = at + round_up size + redzone
range_to (Poison at size code) = at + size
range_to (Unpoison at size) = at + size

module _ {A : Type 0} where
  -- the call added a mark: whatever marks the shadow showed before it, now it shows them and this
  -- one
  abbrev pub Adds : Shadow A → Shadow A → Mark → Type 0
  Adds old new mark = (marks : List Mark) → Shows old marks → Shows new (mark ∷ marks)

  -- the call added a mark in part, up to a byte of the mark's range: below the granule of that byte
  -- the shadow shows the mark too, and from it on what it showed before; the mark would have
  -- changed that granule; and what the shadow shows now are some marks
  pub record AddsInPart (old new : Shadow A) (mark : Mark) : Type 0 where
    pub byte : ℕ
    pub in_range : (range_from mark ≤ byte) × (byte < range_to mark)
    pub shown : (marks : List Mark) → Shows old marks →
        ShowsUpTo (granule_of byte) new (mark ∷ marks) marks
    pub due : (marks : List Mark) → Shows old marks →
        lift (state_of (mark ∷ marks)) (granule_of byte) ≢ lift (state_of marks) (granule_of byte)
    pub some_marks : (marks : List Mark) → Shows old marks → (now : List Mark) × Shows new now

  -- a call that makes this of each granule's shadow byte was broken off at a byte of this range:
  -- below its granule it was done, and from it on nothing has changed; that granule had still to
  -- change
  pub record IsBrokenOff (from to : ℕ) (made : ℕ → ℕ → ℕ) (old new : Shadow A) : Type 0 where
    pub byte : ℕ
    pub in_range : (from ≤ byte) × (byte < to)
    pub values : (granule : ℕ) → value_at new granule
        ≡ (if nat_lt granule (granule_of byte) then made (value_at old granule) granule
        else value_at old granule)
    pub due : made (value_at old (granule_of byte)) (granule_of byte)
        ≢ value_at old (granule_of byte)
