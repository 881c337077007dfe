-- A part of a list.
use Rattle.std.specs.Prelude.{ℕ, ◌-◌, List, take, drop}

-- the items from place `from` on, up to place `to`, which is not among them
abbrev pub piece : {T : Type 0} → ℕ → ℕ → List T → List T
piece from to items = take (to - from) (drop from items)
