-- The fixed sequence that numbers are drawn from.
use Rattle.std.specs.Prelude.{ℕ, ◌+◌, ◌*◌, ◌%◌, ◌^◌}

-- the number after another, by the multiplier and the increment that Knuth gives for words of 64
-- bits
abbrev pub next_of : ℕ → ℕ
next_of number = (number * 6364136223846793005 + 1442695040888963407) % 2 ^ 64
