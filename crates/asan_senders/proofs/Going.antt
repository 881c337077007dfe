-- A list whose elements are taken one after another, and what comes of each.
use Rattle.std.proofs.Common.{◌≡◌, ◌≤◌, ◌<◌, ℕ}

-- of n elements the first i were taken, and there is room for what comes of all
pub record Going {S O : Type 0} (Gets : S → O → Type 0) (n i m room : ℕ) (was now : ℕ → S → S) (out : ℕ → O
    → O) : Type 0 where
  pub done : m ≡ i
  pub fits : n ≤ room
  pub rest : (k : ℕ) (d : S) → i ≤ k → now k d ≡ was k d
  pub each : (k : ℕ) (d : S) (e : O) → k < i → Gets (was k d) (out k e)
