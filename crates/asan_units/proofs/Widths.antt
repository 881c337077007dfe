-- The widths are powers of two.
use Rattle.std.proofs.Common.{◌≡◌, ◌≤◌, ℕ, zero, suc, refl, arith}
use Rattle.std.specs.Int.{is_power_of_two}
use lib.Count.{ones}
use Rattle.asan_units.specs.Units.{is_width}

-- up to eight, the powers of two are the widths
pub powers : (width : ℕ) → width ≤ 8 → is_power_of_two width ≡ is_width width
unfolding ones
powers zero few = refl
powers (suc zero) few = refl
powers (suc (suc zero)) few = refl
powers (suc (suc (suc zero))) few = refl
powers (suc (suc (suc (suc zero)))) few = refl
powers (suc (suc (suc (suc (suc zero))))) few = refl
powers (suc (suc (suc (suc (suc (suc zero)))))) few = refl
powers (suc (suc (suc (suc (suc (suc (suc zero))))))) few = refl
powers (suc (suc (suc (suc (suc (suc (suc (suc zero)))))))) few = refl
powers (suc (suc (suc (suc (suc (suc (suc (suc (suc more))))))))) few = absurd (omega arith)
