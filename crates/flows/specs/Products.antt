-- Products of a factor and a use.
use Rattle.std.specs.Prelude.{◌≡◌, ℕ, suc, ◌-◌, ◌^◌, ◌<◌, ◌≤◌, ℤ, pos, negsuc, ◌*ℤ◌, ◌≤ℤ◌, ◌<ℤ◌, FitsSigned, refl}
use Rattle.std.proofs.Common.{arith, mul-le-mul_left}
use Rattle.std.specs.Int.{w32, w64}
use Rattle.std.proofs.lemmas.Nat.{mul-le}
use Rattle.std.proofs.lemmas.Int.{ints}
use Rattle.flows.specs.Rules.{firm_worst}

-- a factor of 32 bits times a use of 32 bits fits 64
pub product_fits : (f : ℤ) (u : ℕ) → FitsSigned w32 f → u < 2 ^ 32 → FitsSigned w64 (f *ℤ pos u)
product_fits (pos a) u h q = let m = mul-le a u (2 ^ 31) (2 ^ 32 - 1) (omega (arith, ints)) (omega arith) in omega (arith, ints)
product_fits (negsuc a) u h q = let m = mul-le (suc a) u (2 ^ 31) (2 ^ 32 - 1) (omega (arith, ints)) (omega arith) in omega (arith, ints)

pub firm_of_positive : (f : ℤ) (p : ℕ) → pos 0 <ℤ f → f *ℤ pos p ≡ firm_worst p f
firm_of_positive (pos a) p h = refl
firm_of_positive (negsuc a) p h = absurd h.lt

pub firm_attained : (f : ℤ) (p : ℕ) → (u : ℕ) × (u ≤ p) × (firm_worst p f ≡ f *ℤ pos u)
firm_attained (pos a) p = (p, omega arith, refl)
firm_attained (negsuc a) p = (0, omega arith, omega (arith, ints))

pub firm_dominates : (f : ℤ) (p u : ℕ) → u ≤ p → (f *ℤ pos u) ≤ℤ (firm_worst p f)
firm_dominates (pos a) p u h = let m = mul-le-mul_left a h in omega (arith, ints)
firm_dominates (negsuc a) p u h = omega (arith, ints)
