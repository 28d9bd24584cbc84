-- How a charge is split, and how payments fill it.
use Rattle.std.proofs.Common.{◌≡◌, ℕ, zero, suc, ◌+◌, ◌-◌, ◌*◌, ◌/◌, ◌%◌, min, cond, ltb, ap, ◌∙◌, suc-mul, mul_comm, zero-mul, arith}
use Rattle.std.proofs.lemmas.Bool.Decides.{nat_tests}
use Rattle.money.specs.Months.{month_count, sum}
use Rattle.money.specs.Instalments.{instalment, earlier, SumToCharge}
use Rattle.money.specs.Payments.{debt, LowestFirst}
use Rattle.money.proofs.Sums.{sum_part}

-- one month more: its instalment has the cent, or not
cent_next : (q r n n' s : ℕ) → n' ≡ n → s ≡ n * q + min n r → s + (q + cond (ltb n' r) 1 0) ≡ suc n * q + min (suc n) r
cent_next q r n n' s e h = grind (arith, nat_tests, suc-mul)

-- a quotient q and a remainder r: n months have n times q, and a cent more in the first r of them
pub sum_split : (q r a n : ℕ) → sum (λ m. q + cond (ltb (m - a) r) 1 0) a n ≡ n * q + min n r
sum_split q r a zero = omega (arith, zero-mul q)
sum_split q r a (suc n) = cent_next q r n (a + n - a) _ (omega arith) (sum_split q r a n)

pub sum_to_charge : (charge first last : ℕ) → SumToCharge charge first last
sum_to_charge charge first last =
    let n = month_count first last in
    omega (arith, sum_split (charge / n) (charge % n) first n, mul_comm n (charge / n))

-- what f of the months lacks, where `paid` fills the lower ones first
pub sum-lack : (f : ℕ → ℕ) (paid a n : ℕ) → sum (λ m. f m - min (f m) (paid - sum f a (m - a))) a n ≡ sum f a n - paid
sum-lack f paid a zero = omega arith
sum-lack f paid a (suc n) =
    let s : a + n - a ≡ n = omega arith in
    let e : sum f a (a + n - a) ≡ sum f a n = ap (sum f a) s in
    omega (arith, sum-lack f paid a n)

pub debt_rest : (charge paid first last : ℕ) → debt charge paid first last ≡ charge - paid
debt_rest charge paid first last =
    sum-lack (instalment charge first last) paid first (month_count first last) ∙ ap (λ t. t - paid) (sum_to_charge charge first last)

-- payments reach a month only when an earlier month m lacks nothing
pub lowest_first : (charge paid first last month : ℕ) → LowestFirst charge paid first last month
lowest_first charge paid first last month p m h l =
    let f = instalment charge first last in
    let s : first + (m - first) ≡ m = omega arith in
    let e : f (first + (m - first)) ≡ f m = ap f s in
    omega (arith, sum_part f first (month - first) (m - first) (omega arith))

-- what months before the place-th have
pub earlier_split : (charge first last month : ℕ) → earlier charge first last month ≡ (month - first) * (charge / month_count first last) + min (month - first) (charge % month_count first last)
earlier_split charge first last month = sum_split (charge / month_count first last) (charge % month_count first last) first (month - first)
