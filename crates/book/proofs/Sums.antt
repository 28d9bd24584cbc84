-- The load of the rights before a place, right after right.
use Rattle.std.proofs.Common.{◌≡◌, ℕ, ◌+◌, ◌*◌, ◌<◌, ◌≤◌, true, false, List, length, get_or, drop, ℤ, pos, ◌+ℤ◌, ◌-ℤ◌, nat_abs, ◌≤ℤ◌, ◌<ℤ◌, Some, None, Option, sym, ap, ◌∙◌, arith, w64, SFits}
use lib.Signed.{lt_z}
use Rattle.std.proofs.lemmas.List.{at_drop_more}
use Rattle.std.proofs.lemmas.Int.{ints}
use Rattle.std.proofs.lemmas.Bool.{cond-true}
use Rattle.terms.specs.declared.refusal.Refusal.{Refusal}
use Rattle.terms.specs.declared.refusal.Refusal.TheVariants.{LimitPassed}
use Rattle.submission.specs.declared.line.Line.{Line}
use Rattle.flows.specs.Factors.{Near}
use Rattle.book.specs.declared.right.Right.{Right}
use Rattle.book.specs.Market.{Market}
use Rattle.book.specs.Loads.{counts, factor, bound, worst_at, worst_of, load}
use Rattle.book.specs.Refusing.{refuse_if}
use Rattle.book.specs.Checks.{limit_check}

-- a line that counts and has a factor
pub worst-counted : (m : Market) (month limit : ℕ) (x : Line) (f w : ℤ) → counts m month limit x ≡ true → Some f ≡ factor m month limit x → w ≡ m.worst x.power f → w ≡ worst_of m month limit x
worst-counted m month limit x f w t e h = h ∙ ap (worst_at m x.power) e ∙ sym (cond-true (counts m month limit x) (worst_at m x.power (factor m month limit x)) (pos 0) t)

-- a sum with the load of the others is the whole load, and the sum is near 0
abbrev pub Summed : Market → ℕ → ℕ → List Right → ℕ → ℤ → Type 0
Summed m month limit rs i s = (s +ℤ load m month limit (drop i rs) ≡ load m month limit rs) × Near (i * 2000000000000) s

-- one right more
pub summed_more : (m : Market) (month limit : ℕ) (rs : List Right) (i : ℕ) (d : Right) (s x : ℤ) → i < length rs → length rs ≤ 96 → Summed m month limit rs i s → x ≡ worst_of m month limit (get_or rs i d).line → Near 2000000000000 x → SFits w64 (s +ℤ x) × Summed m month limit rs (i + 1) (s +ℤ x)
summed_more m month limit rs i d s x inside few so h near =
    let step : load m month limit (drop i rs) ≡ worst_of m month limit (get_or rs i d).line +ℤ load m month limit (drop (i + 1) rs) = at_drop_more (load m month limit) rs i d inside in (
      omega (arith, ints, so.1, near),
      (omega (arith, ints, so.0, step, h), (omega (arith, ints, so.1, near), omega (arith, ints, so.1, near))),
    )

-- whether a load passes what its limit bears
module _ (m : Market) (rs : List Right) (month limit : ℕ) (l b : ℤ) (its : l ≡ load m month limit rs) (bears : b ≡ bound m month limit) where
  passes : ℤ → ℤ → Option Refusal
  passes x y = refuse_if (lt_z y x) (LimitPassed month limit (nat_abs (x -ℤ y)))

  in_numbers : limit_check m rs month limit ≡ passes l b
  unfolding limit_check passes
  in_numbers = ap (λ x. passes x (bound m month limit)) (sym its) ∙ ap (passes l) (sym bears)

  less : (x y : ℤ) → x <ℤ y → lt_z x y ≡ true
  less x y h = grind (arith, ints)

  not-less : (x y : ℤ) → y ≤ℤ x → lt_z x y ≡ false
  not-less x y h = grind (arith, ints)

  pub limit_past : b <ℤ l → limit_check m rs month limit ≡ Some (LimitPassed month limit (nat_abs (l -ℤ b)))
  unfolding passes
  limit_past h = in_numbers ∙ ap (λ t. refuse_if t (LimitPassed month limit (nat_abs (l -ℤ b)))) (less b l h)

  pub limit_kept : l ≤ℤ b → limit_check m rs month limit ≡ None
  unfolding passes
  limit_kept h = in_numbers ∙ ap (λ t. refuse_if t (LimitPassed month limit (nat_abs (l -ℤ b)))) (not-less b l h)
