-- A loop that keeps the rights in force.
use Rattle.std.proofs.Common.{◌≡◌, ℕ, ◌<◌, ◌≤◌, not, List, length, take, refl, ap, arith}
use Rattle.std.proofs.lemmas.List.Filters.{length-filter_both}
use Rattle.std.proofs.lemmas.List.{length-take-le}
use Rattle.book.specs.declared.right.Right.{Right}
use Rattle.book.specs.Rights.{is_in_force, in_force}

module _ (rs staying : List Right) (i : ℕ) (here : i < length rs) (kept : staying ≡ in_force (take i rs)) where
  pub kept-room : length rs ≤ 96 → length staying < 96
  kept-room h = omega (arith, ap length kept, length-filter_both is_in_force (λ r. not (is_in_force r)) (λ _. refl) (take i rs), length-take-le i rs (omega arith))
