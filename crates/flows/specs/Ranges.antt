-- What is kept of a number lies in its range.
use Rattle.std.specs.Prelude.{ℕ, ◌&&◌, List, length, ℤ, pos, neg_ℤ, Some, None, int_le, nat_le, find, option_and_then}
use Rattle.std.proofs.Common.{arith}
use Rattle.std.proofs.lemmas.Int.{ints}
use Rattle.std.proofs.lemmas.Bool.{cond_both, and_parts}
use Rattle.terms.specs.Ranges.{most_factor, most_pair_rows}
use Rattle.flows.specs.declared.pair_list.PairRow.{PairRow}
use Rattle.flows.specs.Factors.{Ranged, kept}
use Rattle.flows.specs.PairRows.{fits, first_fitting, pair_factor}

pub kept_ranged : (f : ℤ) → Ranged (kept (pos most_factor) f)
kept_ranged f = cond_both (int_le (neg_ℤ (pos most_factor)) f && int_le f (pos most_factor)) (Some f) None Ranged
    (λ t. let b = and_parts (int_le (neg_ℤ (pos most_factor)) f) (int_le f (pos most_factor)) t in (omega (arith, ints, b.0), omega (arith, ints, b.1)))
    (λ _. tt)

pub first_fitting_ranged : (month limit injection withdrawal : ℕ) (rows : List PairRow) → Ranged (first_fitting month limit injection withdrawal rows)
first_fitting_ranged month limit injection withdrawal rows =
    elim (find (fits month limit injection withdrawal) rows) as (λ o. Ranged (option_and_then (λ row. kept (pos most_factor) row.factor) o)) [
      | Some row ↦ kept_ranged row.factor
      | None ↦ tt
    ]

pub pair_factor_ranged : (rows : List PairRow) (month limit injection withdrawal : ℕ) → Ranged (pair_factor rows month limit injection withdrawal)
pair_factor_ranged rows month limit injection withdrawal =
    cond_both (nat_le (length rows) most_pair_rows) _ None Ranged (λ _. first_fitting_ranged month limit injection withdrawal rows) (λ _. tt)
