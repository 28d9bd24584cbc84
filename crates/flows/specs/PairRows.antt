-- The pair list: rows of month, limit, injection, withdrawal and factor.
use Rattle.std.specs.Prelude.{ℕ, Bool, cond, ◌&&◌, List, length, ℤ, pos, None, Option, ◌==◌, nat_le, find, option_and_then}
use Rattle.terms.specs.Ranges.{most_factor, most_pair_rows}
use Rattle.flows.specs.declared.pair_list.PairRow.{PairRow}
use Rattle.flows.specs.Factors.{kept}

-- a row fits where its four numbers are the ones asked for
abbrev pub fits : ℕ → ℕ → ℕ → ℕ → PairRow → Bool
fits month limit injection withdrawal row =
    (row.month == month) && (row.limit == limit && (row.injection == injection && row.withdrawal == withdrawal))

-- the first row that fits decides: its factor, none where that lies beyond ±2,000,000; none without such a row
abbrev pub first_fitting : ℕ → ℕ → ℕ → ℕ → List PairRow → Option ℤ
first_fitting month limit injection withdrawal rows =
    option_and_then (λ row. kept (pos most_factor) row.factor) (find (fits month limit injection withdrawal) rows)

-- the factor of a pair of nodes, none where the list has over 1,000,000 rows
abbrev pub pair_factor : List PairRow → ℕ → ℕ → ℕ → ℕ → Option ℤ
pair_factor rows month limit injection withdrawal =
    cond (nat_le (length rows) most_pair_rows) (first_fitting month limit injection withdrawal rows) None
