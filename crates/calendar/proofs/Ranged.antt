-- Every value of a calendar is within its range.
use Rattle.std.proofs.Common.{ℕ, ◌≤◌, List, [], length, map, get_or, pos, arith}
use Rattle.std.proofs.lemmas.Int.{ints}
use Rattle.std.proofs.lemmas.List.{length-map, length-take}
use Rattle.terms.specs.Ranges.{most_value}
use Rattle.terms.specs.Tables.{held}
use Rattle.terms.specs.declared.table.Table.{Table}
use Rattle.calendar.specs.Calls.{empty_figures}
use Rattle.calendar.specs.declared.calendar.Calendar.{Calendar}
use Rattle.calendar.specs.declared.parts.UpTo.{UpTo}
use Rattle.calendar.specs.declared.parts.Price.{Price}
use Rattle.calendar.specs.Figures.{figures, limit_figures, limit_of, month_figures, month_of, node_figures, node_of, numbered}
use Rattle.calendar.specs.InRange.{InRange}
use Rattle.calendar.specs.Values.{IsArea, IsHours, IsPayDay, IsPrice, IsRow, IsValue}
use Rattle.calendar.proofs.Shown.{every_get_or, every_numbered, within-get_or, within-numbered}

prices_in_range : (ps : List Price) (month : ℕ) → IsPrice (numbered (map (λ (p : Price). p.thousandths) ps) month (pos 0))
prices_in_range ps month =
    every_numbered (λ (p : Price). p.thousandths) IsPrice (λ p. p.in_range) (pos 0) (omega (arith, ints), omega (arith, ints)) ps month

pub values_in_range : (cs : List (UpTo most_value)) (k : ℕ) → IsValue (get_or (map (λ (c : UpTo most_value). c.number) cs) k 0)
values_in_range cs k = every_get_or (λ (c : UpTo most_value). c.number) IsValue (λ c. c.most) 0 (omega arith) cs k

values-of_months : (cs : List (UpTo most_value)) (month : ℕ) → IsValue (numbered (map (λ (c : UpTo most_value). c.number) cs) month 0)
values-of_months cs month = every_numbered (λ (c : UpTo most_value). c.number) IsValue (λ c. c.most) 0 (omega arith) cs month

held_few : {T : Type 0} {n : ℕ} (t : Table T n) → length (held t) ≤ n
held_few t = omega (arith, length-take t.count t.rows, t.counted)

pub in_range : (c : Calendar) → InRange (figures c)
in_range c =
    let node = node_of empty_figures 0 in
    let limit = limit_of empty_figures 0 in
    let month = month_of empty_figures 0 in
    let nodes = held c.nodes in
    let limits = held c.limits in
    record {
      nodes = omega (arith, held_few c.nodes, length-map nodes node_figures);
      limits = omega (arith, held_few c.limits, length-map limits limit_figures);
      areas = within-get_or node_figures (λ n. IsArea n.area) (λ n. (n.area.first, n.area.last)) node nodes;
      prices =
          every_get_or node_figures (λ n. (m : ℕ) → IsPrice (numbered n.prices m (pos 0)))
          (λ n. prices_in_range n.prices) node (prices_in_range []) nodes;
      limit_areas = λ l has. within-numbered limit_figures (λ x. IsArea x.area) (λ x. (x.area.first, x.area.last)) limit limits l has.0 has.1;
      values =
          every_numbered limit_figures (λ x. (m : ℕ) → IsValue (numbered x.values m 0))
          (λ x. values-of_months x.values) limit (values-of_months []) limits;
      rows = every_numbered limit_figures (λ x. IsRow x.row) (λ x. x.row.in_range) limit (omega arith) limits;
      all_hours = every_numbered month_figures (λ m. IsHours m.hours) (λ m. m.hours.most) month (omega arith) c.months;
      pay_days = every_numbered month_figures (λ m. IsPayDay m.pay_day) (λ m. m.pay_day.most) month (omega arith) c.months;
    }
