-- No calendar holds a value beyond its range.
use Rattle.std.specs.Prelude.{ℕ, ◌≤◌}
use Rattle.terms.specs.Ranges.{most_limits, most_nodes}
use Rattle.calendar.specs.Figures.{Figures, area_of, HasLimit, HasNode, hours, limit_count, limit_of, node_count, pay_day, price, value}
use Rattle.calendar.specs.Values.{IsArea, IsHours, IsPayDay, IsPrice, IsRow, IsValue}

pub record InRange (f : Figures) : Type 0 where
  pub nodes : node_count f ≤ most_nodes
  pub limits : limit_count f ≤ most_limits
  pub areas : (node : ℕ) → HasNode f node → IsArea (area_of f node)
  pub prices : (node month : ℕ) → IsPrice (price f node month)
  pub limit_areas : (limit : ℕ) → HasLimit f limit → IsArea (limit_of f limit).area
  pub values : (limit month : ℕ) → IsValue (value f limit month)
  pub rows : (limit : ℕ) → IsRow (limit_of f limit).row
  pub all_hours : (month : ℕ) → IsHours (hours f month)
  pub pay_days : (month : ℕ) → IsPayDay (pay_day f month)
