-- The form word by word, as the reader tests it. It is a step between the code and `Submission`, on which the public contracts rest.
use Rattle.std.specs.Prelude.{◌≡◌, ℕ, ◌+◌, ◌-◌, ◌*◌, ◌%◌, ◌<◌, ◌≤◌}
use Rattle.terms.specs.Ranges.{most_lines}
use Rattle.submission.specs.Words.{kind, payload}

-- the word w may stand at the index i of a submission of n lines
pub record Stands (n i w : ℕ) : Type 0 where
  pub head : i ≡ 0 → (kind w ≡ 1) × (1 ≤ payload w) × (payload w ≤ most_lines)
  pub inner : 0 < i → i ≤ 8 * n → kind w ≡ (i - 1) % 8 + 2
  pub end : 8 * n < i → (i ≡ 8 * n + 1) × (kind w ≡ 15) × (payload w ≡ i)
