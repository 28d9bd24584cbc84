-- The answer to an input.
use Rattle.std.specs.Prelude.{ℕ, List, Result}
use Rattle.terms.specs.declared.refusal.Refusal.{Refusal}
use Rattle.report.specs.declared.outcome.WellFormed.{WellFormed}
use Rattle.report.specs.Inputs.{Judged, Decided}
use Rattle.report.specs.Texts.{line_text, Puts}

-- the line of the verdict on the bytes bs is put into a buffer that held `was` and now holds `is`
pub record Answered (bs was is : List ℕ) (r : Result ℕ Refusal) : Type 0 where
  pub verdict : Result WellFormed Refusal
  pub judged : Judged bs verdict
  pub decided : Decided bs verdict
  pub line : Puts (line_text verdict) was is r
