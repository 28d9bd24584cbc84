-- The limits of a calendar, by their places and by their numbers.
use Rattle.std.proofs.Common.{◌≡◌, ℕ, ◌+◌, ◌-◌, ◌<◌, ◌≤◌, length, get_or, sym, ap, ◌∙◌, subst, arith}
use Rattle.std.proofs.lemmas.List.{length-map}
use Rattle.terms.specs.Tables.{held}
use Rattle.calendar.specs.declared.calendar.Calendar.{Calendar}
use Rattle.calendar.specs.declared.calendar.Limit.{Limit}
use Rattle.calendar.specs.Figures.{figures, limit_count, limit_figures, limit_of}
use Rattle.calendar.proofs.Shown.{numbered-map}

pub limits-counted : (c : Calendar) → limit_count (figures c) ≡ length (held c.limits)
limits-counted c = length-map (held c.limits) limit_figures

-- the limit that is read at a place
pub limit_at : (c : Calendar) (at : ℕ) (l : Limit) → at < length (held c.limits) → l ≡ get_or (held c.limits) at l → limit_figures l ≡ limit_of (figures c) (at + 1)
limit_at c at l h e = ap limit_figures e ∙ sym (numbered-map limit_figures (held c.limits) at (at + 1) l _ (omega arith) h)

-- what holds at every place below n holds of the numbers 1 to n
pub by_places : (P : ℕ → Type 0) (n : ℕ) → ((k : ℕ) → k < n → P (k + 1)) → (l : ℕ) → 1 ≤ l → l ≤ n → P l
by_places P n h l low high =
    let e : (l - 1) + 1 ≡ l = omega arith in
    subst P e (h (l - 1) (omega arith))
