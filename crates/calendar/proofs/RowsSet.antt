-- Rows that are set one after another.
use Rattle.std.proofs.Common.{◌≡◌, ℕ, ◌+◌, ◌-◌, ◌<◌, not, eqb, ◌≢◌, List, length, set, ℤ, get_or-set_other, get_or-set_same, sym, refl, ap, ◌∙◌, subst, ⊎_elim, arith}
use Rattle.std.proofs.Math.Seq.{map-set_same}
use Rattle.std.proofs.lemmas.List.{length-map}
use Rattle.std.proofs.lemmas.Bool.{cases_lt}
use Rattle.calendar.specs.Calls.{rerowed}
use Rattle.calendar.specs.Figures.{Figures, limit_count, limit_of, numbered}
use Rattle.calendar.specs.Matrix.{pair_flow, RowsSet, unmarked}
use Rattle.calendar.specs.Rows.{row_mark}
use Rattle.calendar.specs.declared.reference.Reference.{Reference}
use Rattle.calendar.proofs.Shown.{numbered_place}

module _ (before : Figures) (rs : List Reference) (flows : List ℤ) where
  pub count_kept : (n : ℕ) (after : Figures) → RowsSet before rs flows n after → limit_count after ≡ limit_count before
  count_kept n after h = sym (length-map after.limits unmarked) ∙ ap length h.2 ∙ length-map before.limits unmarked

  -- the row of one limit more
  pub rows_more : (n row : ℕ) (after : Figures) → n < limit_count before → RowsSet before rs flows n after → ((pair : ℕ) → pair < 30 → row_mark row pair ≡ not (eqb (pair_flow before rs flows (n + 1) pair) 0)) → RowsSet before rs flows (n + 1) (record after { limits = set after.limits n (rerowed row (limit_of after (n + 1))) })
  rows_more n row after within h marks =
      let xs = after.limits in
      let l = rerowed row (limit_of after (n + 1)) in
      let d = limit_of before 0 in
      let short : n < length xs = omega (arith, count_kept n after h) in
      let Marked : ℕ → ℕ → Type 0 = λ limit pair. row_mark (numbered (set xs n l) limit d).row pair ≡ not (eqb (pair_flow before rs flows limit pair) 0) in (
        h.0,
        h.1,
        map-set_same unmarked xs n l d (ap unmarked (numbered_place xs n (n + 1) d refl)) ∙ h.2,
        λ limit pair low high below.
            ⊎_elim
            (λ less.
            let place = limit - 1 in
            let number : place + 1 ≡ limit = omega arith in
            let apart : place ≢ n = λ z. omega arith in
            ap (λ k. row_mark k.row pair)
            (numbered_place (set xs n l) place limit d number ∙ get_or-set_other xs n place l d apart ∙ sym (numbered_place xs place limit d number))
            ∙ h.3 limit pair low (omega arith) below)
            (λ more.
            let number : n + 1 ≡ limit = omega arith in
            subst (λ k. Marked k pair) number
            (ap (λ k. row_mark k.row pair) (numbered_place (set xs n l) n (n + 1) d refl ∙ get_or-set_same xs n l d short) ∙ marks pair below))
            (cases_lt limit (n + 1)),
      )
