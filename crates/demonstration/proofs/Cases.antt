-- The worked cases compute.
use Rattle.std.proofs.Common.{true, false, refl}
use Rattle.book.specs.Refusing.{first_of}
use Rattle.book.specs.Forms.{first_broken}
use Rattle.book.specs.Lines.{line_fault}
use Rattle.book.specs.Checks.{limit_check, capacity_check, factor_at, lines_check, overdue_on}
use Rattle.demonstration.specs.Cases.{WorkedCases}
use Rattle.demonstration.proofs.Matrices.{marks, strays}

pub worked_cases : WorkedCases
unfolding first_of first_broken line_fault limit_check capacity_check factor_at lines_check overdue_on
worked_cases =
    record {
      firm_run = refl;
      obligation_run = refl;
      floor_run = refl;
      instalments = refl;
      tenth = refl;
      fifth = refl;
      tenth_held = refl;
      fifth_held = refl;
      overdue_run = refl;
      paid = refl;
      taken = refl;
      written_off = refl;
      passing_99 = refl;
      passing_100 = refl;
      unmarked_99 = marks 99 false refl;
      marked_100 = marks 100 true refl;
      strays_100 = strays;
    }
