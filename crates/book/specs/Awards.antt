-- Awards, by their three numbers, and how they end.
use Rattle.std.specs.Prelude.{◌≡◌, Bool, ◌&&◌, Ok, Err, Result, ◌==◌}
use Rattle.terms.specs.declared.refusal.Refusal.{Refusal}
use Rattle.book.specs.declared.award.Award.{Award}
use Rattle.book.specs.declared.award.AwardNumbers.{AwardNumbers}
use Rattle.book.specs.declared.award.Returned.{Returned}

-- whether two awards have the same three numbers
abbrev pub same_numbers : AwardNumbers → AwardNumbers → Bool
same_numbers a b = a.book == b.book && (a.first == b.first && a.lines == b.lines)

-- an award that was taken back is gone; a refusal hands the very award back
abbrev pub EndedAs : Result (Unit {0}) Refusal → Award → Result (Unit {0}) Returned → Type 0
EndedAs (Ok _) award r = r ≡ Ok tt
EndedAs (Err e) award r = r ≡ Err (record { refusal = e; award = award })
