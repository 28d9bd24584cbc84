-- The eighteen refusals of the market as numbers.
use Rattle.std.specs.Prelude.{ℕ}
use Rattle.terms.specs.declared.refusal.Fields.{Fields}
use Rattle.terms.specs.declared.refusal.Refusal.{Refusal}
use Rattle.terms.specs.declared.refusal.Refusal.TheVariants.{CalendarValue, CalendarFull, References, Stray, Form, Unwritable, AwardOpen, BadLine, BelowFloor, NoFactor, Uncovered, NoRoom, LimitPassed, Unknown, BadAmount, DayPast, NotOverdue, NoSuchAward}

-- a refusal's number, place, month, limit and excess
abbrev pub five_fields : ℕ → ℕ → ℕ → ℕ → ℕ → Fields
five_fields n p m l x = record { number = n; place = p; month = m; limit = l; excess = x }

-- each refusal's five numbers, 0 where it names none
abbrev pub fields_of : Refusal → Fields
fields_of CalendarValue = five_fields 1 0 0 0 0
fields_of CalendarFull = five_fields 2 0 0 0 0
fields_of References = five_fields 3 0 0 0 0
fields_of (Stray place limit) = five_fields 4 place 0 limit 0
fields_of (Form place) = five_fields 5 place 0 0 0
fields_of Unwritable = five_fields 6 0 0 0 0
fields_of AwardOpen = five_fields 7 0 0 0 0
fields_of (BadLine place) = five_fields 8 place 0 0 0
fields_of (BelowFloor place) = five_fields 9 place 0 0 0
fields_of (NoFactor place month limit) = five_fields 10 place month limit 0
fields_of (Uncovered place) = five_fields 11 place 0 0 0
fields_of NoRoom = five_fields 12 0 0 0 0
fields_of (LimitPassed month limit excess) = five_fields 13 0 month limit excess
fields_of Unknown = five_fields 14 0 0 0 0
fields_of BadAmount = five_fields 15 0 0 0 0
fields_of DayPast = five_fields 16 0 0 0 0
fields_of NotOverdue = five_fields 17 0 0 0 0
fields_of NoSuchAward = five_fields 18 0 0 0 0
