-- What each call must pass, in the order in which it is checked.
use Rattle.std.specs.Prelude.{ℕ, suc, ◌+◌, ◌-◌, Bool, false, not, ◌&&◌, ◌||◌, List, [], ◌∷◌, length, ◌-ℤ◌, is_some, Some, None, Option, ◌==◌, int_lt, nat_le, nat_lt, unsigned_abs}
use Rattle.submission.specs.declared.line.Line.{Line}
use Rattle.book.specs.declared.right.Right.{Right}
use Rattle.terms.specs.declared.refusal.Refusal.{Refusal}
use Rattle.terms.specs.declared.refusal.Refusal.TheVariants.{AwardOpen, NoFactor, Uncovered, NoRoom, LimitPassed, Unknown, BadAmount, DayPast, NotOverdue, NoSuchAward}
use Rattle.submission.specs.Submissions.{decode}
use Rattle.money.specs.Payments.{overdue}
use Rattle.book.specs.Refusing.{◌then◌, refuse_if, first_of}
use Rattle.book.specs.Market.{Market, limits}
use Rattle.book.specs.Lines.{line_fault}
use Rattle.book.specs.Forms.{form_check}
use Rattle.book.specs.Rights.{guarantee, is_in_force, paid_of, debt, asked_of}
use Rattle.book.specs.Loads.{counts, factor, bound, load}
use Rattle.book.specs.States.{State, balance, free_part}

-- the first refusal by limit
abbrev pub by_limit : Market → (ℕ → Option Refusal) → Option Refusal
by_limit m check = first_of check 1 (limits m)

-- the first refusal by month, then limit
abbrev pub by_month_and_limit : Market → (ℕ → ℕ → Option Refusal) → Option Refusal
by_month_and_limit m check = first_of (λ month. first_of (λ limit. check month limit) 1 (limits m)) 1 12

-- the load is past what the limit bears
unfoldable pub limit_check : Market → List Right → ℕ → ℕ → Option Refusal
limit_check m rs month limit =
    refuse_if (int_lt (bound m month limit) (load m month limit rs)) (LimitPassed month limit (unsigned_abs (load m month limit rs -ℤ bound m month limit)))

-- capacity, of the rights that a call would leave
unfoldable pub capacity_check : Market → List Right → Option Refusal
capacity_check m rs = by_month_and_limit m (limit_check m rs)

-- the source has no factor although the limit counts the line in the month
unfoldable pub factor_at : Market → ℕ → Line → ℕ → ℕ → Option Refusal
factor_at m place x month limit = refuse_if (counts m month limit x && not (is_some (factor m month limit x))) (NoFactor place month limit)

-- the source has a factor wherever a limit counts the line
abbrev pub factor_check : Market → ℕ → Line → Option Refusal
factor_check m place x = by_month_and_limit m (λ month limit. refuse_if (counts m month limit x && not (is_some (factor m month limit x))) (NoFactor place month limit))

-- the same, by the factor at each limit in each month
abbrev pub factors_check : Market → ℕ → Line → Option Refusal
factors_check m place x = by_month_and_limit m (factor_at m place x)

-- the free part, less the guarantees of the earlier lines, covers the guarantee
abbrev pub cover_check : State → ℕ → List Line → Line → Option Refusal
cover_check b place earlier x = refuse_if (nat_lt (free_part b x.holder - asked_of x.holder earlier) (guarantee x)) (Uncovered place)

-- the line at a place: by itself, its factors, its cover
abbrev pub line_check : Market → State → ℕ → List Line → Line → Option Refusal
line_check m b place earlier x = line_fault m.calendar place x then factors_check m place x then cover_check b place earlier x

-- each line in turn, from a place on
unfoldable pub lines_check : Market → State → ℕ → List Line → List Line → Option Refusal
lines_check m b place earlier [] = None
lines_check m b place earlier (x ∷ xs) =
    line_fault m.calendar place x then factor_check m place x then cover_check b place earlier x then lines_check m b (suc place) (x ∷ earlier) xs

-- 96 rows, and serials up to a million, suffice for so many lines
abbrev pub room_for : State → ℕ → Option Refusal
room_for b lines = refuse_if (nat_lt 96 (length b.rights + lines) || nat_lt 1000001 (b.next + lines)) NoRoom

-- 96 rows, and serials up to a million
abbrev pub room_check : State → List Line → Option Refusal
room_check b ls = refuse_if (nat_lt 96 (length b.rights + length ls) || nat_lt 1000001 (b.next + length ls)) NoRoom

abbrev pub open_check : State → Option Refusal
open_check b = refuse_if (is_some b.pending) AwardOpen

-- a proposal of these words, before capacity
abbrev pub propose_check : Market → State → List ℕ → Option Refusal
propose_check m b ws =
    form_check ws then open_check b then lines_check m b 1 [] (decode ws) then room_check b (decode ws)

-- whether the three numbers are those of the award that is open
abbrev pub is_open : ℕ → ℕ → ℕ → ℕ → Option (ℕ × ℕ) → Bool
is_open number book first lines None = false
is_open number book first lines (Some p) = book == number && (first == p.0 && lines == p.1)

abbrev pub award_check : State → ℕ → ℕ → ℕ → Option Refusal
award_check b book first lines = refuse_if (not (is_open b.number book first lines b.pending)) NoSuchAward

-- a right in force
abbrev pub known_check : Right → Option Refusal
known_check r = refuse_if (not (is_in_force r)) Unknown

abbrev pub pay_check : ℕ → Right → Option Refusal
pay_check amount r = known_check r then refuse_if (amount == 0 || nat_lt (debt r) amount) BadAmount

-- whether a right is overdue on a day
unfoldable pub overdue_on : Market → ℕ → Right → Bool
overdue_on m day r = overdue m.calendar r.line.charge (paid_of r) r.line.first r.line.last day

-- an annulment, before capacity
abbrev pub annul_check : Market → State → Right → Option Refusal
annul_check m b r = known_check r then open_check b then refuse_if (not (overdue_on m b.day r)) NotOverdue

abbrev pub holder_check : ℕ → Option Refusal
holder_check x = refuse_if (nat_le 32 x) Unknown

abbrev pub deposit_check : State → ℕ → ℕ → Option Refusal
deposit_check b x amount = holder_check x then refuse_if (amount == 0 || nat_lt 1000000000000000 (balance b x + amount)) BadAmount

abbrev pub withdraw_check : State → ℕ → ℕ → Option Refusal
withdraw_check b x amount = holder_check x then refuse_if (amount == 0 || nat_lt (free_part b x) amount) BadAmount

abbrev pub day_check : State → ℕ → Option Refusal
day_check b d = refuse_if (nat_lt d b.day) DayPast
