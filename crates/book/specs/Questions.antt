-- The questions on a book: a right's statement, a holder's account, and the load of a limit.
use Rattle.std.specs.Prelude.{ℕ, cond, ◌&&◌, ℤ, Ok, Err, Result, nat_le}
use Rattle.std.specs.Option.{option_map, ok_or}
use Rattle.terms.specs.declared.refusal.Refusal.{Refusal}
use Rattle.terms.specs.declared.refusal.Refusal.TheVariants.{Unknown}
use Rattle.book.specs.declared.right.Right.{Right}
use Rattle.book.specs.declared.answers.Statement.{Statement}
use Rattle.book.specs.declared.answers.Account.{Account}
use Rattle.book.specs.Market.{Market, limits}
use Rattle.book.specs.Rights.{is_in_force, paid_of, debt, held, right_of}
use Rattle.book.specs.Loads.{load}
use Rattle.book.specs.States.{State, balance, free_part}

-- the charge counts once the right is in force
abbrev pub statement_of : Right → Statement
statement_of r = record { charge = cond (is_in_force r) r.line.charge 0; paid = paid_of r; debt = debt r; guarantee = held r }

abbrev pub statement : State → ℕ → Result Statement Refusal
statement b s = ok_or (option_map statement_of (right_of s b.rights)) Unknown

abbrev pub account_of : State → ℕ → Account
account_of b x = record { balance = balance b x; free = free_part b x }

abbrev pub account : State → ℕ → Result Account Refusal
account b x = cond (nat_le 32 x) (Err Unknown) (Ok (account_of b x))

-- the load by all rights in the book, provisional ones too
abbrev pub load_asked : Market → State → ℕ → ℕ → Result ℤ Refusal
load_asked m b month limit =
    cond (nat_le 1 month && (nat_le month 12 && (nat_le 1 limit && nat_le limit (limits m)))) (Ok (load m month limit b.rights)) (Err Unknown)

-- the debt that a statement answers, and the balance that an account answers; 0 where there is none
abbrev pub debt_stated : Result Statement Refusal → ℕ
debt_stated (Ok s) = s.debt
debt_stated (Err e) = 0

abbrev pub balance_stated : Result Account Refusal → ℕ
balance_stated (Ok a) = a.balance
balance_stated (Err e) = 0
