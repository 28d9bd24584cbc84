use Rattle.std.proofs.Common.{arith}
use Rattle.money.proofs.Splits.{lowest_first}
use Rattle.money.proofs.dues.DueMonth.instalment.Goals as goal

pub returns : goal.returns
returns c =
    let d = c.args.self.dues in
    (c.amount-amount.ensures, c.paid-paid.ensures, omega arith, omega arith, lowest_first d.charge d.paid d.months.first d.months.last c.args.self.month)
