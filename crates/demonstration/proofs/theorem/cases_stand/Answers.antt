use Rattle.demonstration.proofs.Cases.{worked_cases}
use Rattle.demonstration.proofs.theorem.cases_stand.Goals as goal

pub returns : goal.returns
returns c = worked_cases
