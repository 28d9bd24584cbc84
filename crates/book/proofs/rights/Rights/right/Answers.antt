use Rattle.std.proofs.Common.{eqb, rules, tests, ap, ◌∙◌}
use Rattle.std.proofs.lemmas.Iterator.{YieldsList-from_slice}
use Rattle.std.proofs.lemmas.Iterator.Search.{find_from_yields_List}
use Rattle.book.specs.Rights.{right_of}
use Rattle.book.proofs.rights.Rights.right.Goals as goal

pub returns : goal.returns
returns c =
    c.copied.ensures
    ∙ find_from_yields_List (λ r. eqb r.serial c.args.serial) _ _ _ c.find.ensures.ran (YieldsList-from_slice c.as_slice.result.now cc) (λ x b q k. search (rules, tests))
    ∙ ap (right_of c.args.serial) c.as_slice.ensures.value
