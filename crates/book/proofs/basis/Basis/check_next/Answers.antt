use Rattle.std.proofs.Common.{sym, ap, ◌∙◌}
use Rattle.calendar.specs.Figures.{figures}
use Rattle.book.specs.Refusing.{told}
use Rattle.book.specs.Checks.{cover_check}
use Rattle.book.proofs.Refusals.{then_skip}
use Rattle.book.proofs.Ranges.{told_ok}
use Rattle.book.proofs.Covering.{holder_there, cover_told}
use Rattle.book.proofs.basis.Basis.check_next.Goals as goal

pub check_cover-requires : goal.check_cover-requires
check_cover-requires g c = holder_there (figures c.args.self.now.calendar) c.args.place c.args.line.now (told_ok _ _ c.in_ok-check_line.ensures)

pub returns-clause-answer : goal.returns-clause-answer
returns-clause-answer g c = λ b earlier left.
    let place = c.args.place in
    let line = c.args.line.now in
    let alone = told_ok _ _ c.in_ok-check_line.ensures in
    let there = holder_there (figures c.args.self.now.calendar) place line alone in
    c.check_cover.ensures.answer
    ∙ ap told (cover_told b earlier c.args.free.now left place line there ∙ sym (then_skip _ _ alone ∙ then_skip _ (cover_check b place earlier line) (told_ok _ _ c.in_ok-check_factors.ensures)))
