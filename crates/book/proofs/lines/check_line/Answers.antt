use Rattle.std.proofs.Common.{sym, ap, ◌∙◌}
use Rattle.calendar.specs.Figures.{figures}
use Rattle.book.specs.Refusing.{told}
use Rattle.book.proofs.Faults.{bad_line, below_floor, no_fault}
use Rattle.book.proofs.lines.check_line.Goals as goal

pub returns-then-not-line_stands : goal.returns-then-not-line_stands
returns-then-not-line_stands c =
    sym (ap told (bad_line (figures c.args.calendar.now) c.args.place c.args.line.now (sym c.line_stands.ensures ∙ c.if-not-line_stands.true)))

pub returns-then-not-reaches_floor : goal.returns-then-not-reaches_floor
returns-then-not-reaches_floor c =
    sym (ap told (below_floor (figures c.args.calendar.now) c.args.place c.args.line.now
    (sym c.line_stands.ensures ∙ c.if-not-line_stands.false) (sym c.reaches_floor.ensures ∙ c.if-not-reaches_floor.true)))

pub returns : goal.returns
returns c =
    sym (ap told (no_fault (figures c.args.calendar.now) c.args.place c.args.line.now
    (sym c.line_stands.ensures ∙ c.if-not-line_stands.false) (sym c.reaches_floor.ensures ∙ c.if-not-reaches_floor.false)))
