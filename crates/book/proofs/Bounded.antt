-- A line that has no fault is of a million kilowatts at most.
use Rattle.std.proofs.Common.{◌≡◌, ℕ, ◌≤◌, ◌&&◌, ltb, leb, None}
use Rattle.std.proofs.lemmas.Bool.{leb-true, and_parts, not-false}
use Rattle.submission.specs.declared.line.Line.{Line}
use Rattle.book.specs.Market.{Market}
use Rattle.book.specs.Lines.{holders, most_offer, line_fault, line_stands, nodes_stand, months_stand, amounts_stand}
use Rattle.book.proofs.Refusals.{then_none, refuse_none}

abbrev pub BoundedLines : Market → Type 0
BoundedLines m = (place : ℕ) (x : Line) → line_fault m.calendar place x ≡ None → x.power ≤ 1000000

pub bounded_lines : (m : Market) → BoundedLines m
unfolding line_fault
bounded_lines m place x h =
    let stands = not-false (line_stands m.calendar x) (refuse_none _ _ (then_none _ _ h).0) in
    let lines = (and_parts (ltb x.holder holders) (nodes_stand m.calendar x && (months_stand x && amounts_stand x)) stands).1 in
    let rest = (and_parts (nodes_stand m.calendar x) (months_stand x && amounts_stand x) lines).1 in
    let amounts = (and_parts (months_stand x) (amounts_stand x) rest).1 in
    let power = (and_parts (leb 1 x.power) (leb x.power 1000000 && (leb x.offer most_offer && leb x.charge x.offer)) amounts).1 in
    leb-true x.power 1000000 (and_parts (leb x.power 1000000) (leb x.offer most_offer && leb x.charge x.offer) power).0
