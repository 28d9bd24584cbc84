use Rattle.std.proofs.Common.{◌≡◌, ◌<◌, length, get_or, pos, sym, ap, ◌∙◌, rules}
use Rattle.calendar.specs.Figures.{figures, numbered, price}
use Rattle.calendar.proofs.Shown.{numbered-map}
use Rattle.calendar.proofs.calendar.Calendar.price.Goals as goal

pub returns-clause-value : goal.returns-clause-value
returns-clause-value c =
    let node = c.in_ok-node.node in
    let place = c.in_ok-month_place.field-0 in
    let within : place < length node.prices = search rules in
    let shown : (get_or node.prices place c.index-node-branch.result).thousandths ≡ price (figures c.args.self.now) c.args.node c.args.month =
    sym (numbered-map (λ p. p.thousandths) node.prices place _ _ _ c.in_ok-month_place.ensures.1.0 within) ∙ ap (λ n. numbered n.prices c.args.month (pos 0)) c.in_ok-node.ensures.1 in
    search rules
