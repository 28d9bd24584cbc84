use Rattle.std.proofs.Common.{◌≡◌, eqb, sym, ap, ◌∙◌}
use Rattle.std.specs.List.{position}
use Rattle.book.specs.Views.{rights}
use Rattle.book.proofs.Finds.{first_place}
use Rattle.book.proofs.rights.Rights.find.Goals as goal

pub returns : goal.returns
returns c =
    let rs = rights c.args.self.now in
    let its : position (λ r. eqb r.serial c.args.serial) rs ≡ c.place_of.result = ap (position (λ r. eqb r.serial c.args.serial)) (sym c.as_slice.ensures.value) ∙ sym c.place_of.ensures in
    first_place c.args.serial rs c.place_of.result its
