use Rattle.std.proofs.Common.{◌*◌, ◌<◌, ◌≤◌, length, Ok, Err, ap, ◌∙◌, arith}
use Rattle.std.proofs.lemmas.Result.{err_from_is_err_and}
use Rattle.submission.specs.Submissions.{decode}
use Rattle.report.proofs.Judgements.{decided, broken_early, broken_late, whole}
use Rattle.report.proofs.input.read.form_in.Goals as goal

pub returns-in_err-form : goal.returns-in_err-form
returns-in_err-form c =
    let bs = c.args.bytes.now in
    let e = c.in_err-form.field-0.0 in
    let b = broken_early bs _ c.requires e c.in_err-form.ensures in
    let p = err_from_is_err_and c.from_residual.result c.from_residual.ensures.1 in
    rw (p.1, p.2) (record { judged = b; decided = decided bs (Err e) b })

pub returns-then-bytes-words : goal.returns-then-bytes-words
returns-then-bytes-words c =
    let bs = c.args.bytes.now in
    let more : 4 * length c.args.words.now < length bs = omega (arith, c.if-bytes-words.true) in
    let b = broken_late bs _ c.requires c.in_ok-form.ensures.0 more in
    record { judged = b; decided = decided bs (Err _) b }

pub returns : goal.returns
returns c =
    let bs = c.args.bytes.now in
    let all : length bs ≤ 4 * length c.args.words.now = omega (arith, c.if-bytes-words.false) in
    let w = whole bs _ c.requires c.in_ok-form.ensures.0 all in
    let lines = c.in_ok-form.ensures.1 ∙ ap (λ ws. length (decode ws)) w.1 in
    record { judged = (w.0, lines); decided = decided bs (Ok c.in_ok-form.form) (w.0, lines) }
