use Rattle.std.proofs.Common.{◌≡◌, ℕ, List, [], Result, sym, ap, ◌∙◌, inl, rules}
use Rattle.terms.specs.declared.refusal.Refusal.{Refusal}
use Rattle.report.specs.declared.outcome.Accepted.{Accepted}
use Rattle.report.specs.Readings.{words_in}
use Rattle.book.specs.Market.{Market}
use Rattle.book.specs.States.{State}
use Rattle.book.specs.Calls.{propose}
use Rattle.book.specs.Views.{view}
use Rattle.demonstration.specs.Runs.{firm, after}
use Rattle.demonstration.specs.Answers.{firm_over, reported}
use Rattle.demonstration.proofs.program.line.reply_to.Goals as goal

-- the reply to words, by the worked market and the worked book
replied : (m : Market) (b : State) (ws vs : List ℕ) (r : Result Accepted Refusal) → m ≡ firm → b ≡ after firm [] → ws ≡ vs → reported b.number r ≡ (propose m b ws).answer → reported 1 r ≡ (propose firm (after firm []) vs).answer
replied m b ws vs r em eb ew h =
    ap (λ (s : State). reported s.number r) (sym eb)
    ∙ h
    ∙ ap (λ (x : Market). (propose x b ws).answer) em ∙ ap (λ (s : State). (propose firm s ws).answer) eb ∙ ap (λ us. (propose firm (after firm []) us).answer) ew

pub returns-in_err-input-clause-decided : goal.returns-in_err-input-clause-decided
returns-in_err-input-clause-decided c rest long = let more = c.in_err-input.ensures.decided rest long in search rules

pub returns : goal.returns
returns c =
    let me = c.args.book.now in
    let read = c.in_ok-input.ensures in
    let m = firm_over me.basis.source me.basis.calendar in
    let words = c.as_slice.result.now in
    let reply = c.propose_and_strike.result in
    let says : (vs : List ℕ) → words_in c.in_ok-input.input ≡ vs → reported 1 reply ≡ (propose firm (after firm []) vs).answer =
    λ vs e. replied m (view me.ledger) words vs reply c.requires.market c.requires.state (c.as_slice.ensures ∙ e) c.propose_and_strike.ensures in
    record {
      replies = inl (read.read.0, says _ read.read.1);
      decided = λ rest long. let more = read.decided rest long in inl (more.0, says _ more.1);
    }
