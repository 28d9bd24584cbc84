-- The program's answer to an input of bytes.
use Rattle.std.specs.Prelude.{◌≡◌, ℕ, ◌≤◌, ◌⊎◌, List, [], ◌++◌, length, Ok, Err, vec_items, Result}
use Rattle.terms.specs.declared.refusal.Refusal.{Refusal}
use Rattle.terms.specs.declared.refusal.Refusal.TheVariants.{Unwritable}
use Rattle.calendar.specs.declared.calendar.Calendar.{Calendar}
use Rattle.calendar.specs.Figures.{figures}
use Rattle.flows.specs.declared.node_table.NodeTable.{NodeTable}
use Rattle.flows.specs.Nodes.{node_factor}
use Rattle.flows.specs.Rules.{firm_worst}
use Rattle.report.specs.declared.outcome.Accepted.{Accepted}
use Rattle.report.specs.Inputs.{whole_words, Accepted as SubmissionBytes, RefusedBytes}
use Rattle.report.specs.Texts.{reply_line, Puts}
use Rattle.book.specs.Market.{Market, market}
use Rattle.book.specs.Calls.{Answer, propose}
use Rattle.book.specs.Calls.Answer.{Awarded, Refused}
use Rattle.demonstration.specs.declared.program.Fault.{Fault}
use Rattle.demonstration.specs.declared.program.Fault.TheVariants.{Memory, ShortBuffer}
use Rattle.demonstration.specs.Runs.{firm, after}

-- what a book over a table and a calendar answers by, under the firm rule
abbrev pub firm_over : NodeTable → Calendar → Market
firm_over t c = market (node_factor t.limits t.nodes (vec_items t.entries)) firm_worst (figures c)

-- the answer of a book, by its number, that a reply reports
abbrev pub reported : ℕ → Result Accepted Refusal → Answer
reported book (Ok award) = Awarded book award.first award.lines
reported book (Err e) = Refused e

-- the reply to the bytes of an input: that of firm book 1 to the proposal of their words, if they are a submission, else their broken form
abbrev pub Replies : List ℕ → Result Accepted Refusal → Type 0
Replies bs reply =
    (SubmissionBytes bs × (reported 1 reply ≡ (propose firm (after firm []) (whole_words bs)).answer))
    ⊎ ((e : Refusal) × RefusedBytes bs e × (reply ≡ Err e))

-- the line of the reply is put into a buffer that held `was` and now holds `is`; 521 bytes decide it, whatever follows them
pub record LineOf (bs was is : List ℕ) (r : Result ℕ Refusal) : Type 0 where
  pub reply : Result Accepted Refusal
  pub replies : Replies bs reply
  pub decided : (rest : List ℕ) → 521 ≤ length bs → Replies (bs ++ rest) reply
  pub line : Puts (reply_line reply) was is r

-- the line, or a buffer left as it was where there is no memory or too little room
abbrev pub Answered : List ℕ → List ℕ → List ℕ → Result ℕ Fault → Type 0
Answered bs was is (Ok n) = LineOf bs was is (Ok n)
Answered bs was is (Err Memory) = is ≡ was
Answered bs was is (Err ShortBuffer) = LineOf bs was is (Err Unwritable)
