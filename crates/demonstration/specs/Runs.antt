-- Calls on book 1 over the worked calendar and table, under each of the two rules.
use Rattle.std.specs.Prelude.{ℕ, List, [], ◌∷◌}
use Rattle.submission.specs.declared.line.Line.{Line}
use Rattle.submission.specs.Submissions.{encode}
use Rattle.flows.specs.Nodes.{node_factor}
use Rattle.flows.specs.Rules.{firm_worst, obligation_worst}
use Rattle.book.specs.Market.{Market, market}
use Rattle.book.specs.States.{State, fresh}
use Rattle.book.specs.Calls.{Call, Answer}
use Rattle.book.specs.Calls.Call.{Propose, Confirm, Deposit}
use Rattle.book.specs.Histories.{History, state_after, history_after, answers_after}
use Rattle.demonstration.specs.Calendars.{worked_calendar}
use Rattle.demonstration.specs.Tables.{worked_entries}

abbrev pub firm : Market
firm = market (node_factor 2 3 worked_entries) firm_worst worked_calendar

abbrev pub obligation : Market
obligation = market (node_factor 2 3 worked_entries) obligation_worst worked_calendar

-- holder 0 asks for a right from node to node, from month 1 to the last, with a power, an offer and a charge
abbrev pub right : ℕ → ℕ → ℕ → ℕ → ℕ → ℕ → Line
right injection withdrawal last power offer charge =
    record { holder = 0; injection = injection; withdrawal = withdrawal; first = 1; last = last; power = power; offer = offer; charge = charge }

-- the proposal of one right
abbrev pub asked : Line → Call
asked x = Propose (encode (x ∷ []))

-- the right proposed, and confirmed as the one with this serial
abbrev pub sold : ℕ → Line → List Call
sold serial x = asked x ∷ Confirm 1 serial 1 ∷ []

-- book 1 after a deposit of 1,000,000,000 cents by holder 0, and then these calls
abbrev pub after : Market → List Call → State
after m calls = state_after m (fresh 1) (Deposit 0 1000000000 ∷ calls)

-- their history
abbrev pub past : Market → List Call → History
past m calls = history_after m (fresh 1) [] (Deposit 0 1000000000 ∷ calls)

-- the answers to these calls
abbrev pub answers : Market → List Call → List Answer
answers m calls = answers_after m (after m []) calls
