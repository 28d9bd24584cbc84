-- Histories: what calls with their answers say by themselves, and the book that lived through them.
use Rattle.std.specs.Prelude.{◌≡◌, ℕ, ◌+◌, cond, List, [], ◌∷◌, ◌++◌}
use Rattle.book.specs.declared.right.Right.{Right}
use Rattle.book.specs.Market.{Market}
use Rattle.book.specs.Rights.{total}
use Rattle.book.specs.States.{State, fresh}
use Rattle.book.specs.Calls.{Call, Answer, act}
use Rattle.book.specs.Events.{Event, accepted, noted, confirming, taken, written_off, pays, annuls, pays_in, draws, annuls_of}

-- the latest event first
abbrev pub History : Type 0
History = List Event

-- a book with a number has lived through a history, each answer being the defined one, and its state is now this
abbrev pub Lived : Market → ℕ → History → State → Type 0
Lived m n [] b = b ≡ fresh n
Lived m n (e ∷ h) b = (before : State) × (Lived m n h before) × (e.answer ≡ (act m before e.call).answer) × (b ≡ (act m before e.call).after)

-- the rights that are not gone
abbrev pub standing : History → List Right
standing [] = []
standing (e ∷ h) = cond (accepted e.answer) (noted (standing h) e.call e.answer) (standing h)

-- the rights ever confirmed
abbrev pub ever_confirmed : History → List Right
ever_confirmed [] = []
ever_confirmed (e ∷ h) = ever_confirmed h ++ cond (accepted e.answer) (confirming (standing h) e.call) []

-- the accepted payments on a serial
abbrev pub payments : ℕ → History → ℕ
payments s h = total (λ e. cond (accepted e.answer) (pays s e.call) 0) h

-- the takings and the write-offs of a serial
abbrev pub takings : ℕ → History → ℕ
takings s h = total (λ e. cond (annuls s e.call) (taken e.answer) 0) h

abbrev pub write_offs : ℕ → History → ℕ
write_offs s h = total (λ e. cond (annuls s e.call) (written_off e.answer) 0) h

-- the accepted deposits and withdrawals of a holder
abbrev pub deposits : ℕ → History → ℕ
deposits x h = total (λ e. cond (accepted e.answer) (pays_in x e.call) 0) h

abbrev pub withdrawals : ℕ → History → ℕ
withdrawals x h = total (λ e. cond (accepted e.answer) (draws x e.call) 0) h

-- the takings from a holder's rights
abbrev pub takings_from : ℕ → History → ℕ
takings_from x [] = 0
takings_from x (e ∷ h) = cond (annuls_of x (standing h) e.call) (taken e.answer) 0 + takings_from x h

-- a list of calls, made in their order on a state that has a history behind it
abbrev pub event : Market → State → Call → Event
event m b c = record { call = c; answer = (act m b c).answer }

abbrev pub state_after : Market → State → List Call → State
state_after m b [] = b
state_after m b (c ∷ cs) = state_after m (act m b c).after cs

abbrev pub history_after : Market → State → History → List Call → History
history_after m b h [] = h
history_after m b h (c ∷ cs) = history_after m (act m b c).after (event m b c ∷ h) cs

abbrev pub answers_after : Market → State → List Call → List Answer
answers_after m b [] = []
answers_after m b (c ∷ cs) = (act m b c).answer ∷ answers_after m (act m b c).after cs
