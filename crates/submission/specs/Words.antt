-- A word of 32 bits, and the eight words of a line.
use Rattle.std.specs.Prelude.{ℕ, ◌+◌, ◌*◌, ◌/◌, ◌%◌, ◌^◌, ◌<◌, List, [], ◌∷◌, slice_index}
use Rattle.submission.specs.declared.line.Line.{Line}
use Rattle.submission.specs.declared.words.Kind.{Kind}
use Rattle.submission.specs.declared.words.Kind.TheVariants.{Opening, Holder, Nodes, Months, Power, OfferHigh, OfferLow, ChargeHigh, ChargeLow, Closing}

-- the top four bits of a word are its kind, the other 28 its payload
abbrev pub word : ℕ → ℕ → ℕ
word k p = k * 2 ^ 28 + p

abbrev pub kind : ℕ → ℕ
kind w = w / 2 ^ 28

abbrev pub payload : ℕ → ℕ
payload w = w % 2 ^ 28

-- the number of each kind
abbrev pub kind_number : Kind → ℕ
kind_number Opening = 1
kind_number Holder = 2
kind_number Nodes = 3
kind_number Months = 4
kind_number Power = 5
kind_number OfferHigh = 6
kind_number OfferLow = 7
kind_number ChargeHigh = 8
kind_number ChargeLow = 9
kind_number Closing = 15

-- the eight words of a line: holder, both nodes, both months, power, and the offer and the charge by their high and low 28 bits
abbrev pub words_of : Line → List ℕ
words_of l =
    word 2 l.holder ∷ word 3 (l.injection * 16384 + l.withdrawal) ∷ word 4 (l.first * 16 + l.last)
    ∷ word 5 l.power ∷ word 6 (l.offer / 2 ^ 28) ∷ word 7 (l.offer % 2 ^ 28)
    ∷ word 8 (l.charge / 2 ^ 28) ∷ word 9 (l.charge % 2 ^ 28) ∷ []

-- each field of the line fits its part of a payload
pub record Fits (l : Line) : Type 0 where
  pub holder : l.holder < 2 ^ 28
  pub injection : l.injection < 2 ^ 14
  pub withdrawal : l.withdrawal < 2 ^ 14
  pub first : l.first < 2 ^ 24
  pub last : l.last < 2 ^ 4
  pub power : l.power < 2 ^ 28
  pub offer : l.offer < 2 ^ 56
  pub charge : l.charge < 2 ^ 56

-- the line that eight words stand for
abbrev pub line_of : List ℕ → Line
line_of ws = record {
  holder = payload (slice_index ws 0);
  injection = payload (slice_index ws 1) / 16384;
  withdrawal = payload (slice_index ws 1) % 16384;
  first = payload (slice_index ws 2) / 16;
  last = payload (slice_index ws 2) % 16;
  power = payload (slice_index ws 3);
  offer = payload (slice_index ws 4) * 2 ^ 28 + payload (slice_index ws 5);
  charge = payload (slice_index ws 6) * 2 ^ 28 + payload (slice_index ws 7);
}
