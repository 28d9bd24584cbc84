-- What the reader answers.
use Rattle.std.specs.Prelude.{◌≡◌, ℕ, ◌+◌, ◌-◌, ◌/◌, ◌%◌, ◌<◌, List, [], ◌∷◌, length, take, drop, Option, MatchOption}
use Rattle.submission.specs.declared.line.Line.{Line}
use Rattle.submission.specs.declared.reader.LineWords.{LineWords}
use Rattle.submission.specs.declared.reader.Reader.{Reader}
use Rattle.submission.specs.Words.{words_of, line_of, Fits}
use Rattle.submission.specs.Submissions.{encode, Writable, Submission, lines_of, decode}

-- the lines that are left of the words ws from the index at
abbrev pub ahead : List ℕ → ℕ → List Line
ahead ws at = lines_of ((length ws - 1 - at) / 8) (drop at ws)

-- ws is a submission, and at is the index of the first word of one of its lines, or of its closing word
pub record Ready (ws : List ℕ) (at : ℕ) : Type 0 where
  pub whole : Submission ws
  pub seam : at % 8 ≡ 1
  pub inside : at < length ws

-- ws is the only writing of the lines that it yields
pub record OnlyWriting (ws : List ℕ) : Type 0 where
  pub writable : Writable (decode ws)
  pub same : ws ≡ encode (decode ws)
  pub only : (vs : List ℕ) → Submission vs → decode vs ≡ decode ws → vs ≡ ws

-- a reader opened on ws, which holds the words ds, is at the index at
pub record Opened (ws ds : List ℕ) (at : ℕ) : Type 0 where
  pub words : ds ≡ ws
  pub ready : Ready ds at
  pub lines : ahead ds at ≡ decode ws
  pub only : OnlyWriting ws

-- no line is left at the index at, and the reader stays there
pub record Ended (ws : List ℕ) (at next : ℕ) : Type 0 where
  pub none : ahead ws at ≡ []
  pub on : next ≡ at

-- the line at the index at is handed out as its eight words vs, with the place p, from 1, of the first, and the reader goes on behind it
pub record Handed (ws : List ℕ) (at next : ℕ) (vs : List ℕ) (p : ℕ) : Type 0 where
  pub words : vs ≡ take 8 (drop at ws)
  pub place : p ≡ at + 1
  pub on : next ≡ at + 8
  pub line : ahead ws at ≡ line_of vs ∷ ahead ws next
  pub room : next < length ws
  pub same : Ready ws at → vs ≡ words_of (line_of vs)
  pub fits : Ready ws at → Fits (line_of vs)
  pub ready : Ready ws at → Ready ws next

-- one step of a reader: it keeps its words, and hands out the next line, if one is left
pub record Steps (before : Reader) (next : Option LineWords) (after : Reader) : Type 0 where
  pub lent : after.words.now ≡ before.words.now
  pub cases : MatchOption next (Ended before.words.now before.at after.at) (λ l. Handed before.words.now before.at after.at l.words.now l.place)
