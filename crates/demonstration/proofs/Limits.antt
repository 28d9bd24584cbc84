-- A limit added with all its marks.
use Rattle.std.proofs.Common.{◌≡◌, ℕ, ◌+◌, ◌-◌, List, [], ◌∷◌, ◌++◌, replicate, Some, ap, ◌∙◌, arith}
use Rattle.calendar.specs.declared.kinds.LimitKind.{LimitKind}
use Rattle.calendar.specs.declared.kinds.Direction.{Direction}
use Rattle.calendar.specs.declared.kinds.LimitKind.TheVariants.{Export, Import, Wheeling}
use Rattle.calendar.specs.declared.kinds.Direction.TheVariants.{Southward, Northward}
use Rattle.calendar.specs.Kinds.{kind_numbered, direction_numbered, number_of_kind, number_of_direction}
use Rattle.calendar.specs.Figures.{Figures, LimitFigures, limit_count}
use Rattle.calendar.specs.Calls.{changed, with_limit, with_row, rerowed, NumberedLimit}
use Rattle.demonstration.specs.Calendars.{full_limit}
use Rattle.demonstration.proofs.Lists.{at_last}

-- a kind and a direction by their numbers
pub kind_of_number : (k : LimitKind) (n : ℕ) → n ≡ number_of_kind k → kind_numbered n ≡ Some k
kind_of_number Export n e = ap kind_numbered e
kind_of_number Import n e = ap kind_numbered e
kind_of_number Wheeling n e = ap kind_numbered e

pub direction_of_number : (d : Direction) (n : ℕ) → n ≡ number_of_direction d → direction_numbered n ≡ Some d
direction_of_number Southward n e = ap direction_numbered e
direction_of_number Northward n e = ap direction_numbered e

-- the row of the limit that was added last
row_last : (f : Figures) (l : LimitFigures) (limit row : ℕ) → limit ≡ limit_count f + 1 → with_row (with_limit f l) limit row ≡ with_limit f (rerowed row l)
row_last f l limit row e =
    let L : List LimitFigures → Figures = λ ls. record { nodes = f.nodes; limits = ls; months = f.months } in
    let at : limit_count f + 1 - 1 ≡ limit_count f = omega arith in
    let M : ℕ → Figures = λ n. L (changed n (rerowed row) (f.limits ++ l ∷ [])) in
    let W : ℕ → Figures = λ n. with_row (with_limit f l) n row in
    ap W e ∙ ap M at ∙ ap L (at_last (rerowed row) f.limits l)

-- a limit of these numbers with all marks
full : (l : LimitFigures) (kind direction value : ℕ) (k : LimitKind) (d : Direction) → NumberedLimit kind 1 direction (replicate 12 value) l
    → kind_numbered kind ≡ Some k → direction_numbered direction ≡ Some d → rerowed 1073741823 l ≡ full_limit k d value
full l kind direction value k d n p q =
    let F : LimitKind → ℕ → Direction → List ℕ → LimitFigures = λ k a d v. record { kind = k; area = a; direction = d; values = v; row = 1073741823 } in
    let same_kind : l.kind ≡ k = cc n.0 in
    let same-direction : l.direction ≡ d = cc n.2 in
    let K : LimitKind → LimitFigures = λ x. F x l.area l.direction l.values in
    let A : ℕ → LimitFigures = λ x. F k x l.direction l.values in
    let D : Direction → LimitFigures = λ x. F k 1 x l.values in
    let V : List ℕ → LimitFigures = λ x. F k 1 d x in
    ap K same_kind ∙ ap A n.1 ∙ ap D same-direction ∙ ap V n.3

-- the limit is added, and then its marks are set
pub limit_full : (f g h : Figures) (l : LimitFigures) (limit kind direction value : ℕ) → limit ≡ limit_count f + 1
    → NumberedLimit kind 1 direction (replicate 12 value) l → g ≡ with_limit f l → h ≡ with_row g limit 1073741823
    → (k : LimitKind) (d : Direction) → kind_numbered kind ≡ Some k → direction_numbered direction ≡ Some d → h ≡ with_limit f (full_limit k d value)
limit_full f g h l limit kind direction value e n p q k d a b =
    let R : Figures → Figures = λ x. with_row x limit 1073741823 in
    let W : LimitFigures → Figures = λ x. with_limit f x in
    q ∙ ap R p ∙ row_last f l limit 1073741823 e ∙ ap W (full l kind direction value k d n a b)
