-- A node's prices, set month by month.
use Rattle.std.proofs.Common.{◌≡◌, ℕ, zero, suc, ◌+◌, ◌-◌, ◌≤◌, true, List, [], ◌∷◌, ℤ, is_ok, Ok, Err, Result, sym, refl, ap, ◌∙◌, subst, arith, length-append}
use Rattle.terms.specs.declared.refusal.Refusal.{Refusal}
use Rattle.calendar.specs.declared.calendar.Calendar.{Calendar}
use Rattle.calendar.specs.Figures.{Figures, NodeFigures, figures, node_count, HasNode}
use Rattle.calendar.specs.Calls.{with_node, with_price, repriced, PriceFits, SetsPrice}
use Rattle.demonstration.proofs.Lists.{at_last}

-- a price of a node in the first n months
abbrev pub priced : ℕ → ℕ → ℤ → Figures → Figures
priced zero node price f = f
priced (suc n) node price f = with_price (priced n node price f) node (suc n) price

abbrev pub prices-set : ℕ → ℤ → NodeFigures → NodeFigures
prices-set zero price x = x
prices-set (suc n) price x = repriced (suc n) price (prices-set n price x)

-- one month more
pub price_on : (month node : ℕ) (price : ℤ) (start before after : Figures) → 1 ≤ month
    → before ≡ priced (month - 1) node price start → after ≡ with_price before node month price
    → after ≡ priced (month + 1 - 1) node price start
price_on zero node price start before after h p q = let z : ⊥ = omega arith in elim z [ ]
price_on (suc k) node price start before after h p q =
    let S : ℕ → Figures = λ n. priced n node price start in
    let W : Figures → Figures = λ g. with_price g node (suc k) price in
    let low : suc k - 1 ≡ k = omega arith in
    let high : suc k ≡ suc k + 1 - 1 = omega arith in
    q ∙ ap W (p ∙ ap S low) ∙ ap S high

-- a price of the node that was added last
priced_last : (f : Figures) (x : NodeFigures) (month : ℕ) (price : ℤ) → with_price (with_node f x) (node_count f) month price ≡ with_node f (repriced month price x)
priced_last f x month price =
    let L : List NodeFigures → Figures = λ ns. record { nodes = ns; limits = f.limits; months = f.months } in
    ap L (at_last (repriced month price) f.nodes x)

priced_all : (n : ℕ) (f : Figures) (x : NodeFigures) (price : ℤ) → priced n (node_count f) price (with_node f x) ≡ with_node f (prices-set n price x)
priced_all zero f x price = refl
priced_all (suc n) f x price =
    let W : Figures → Figures = λ g. with_price g (node_count f) (suc n) price in
    ap W (priced_all n f x price) ∙ priced_last f (prices-set n price x) (suc n) price

-- the figures while the prices of the last node are set
pub shown : (n : ℕ) (f : Figures) (x : NodeFigures) (node : ℕ) (price : ℤ) (start now : Figures) → node ≡ node_count f
    → start ≡ with_node f x → now ≡ priced n node price start → now ≡ with_node f (prices-set n price x)
shown n f x node price start now e p q =
    let S : Figures → Figures = λ g. priced n node price g in
    let N : ℕ → Figures = λ k. priced n k price (with_node f x) in
    q ∙ ap S p ∙ ap N e ∙ priced_all n f x price

-- the last node is there
pub has_last : (f g : Figures) (x : NodeFigures) (node : ℕ) → node ≡ node_count f → g ≡ with_node f x → HasNode g node
has_last f g x node e p =
    let H : Figures → Type 0 = λ h. HasNode h node in
    let there : H (with_node f x) = omega (arith, length-append f.nodes (x ∷ [])) in
    subst H (sym p) there

-- a price that fits is set
pub price_ok : (before after : Calendar) (node month : ℕ) (price : ℤ) (r : Result (Unit {0}) Refusal)
    → PriceFits (figures before) node month price → SetsPrice before node month price r after → is_ok r ≡ true
price_ok before after node month price (Ok u) fits b = refl
price_ok before after node month price (Err e) fits b = let z : ⊥ = b.0 fits in elim z [ ]
