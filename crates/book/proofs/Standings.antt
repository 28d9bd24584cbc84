-- Rights by their standing: what a payment leaves of it.
use Rattle.std.proofs.Common.{◌≡◌, ℕ, ◌-◌, ◌≤◌, cond, ltb, refl, arith}
use Rattle.std.proofs.lemmas.Bool.{cond_both, cond-true, ltb-true, lt-ltb}
use Rattle.book.specs.declared.right.Right.{Right}
use Rattle.book.specs.declared.right.Standing.{Standing}
use Rattle.book.specs.declared.right.Standing.TheVariants.{Provisional, InForce}
use Rattle.book.specs.Rights.{is_in_force, debt, held, guarantee, confirmed, paying}

abbrev pub standing_so : Right → Standing → Right
standing_so r s = record { serial = r.serial; line = r.line; standing = s }

-- what holds of a right that is provisional, and of one in force, holds of the right
pub by_standing : (P : Right → Type 0) (r : Right) → P (standing_so r Provisional) → ((paid : ℕ) → P (standing_so r (InForce paid))) → P r
by_standing P r off on = elim r.standing as (λ s. P (standing_so r s)) [ Provisional ↦ off | InForce paid ↦ on paid ]

pub in_force-paying : (r : Right) (n : ℕ) → is_in_force (paying r n) ≡ is_in_force r
in_force-paying r n = by_standing (λ x. is_in_force (paying x n) ≡ is_in_force x) r refl (λ paid. refl)

pub debt-paying : (r : Right) (n : ℕ) → debt (paying r n) ≡ debt r - n
debt-paying r n = by_standing (λ x. debt (paying x n) ≡ debt x - n) r (omega arith) (λ paid. omega arith)

held_less : (d e g : ℕ) → d ≤ e → cond (ltb 0 d) g 0 ≤ cond (ltb 0 e) g 0
held_less d e g h = cond_both (ltb 0 d) g 0 (λ x. x ≤ cond (ltb 0 e) g 0) (λ k. omega (arith, ltb-true 0 d k, cond-true (ltb 0 e) g 0 (lt-ltb 0 e (omega (arith, ltb-true 0 d k))))) (λ _. omega arith)

pub held-confirmed : (r : Right) → held (confirmed r) ≤ held r
held-confirmed r = by_standing (λ x. held (confirmed x) ≤ held x) r (cond_both (ltb 0 (r.line.charge - 0)) (guarantee r.line) 0 (λ x. x ≤ guarantee r.line) (λ _. omega arith) (λ _. omega arith)) (λ paid. omega arith)

pub held-paying : (r : Right) (n : ℕ) → held (paying r n) ≤ held r
held-paying r n = by_standing (λ x. held (paying x n) ≤ held x) r (omega arith) (λ paid. held_less _ _ (guarantee r.line) (omega arith))
