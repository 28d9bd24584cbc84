-- Histories: each charge is accounted for.
use Rattle.std.proofs.Common.{◌≡◌, ℕ, suc, ◌+◌, ◌-◌, ◌≤◌, Bool, true, false, cond, not, eqb, List, [], ◌∷◌, ◌++◌, length, Some, None, Option, sym, refl, ap, ◌∙◌, arith}
use Rattle.std.proofs.lemmas.List.Elements.{filter-append}
use Rattle.std.proofs.ByRecursion.{kept_by_passes, All-weaker}
use Rattle.std.proofs.lemmas.List.{append-nil, append_assoc}
use Rattle.std.proofs.lemmas.Bool.{cond-true, cond-false, eq-eqb, ne_eqb}
use Rattle.std.specs.List.{AllByRecursion}
use Rattle.submission.specs.Submissions.{decode}
use Rattle.submission.specs.declared.line.Line.{Line}
use Rattle.book.specs.declared.right.Standing.TheVariants.{Provisional}
use Rattle.book.specs.declared.right.Right.{Right}
use Rattle.book.specs.Market.{Market}
use Rattle.book.proofs.Bounded.{BoundedLines}
use Rattle.book.specs.Rights.{is_in_force, paid_of, confirmed, total, debt, owed, right_of, in_force, provisional, numbered, all_confirmed, paying, paid_on, without, taking, write_off}
use Rattle.book.specs.States.{State}
use Rattle.book.specs.Refusing.{◌then◌}
use Rattle.book.specs.Checks.{capacity_check, propose_check, award_check, pay_check, annul_check, deposit_check, withdraw_check, day_check}
use Rattle.book.specs.Calls.{Call, Outcome, pay_right, annul_right, annul, act}
use Rattle.book.specs.Calls.Call.{Propose, Confirm, Strike, Pay, Annul, Deposit, Withdraw, SetDay}
use Rattle.book.specs.Events.{accepted, taken, written_off, confirming, pays, annuls}
use Rattle.book.specs.Histories.{History, Lived, standing, ever_confirmed, payments, takings, write_offs}
use Rattle.book.specs.Findings.{Accounted}
use Rattle.book.proofs.Lists.{Rising, rising_above, rising_append, rising_front, rising_numbered, all-zip, all_without}
use Rattle.book.proofs.Standings.{by_standing, in_force-paying, debt-paying}
use Rattle.book.proofs.Totals.{total-append, total-without, total-paid, right_of_serial}
use Rattle.book.proofs.Refusals.{then_none}
use Rattle.book.proofs.Sound.{Sound, payable, none_open, by_outcome}
use Rattle.book.proofs.Accounts.{at_event, standing-lived, sound-lived, cond_zero}

-- the charges of rights with a serial
abbrev charge_at : ℕ → Right → ℕ
charge_at s r = cond (eqb r.serial s) r.line.charge 0

abbrev debt_at : ℕ → Right → ℕ
debt_at s r = cond (eqb r.serial s) (debt r) 0

-- what is owed after an event
owed-numbered : (s k : ℕ) (ls : List Line) → owed s (numbered k ls) ≡ 0
owed-numbered s k [] = refl
owed-numbered s k (x ∷ xs) = omega (arith, cond_zero (eqb k s), owed-numbered s (suc k) xs)

becomes_due : (t : Bool) (r : Right) → cond t (cond (not (is_in_force r)) r.line.charge 0) 0 + cond t (debt r) 0 ≡ cond t (debt (confirmed r)) 0
becomes_due true r = by_standing (λ x. cond (not (is_in_force x)) x.line.charge 0 + debt x ≡ debt (confirmed x)) r (omega arith) (λ paid. omega arith)
becomes_due false r = refl

total-provisional : (s : ℕ) (r : Right) (rs : List Right) → total (charge_at s) (provisional (r ∷ rs)) ≡ cond (eqb r.serial s) (cond (not (is_in_force r)) r.line.charge 0) 0 + total (charge_at s) (provisional rs)
total-provisional s r rs =
    elim (is_in_force r) as (λ t. total (charge_at s) (cond (not t) (r ∷ provisional rs) (provisional rs)) ≡ cond (eqb r.serial s) (cond (not t) r.line.charge 0) 0 + total (charge_at s) (provisional rs))
    [ true ↦ omega (arith, cond_zero (eqb r.serial s)) | false ↦ refl ]

owed-confirmed : (s : ℕ) (rs : List Right) → total (charge_at s) (provisional rs) + owed s rs ≡ owed s (all_confirmed rs)
owed-confirmed s [] = omega arith
owed-confirmed s (r ∷ rs) = omega (arith, total-provisional s r rs, becomes_due (eqb r.serial s) r, owed-confirmed s rs)

owed-in_force : (s : ℕ) (rs : List Right) → owed s (in_force rs) ≡ owed s rs
owed-in_force s [] = refl
owed-in_force s (r ∷ rs) =
    let rest = owed-in_force s rs in
    (elim (is_in_force r) as (λ t. is_in_force r ≡ t → owed s (cond t (r ∷ in_force rs) (in_force rs)) ≡ owed s (r ∷ rs)) [
      | true ↦ (λ e. omega arith)
      | false ↦ (λ e. omega (arith, cond_zero (eqb r.serial s), ap (λ z. cond (eqb r.serial s) z 0) (cond-false (is_in_force r) (r.line.charge - (paid_of r)) 0 e)))
    ]) refl

shares : (t : Bool) (a b c : ℕ) → a + b ≡ c → cond t a 0 + cond t b 0 ≡ cond t c 0
shares true a b c h = h
shares false a b c h = omega arith

owed_paid : (s t n : ℕ) (rs : List Right) (r : Right) → right_of t rs ≡ Some r → n ≤ debt r → owed s rs ≡ cond (eqb t s) n 0 + owed s (paid_on t n rs)
owed_paid s t n rs r there enough =
    let whole = total-paid (debt_at s) t n rs r there in
    let split = shares (eqb r.serial s) (debt (paying r n)) n (debt r) (omega (arith, debt-paying r n)) in
    omega (arith, ap (λ z. cond (eqb z s) n 0) (right_of_serial t rs r there))

owed-without : (s t : ℕ) (rs : List Right) (r : Right) → right_of t rs ≡ Some r → owed s rs ≡ owed s (without t rs) + cond (eqb t s) (taking r) 0 + cond (eqb t s) (write_off r) 0
owed-without s t rs r e =
    let whole = total-without (debt_at s) t rs r e in
    let split = shares (eqb r.serial s) (taking r) (write_off r) (debt r) (omega arith) in
    omega (arith, ap (λ z. cond (eqb z s) (taking r) 0) (right_of_serial t rs r e), ap (λ z. cond (eqb z s) (write_off r) 0) (right_of_serial t rs r e))

-- one call moves what is owed by what it confirms, pays, takes and writes off
abbrev Owes : ℕ → State → Call → Outcome → Type 0
Owes s b c o =
    total (charge_at s) (cond (accepted o.answer) (confirming b.rights c) []) + owed s b.rights
    ≡ cond (accepted o.answer) (pays s c) 0 + owed s o.after.rights + cond (annuls s c) (taken o.answer) 0 + cond (annuls s c) (written_off o.answer) 0

module _ (m : Market) (b : State) (is : Sound m b) (s : ℕ) where
  owes_annul : (t : ℕ) → Owes s b (Annul t) (annul m b t)
  owes_annul t = go (right_of t b.rights) refl
    where
      go : (o : Option Right) → right_of t b.rights ≡ o → Owes s b (Annul t) (annul_right m b t o)
      go None e = omega (arith, cond_zero (eqb t s))
      go (Some r) e =
          by_outcome (Owes s b (Annul t)) (annul_check m b r then capacity_check m (without t b.rights)) b _ _
          (λ e. omega (arith, cond_zero (eqb t s))) (λ h. omega (arith, owed-without s t b.rights r e))

  owes_act : (c : Call) → Owes s b c (act m b c)
  owes_act (Propose ws) =
      by_outcome (Owes s b (Propose ws)) (propose_check m b ws then capacity_check m (b.rights ++ numbered b.next (decode ws))) b _ _ (λ e. omega arith)
      (λ h. omega (arith, total-append (debt_at s) b.rights (numbered b.next (decode ws)), owed-numbered s b.next (decode ws)))
  owes_act (Confirm book first lines) =
      by_outcome (Owes s b (Confirm book first lines)) (award_check b book first lines) b _ _ (λ e. omega arith) (λ h. omega (arith, owed-confirmed s b.rights))
  owes_act (Strike book first lines) =
      by_outcome (Owes s b (Strike book first lines)) (award_check b book first lines) b _ _ (λ e. omega arith) (λ h. omega (arith, owed-in_force s b.rights))
  owes_act (Pay t amount) = go (right_of t b.rights) refl
    where
      go : (o : Option Right) → right_of t b.rights ≡ o → Owes s b (Pay t amount) (pay_right b t amount o)
      go None e = omega arith
      go (Some r) e =
          by_outcome (Owes s b (Pay t amount)) (pay_check amount r) b _ _ (λ _. omega arith)
          (λ h. let p = payable amount r h in omega (arith, owed_paid s t amount b.rights r e p.1))
  owes_act (Annul t) = owes_annul t
  owes_act (Deposit x amount) = by_outcome (Owes s b (Deposit x amount)) (deposit_check b x amount) b _ _ (λ e. omega arith) (λ h. omega arith)
  owes_act (Withdraw x amount) = by_outcome (Owes s b (Withdraw x amount)) (withdraw_check b x amount) b _ _ (λ e. omega arith) (λ h. omega arith)
  owes_act (SetDay d) = by_outcome (Owes s b (SetDay d)) (day_check b d) b _ _ (λ e. omega arith) (λ h. omega arith)

charges-lived : (m : Market) → BoundedLines m → (n : ℕ) (h : History) (b : State) → Lived m n h b → (s : ℕ) → total (charge_at s) (ever_confirmed h) ≡ payments s h + owed s b.rights + takings s h + write_offs s h
charges-lived m law n [] b l s = omega (arith, ap (λ z. owed s z.rights) l)
charges-lived m law n (e ∷ h) b l s =
    let before = l.0 in
    let one = at_event (Owes s before e.call) (act m before e.call) e.answer b l.2 l.3 (owes_act m before (sound-lived m law n h before l.1) s e.call) in
    let rest = charges-lived m law n h before l.1 s in
    let same = ap (λ rs. total (charge_at s) (cond (accepted e.answer) (confirming rs e.call) [])) (standing-lived m n h before l.1) in
    omega (arith, total-append (charge_at s) (ever_confirmed h) (cond (accepted e.answer) (confirming (standing h) e.call) []))

-- the serials of the rights ever confirmed rise, and those of the provisional ones behind them
provisional-confirmed : (rs : List Right) → provisional (all_confirmed rs) ≡ []
provisional-confirmed [] = refl
provisional-confirmed (r ∷ rs) = provisional-confirmed rs

provisional-numbered : (k : ℕ) (ls : List Line) → provisional (numbered k ls) ≡ numbered k ls
provisional-numbered k [] = refl
provisional-numbered k (x ∷ xs) = ap (λ rs. record { serial = k; line = x; standing = Provisional } ∷ rs) (provisional-numbered (suc k) xs)

provisional_none : (rs : List Right) → AllByRecursion (λ r. is_in_force r ≡ true) rs → provisional rs ≡ []
provisional_none [] h = refl
provisional_none (r ∷ rs) h = ap (λ t. cond (not t) (r ∷ provisional rs) (provisional rs)) h.0 ∙ provisional_none rs h.1

provisional-paid : (s n : ℕ) (rs : List Right) (r : Right) → right_of s rs ≡ Some r → is_in_force r ≡ true → provisional (paid_on s n rs) ≡ provisional rs
provisional-paid s n [] r e live = refl
provisional-paid s n (y ∷ rs) r e live =
    (elim (eqb y.serial s) as (λ t. cond t (Some y) (right_of s rs) ≡ Some r → provisional (cond t (paying y n ∷ rs) (y ∷ paid_on s n rs)) ≡ provisional (y ∷ rs)) [
      | true ↦ (λ k. let q : y ≡ r = cc in let on : is_in_force y ≡ true = ap is_in_force q ∙ live in
          ap (λ t. cond (not t) (paying y n ∷ provisional rs) (provisional rs)) (in_force-paying y n ∙ on) ∙ sym (ap (λ t. cond (not t) (y ∷ provisional rs) (provisional rs)) on))
      | false ↦ (λ k. ap (λ xs. cond (not (is_in_force y)) (y ∷ xs) xs) (provisional-paid s n rs r k live))
    ]) e

abbrev Ordered : List Right → State → Call → Outcome → Type 0
Ordered ec b c o = Rising 0 ((ec ++ cond (accepted o.answer) (confirming b.rights c) []) ++ provisional o.after.rights) o.after.next

module _ (m : Market) (b : State) (is : Sound m b) (ec : List Right) (up : Rising 0 (ec ++ provisional b.rights) b.next) where
  ordered_same : Rising 0 ((ec ++ []) ++ provisional b.rights) b.next
  ordered_same = rw append-nil up

  ordered_front : (xs : List Right) → xs ≡ [] → Rising 0 ((ec ++ []) ++ xs) b.next
  ordered_front xs e = simp (e, append-nil) (rising_front 0 b.next ec (provisional b.rights) up)

  ordered_annul : (t : ℕ) → Ordered ec b (Annul t) (annul m b t)
  ordered_annul t = go (right_of t b.rights)
    where
      go : (o : Option Right) → Ordered ec b (Annul t) (annul_right m b t o)
      go None = ordered_same
      go (Some r) =
          by_outcome (Ordered ec b (Annul t)) (annul_check m b r then capacity_check m (without t b.rights)) b _ _ (λ e. ordered_same)
          (λ h.
          let p = then_none (annul_check m b r) _ h in
          ordered_front (provisional (without t b.rights)) (provisional_none (without t b.rights) (all_without (λ r. is_in_force r ≡ true) t b.rights (is.settled (none_open m b r p.0)))))

  ordered_act : (c : Call) → Ordered ec b c (act m b c)
  ordered_act (Propose ws) =
      by_outcome (Ordered ec b (Propose ws)) (propose_check m b ws then capacity_check m (b.rights ++ numbered b.next (decode ws))) b _ _ (λ e. ordered_same)
      (λ h. rw (append-nil, filter-append (λ r. not (is_in_force r)) b.rights (numbered b.next (decode ws)), provisional-numbered b.next (decode ws), ← append_assoc ec (provisional b.rights) (numbered b.next (decode ws)))
      (rising_append 0 b.next (b.next + length (decode ws)) (ec ++ provisional b.rights) (numbered b.next (decode ws)) up (rising_numbered b.next (decode ws))))
  ordered_act (Confirm book first lines) =
      by_outcome (Ordered ec b (Confirm book first lines)) (award_check b book first lines) b _ _ (λ e. ordered_same) (λ h. rw (provisional-confirmed b.rights, append-nil) up)
  ordered_act (Strike book first lines) =
      by_outcome (Ordered ec b (Strike book first lines)) (award_check b book first lines) b _ _ (λ e. ordered_same)
      (λ h. ordered_front (provisional (in_force b.rights)) (provisional_none (in_force b.rights) (kept_by_passes is_in_force b.rights)))
  ordered_act (Pay t amount) = go (right_of t b.rights) refl
    where
      go : (o : Option Right) → right_of t b.rights ≡ o → Ordered ec b (Pay t amount) (pay_right b t amount o)
      go None e = ordered_same
      go (Some r) e =
          by_outcome (Ordered ec b (Pay t amount)) (pay_check amount r) b _ _ (λ _. ordered_same)
          (λ h. rw (provisional-paid t amount b.rights r e (payable amount r h).0) ordered_same)
  ordered_act (Annul t) = ordered_annul t
  ordered_act (Deposit x amount) = by_outcome (Ordered ec b (Deposit x amount)) (deposit_check b x amount) b _ _ (λ e. ordered_same) (λ h. ordered_same)
  ordered_act (Withdraw x amount) = by_outcome (Ordered ec b (Withdraw x amount)) (withdraw_check b x amount) b _ _ (λ e. ordered_same) (λ h. ordered_same)
  ordered_act (SetDay d) = by_outcome (Ordered ec b (SetDay d)) (day_check b d) b _ _ (λ e. ordered_same) (λ h. ordered_same)

ordered_lived : (m : Market) → BoundedLines m → (n : ℕ) (h : History) (b : State) → Lived m n h b → Rising 0 (ever_confirmed h ++ provisional b.rights) b.next
ordered_lived m law n [] b l = rw l (omega arith)
ordered_lived m law n (e ∷ h) b l =
    let before = l.0 in
    rw (standing-lived m n h before l.1)
    (at_event (Ordered (ever_confirmed h) before e.call) (act m before e.call) e.answer b l.2 l.3
    (ordered_act m before (sound-lived m law n h before l.1) (ever_confirmed h) (ordered_lived m law n h before l.1) e.call))

-- where serials rise, the charges with a right's serial are its own
none_below : (s : ℕ) (rs : List Right) → AllByRecursion (λ r. suc s ≤ r.serial) rs → total (charge_at s) rs ≡ 0
none_below s [] h = refl
none_below s (r ∷ rs) h =
    let low = h.0 in
    omega (arith, cond-false (eqb r.serial s) r.line.charge 0 (ne_eqb r.serial s (λ e. omega arith)), none_below s rs h.1)

alone : (lo : ℕ) (rs : List Right) (hi : ℕ) → Rising lo rs hi → AllByRecursion (λ r. total (charge_at r.serial) rs ≡ r.line.charge) rs
alone lo [] hi h = tt
alone lo (r ∷ rs) hi h =
    let above = rising_above (suc r.serial) (suc r.serial) rs hi (omega arith) h.1 in (
      omega (arith, cond-true (eqb r.serial r.serial) r.line.charge 0 (eq-eqb r.serial r.serial refl), none_below r.serial rs above),
      all-zip (λ x. suc r.serial ≤ x.serial) (λ x. total (charge_at x.serial) rs ≡ x.line.charge) (λ x. total (charge_at x.serial) (r ∷ rs) ≡ x.line.charge)
          (λ x k e. omega (arith, cond-false (eqb r.serial x.serial) r.line.charge 0 (ne_eqb r.serial x.serial (λ q. omega arith))))
          rs above (alone (suc r.serial) rs hi h.1),
    )

pub accounted_lived : (m : Market) → BoundedLines m → (n : ℕ) (h : History) (b : State) → Lived m n h b → AllByRecursion (Accounted h b) (ever_confirmed h)
accounted_lived m law n h b l =
    All-weaker (λ r. total (charge_at r.serial) (ever_confirmed h) ≡ r.line.charge) (Accounted h b)
    (λ r e. omega (arith, charges-lived m law n h b l r.serial))
    (ever_confirmed h) (alone 0 (ever_confirmed h) b.next (rising_front 0 b.next (ever_confirmed h) (provisional b.rights) (ordered_lived m law n h b l)))
