-- Histories: the rights that stand are the state's, and each holder's account is accounted for.
use Rattle.std.proofs.Common.{◌≡◌, ℕ, ◌+◌, ◌-◌, ◌≤◌, Bool, true, false, cond, eqb, [], ◌∷◌, ◌++◌, replicate, Some, None, Option, sym, refl, ap, ◌∙◌, subst, inl, inr, arith}
use Rattle.std.proofs.lemmas.List.{get_or_past, get_or-replicate}
use Rattle.std.proofs.lemmas.Bool.{cases_lt, eqb-true, leb-false}
use Rattle.submission.specs.Submissions.{decode}
use Rattle.book.specs.declared.right.Right.{Right}
use Rattle.book.specs.Market.{Market}
use Rattle.book.proofs.Bounded.{BoundedLines}
use Rattle.book.specs.Rights.{right_of, numbered, without, taking}
use Rattle.book.specs.States.{State, fresh, balance}
use Rattle.book.specs.Refusing.{◌then◌}
use Rattle.book.specs.Checks.{capacity_check, holder_check, propose_check, award_check, pay_check, annul_check, deposit_check, withdraw_check, day_check}
use Rattle.book.specs.Calls.{Call, Answer, Outcome, pay_right, annul_right, annul, act}
use Rattle.book.specs.Calls.Call.{Propose, Confirm, Strike, Pay, Annul, Deposit, Withdraw, SetDay}
use Rattle.book.specs.Events.{accepted, noted, taken, pays_in, draws, of_holder, annuls_of}
use Rattle.book.specs.Histories.{History, Lived, standing, deposits, withdrawals, takings_from}
use Rattle.book.proofs.Totals.{balance-set}
use Rattle.book.proofs.Refusals.{then_none, refuse_none}
use Rattle.book.proofs.Sound.{Sound, sound-fresh, sound-act, by_outcome, taking_le, drawable}

-- what holds of a call's outcome, from what holds of a refusal and of what it grants
abbrev Noted : State → Call → Outcome → Type 0
Noted b c o = cond (accepted o.answer) (noted b.rights c o.answer) b.rights ≡ o.after.rights

noted-act : (m : Market) (b : State) (c : Call) → Noted b c (act m b c)
noted-act m b (Propose ws) = by_outcome (Noted b (Propose ws)) (propose_check m b ws then capacity_check m (b.rights ++ numbered b.next (decode ws))) b _ _ (λ e. refl) (λ h. refl)
noted-act m b (Confirm book first lines) = by_outcome (Noted b (Confirm book first lines)) (award_check b book first lines) b _ _ (λ e. refl) (λ h. refl)
noted-act m b (Strike book first lines) = by_outcome (Noted b (Strike book first lines)) (award_check b book first lines) b _ _ (λ e. refl) (λ h. refl)
noted-act m b (Pay s amount) = go (right_of s b.rights)
  where
    go : (o : Option Right) → Noted b (Pay s amount) (pay_right b s amount o)
    go None = refl
    go (Some r) = by_outcome (Noted b (Pay s amount)) (pay_check amount r) b _ _ (λ e. refl) (λ h. refl)
noted-act m b (Annul s) = go (right_of s b.rights)
  where
    go : (o : Option Right) → Noted b (Annul s) (annul_right m b s o)
    go None = refl
    go (Some r) = by_outcome (Noted b (Annul s)) (annul_check m b r then capacity_check m (without s b.rights)) b _ _ (λ e. refl) (λ h. refl)
noted-act m b (Deposit x amount) = by_outcome (Noted b (Deposit x amount)) (deposit_check b x amount) b _ _ (λ e. refl) (λ h. refl)
noted-act m b (Withdraw x amount) = by_outcome (Noted b (Withdraw x amount)) (withdraw_check b x amount) b _ _ (λ e. refl) (λ h. refl)
noted-act m b (SetDay d) = by_outcome (Noted b (SetDay d)) (day_check b d) b _ _ (λ e. refl) (λ h. refl)

-- what holds of the outcome holds of the event and of the state after it
pub at_event : (P : Outcome → Type 0) (o : Outcome) (a : Answer) (d : State) → a ≡ o.answer → d ≡ o.after → P o → P (record { answer = a; after = d })
at_event P o a d ea ed p = subst (λ x. P (record { answer = x; after = d })) (sym ea) (subst (λ x. P (record { answer = o.answer; after = x })) (sym ed) p)

pub standing-lived : (m : Market) (n : ℕ) (h : History) (b : State) → Lived m n h b → standing h ≡ b.rights
standing-lived m n [] b l = sym (ap (λ z. z.rights) l)
standing-lived m n (e ∷ h) b l =
    ap (λ rs. cond (accepted e.answer) (noted rs e.call e.answer) rs) (standing-lived m n h l.0 l.1)
    ∙ at_event (Noted l.0 e.call) (act m l.0 e.call) e.answer b l.2 l.3 (noted-act m l.0 e.call)

pub sound-lived : (m : Market) → BoundedLines m → (n : ℕ) (h : History) (b : State) → Lived m n h b → Sound m b
sound-lived m law n [] b l = subst (Sound m) (sym l) (sound-fresh m law n)
sound-lived m law n (e ∷ h) b l = subst (Sound m) (sym l.3) (sound-act m l.0 (sound-lived m law n h l.0 l.1) e.call)

-- one call moves a balance by what it pays in, draws and takes
abbrev Moved : ℕ → State → Call → Outcome → Type 0
Moved x b c o = cond (accepted o.answer) (pays_in x c) 0 + balance b x ≡ cond (accepted o.answer) (draws x c) 0 + cond (annuls_of x b.rights c) (taken o.answer) 0 + balance o.after x

pub cond_zero : (t : Bool) → ◌≡◌ {A = ℕ} (cond t 0 0) 0
cond_zero true = refl
cond_zero false = refl

rises : (t : Bool) (n mine other : ℕ) → (t ≡ true → other ≡ mine) → cond t n 0 + mine ≡ cond t (other + n) mine
rises true n mine other e = let q = e refl in omega arith
rises false n mine other e = omega arith

falls : (t : Bool) (n mine other : ℕ) → n ≤ other → (t ≡ true → other ≡ mine) → mine ≡ cond t n 0 + cond t (other - n) mine
falls true n mine other h e = let q = e refl in omega arith
falls false n mine other h e = omega arith

module _ (m : Market) (b : State) (is : Sound m b) (x : ℕ) where
  moved_annul : (s : ℕ) → Moved x b (Annul s) (annul m b s)
  moved_annul s = go (right_of s b.rights) refl
    where
      go : (o : Option Right) → right_of s b.rights ≡ o → cond (accepted (annul_right m b s o).answer) 0 0 + balance b x ≡ cond (accepted (annul_right m b s o).answer) 0 0 + cond (of_holder x o) (taken (annul_right m b s o).answer) 0 + balance (annul_right m b s o).after x
      go None e = omega arith
      go (Some r) e =
          by_outcome (λ o. cond (accepted o.answer) 0 0 + balance b x ≡ cond (accepted o.answer) 0 0 + cond (eqb r.line.holder x) (taken o.answer) 0 + balance o.after x)
          (annul_check m b r then capacity_check m (without s b.rights)) b _ _
          (λ e. omega (arith, cond_zero (eqb r.line.holder x)))
          (λ h.
          let there = taking_le m b is s r e in
          omega (
            arith,
            falls (eqb r.line.holder x) (taking r) (balance b x) (balance b r.line.holder) (omega arith) (λ t. ap (balance b) (eqb-true r.line.holder x t)),
            balance-set b.balances r.line.holder x (balance b r.line.holder - taking r) (λ l. let z = get_or_past b.balances r.line.holder 0 l in omega arith),
          ))

  moved_act : (c : Call) → Moved x b c (act m b c)
  moved_act (Propose ws) = by_outcome (Moved x b (Propose ws)) (propose_check m b ws then capacity_check m (b.rights ++ numbered b.next (decode ws))) b _ _ (λ e. omega arith) (λ h. omega arith)
  moved_act (Confirm book first lines) = by_outcome (Moved x b (Confirm book first lines)) (award_check b book first lines) b _ _ (λ e. omega arith) (λ h. omega arith)
  moved_act (Strike book first lines) = by_outcome (Moved x b (Strike book first lines)) (award_check b book first lines) b _ _ (λ e. omega arith) (λ h. omega arith)
  moved_act (Pay s amount) = go (right_of s b.rights)
    where
      go : (o : Option Right) → Moved x b (Pay s amount) (pay_right b s amount o)
      go None = omega arith
      go (Some r) = by_outcome (Moved x b (Pay s amount)) (pay_check amount r) b _ _ (λ e. omega arith) (λ h. omega arith)
  moved_act (Annul s) = moved_annul s
  moved_act (Deposit y amount) =
      by_outcome (Moved x b (Deposit y amount)) (deposit_check b y amount) b _ _ (λ e. omega arith)
      (λ h.
      let p = then_none (holder_check y) _ h in
      let inside = leb-false 32 y (refuse_none _ _ p.0) in
      omega (arith, rises (eqb y x) amount (balance b x) (balance b y) (λ t. ap (balance b) (eqb-true y x t)), balance-set b.balances y x (balance b y + amount) (λ l. absurd (omega (arith, is.holders)))))
  moved_act (Withdraw y amount) =
      by_outcome (Moved x b (Withdraw y amount)) (withdraw_check b y amount) b _ _ (λ e. omega arith)
      (λ h.
      let low = drawable b y amount h in
      omega (arith, falls (eqb y x) amount (balance b x) (balance b y) (omega arith) (λ t. ap (balance b) (eqb-true y x t)), balance-set b.balances y x (balance b y - amount) (λ l. let z = get_or_past b.balances y 0 l in omega arith)))
  moved_act (SetDay d) = by_outcome (Moved x b (SetDay d)) (day_check b d) b _ _ (λ e. omega arith) (λ h. omega arith)

balance-fresh : (n x : ℕ) → balance (fresh n) x ≡ 0
balance-fresh n x = elim (cases_lt x 32) [ inl h ↦ get_or-replicate 32 x 0 0 h | inr h ↦ get_or_past (replicate 32 0) x 0 h ]

pub accounts-lived : (m : Market) → BoundedLines m → (n : ℕ) (h : History) (b : State) → Lived m n h b → (x : ℕ) → deposits x h ≡ withdrawals x h + takings_from x h + balance b x
accounts-lived m law n [] b l x = omega (arith, ap (λ z. balance z x) l, balance-fresh n x)
accounts-lived m law n (e ∷ h) b l x =
    let before = l.0 in
    let one = at_event (Moved x before e.call) (act m before e.call) e.answer b l.2 l.3 (moved_act m before (sound-lived m law n h before l.1) x e.call) in
    let rest = accounts-lived m law n h before l.1 x in
    omega (arith, ap (λ rs. cond (annuls_of x rs e.call) (taken e.answer) 0) (standing-lived m n h before l.1))
