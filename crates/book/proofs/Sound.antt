-- What every ledger keeps, call by call.
use Rattle.std.proofs.Common.{◌≡◌, ℕ, suc, ◌+◌, ◌-◌, ◌≤◌, Bool, true, false, cond, eqb, ltb, List, [], ◌∷◌, ◌++◌, length, ℤ, pos, ◌+ℤ◌, ◌≤ℤ◌, is_some, Some, None, filter, Option, sym, refl, ap, ◌∙◌, subst, arith, length-set}
use Rattle.std.proofs.lemmas.List.Elements.{filter-append}
use Rattle.std.proofs.ByRecursion.{All-append, all_kept_by, kept_by_passes}
use Rattle.std.proofs.lemmas.List.{append-nil, get_or_past}
use Rattle.std.proofs.lemmas.Int.{ints}
use Rattle.std.proofs.lemmas.Bool.{cond_both, cond-true, eq-eqb, eqb-true, leb-false, ltb-false, or_parts, not-false, both_ways}
use Rattle.std.specs.List.{AllByRecursion}
use Rattle.submission.specs.Submissions.{decode}
use Rattle.submission.specs.declared.line.Line.{Line}
use Rattle.book.specs.declared.right.Right.{Right}
use Rattle.terms.specs.declared.refusal.Refusal.{Refusal}
use Rattle.book.specs.Market.{Market}
use Rattle.book.proofs.Bounded.{BoundedLines}
use Rattle.book.specs.Rights.{is_in_force, debt, held, held_of, right_of, in_force, numbered, confirmed, all_confirmed, paying, paid_on, without, taking}
use Rattle.book.specs.Loads.{counts, factor, worst_at, bound, load}
use Rattle.book.specs.Forms.{form_check}
use Rattle.book.specs.States.{State, fresh, balance, free_part, with_balance}
use Rattle.book.specs.Refusing.{◌then◌}
use Rattle.book.specs.Checks.{capacity_check, lines_check, open_check, known_check, holder_check, propose_check, award_check, pay_check, annul_check, deposit_check, withdraw_check, day_check}
use Rattle.book.specs.Calls.{Call, Answer, Outcome, outcome, propose, confirm, strike, pay_right, pay, annul_right, annul, deposit, withdraw, set_day, act}
use Rattle.book.specs.Calls.Call.{Propose, Confirm, Strike, Pay, Annul, Deposit, Withdraw, SetDay}
use Rattle.book.specs.Calls.Answer.{Refused}
use Rattle.book.proofs.Lists.{Rising, rising_append, rising_numbered, rising_kept, rising_confirmed, rising_paid, rising_without, all_confirmed-all, all_paid, all_without, all-numbered}
use Rattle.book.proofs.Standings.{in_force-paying}
use Rattle.book.proofs.Totals.{total-append, total-kept_le, total-without, held_of-confirmed, held_of-paid, held_of-numbered, balance-set}
use Rattle.book.proofs.Worst.{Small, Fits}
use Rattle.book.proofs.Refusals.{then_none, refuse_none}
use Rattle.book.proofs.Checks.{fits_from_check, small_from_lines, covered_from_lines}

-- loads and rights in force, after an event
pub kept-all : {X : Type 0} (test : X → Bool) (xs : List X) → AllByRecursion (λ x. test x ≡ true) xs → filter test xs ≡ xs
kept-all test [] h = refl
kept-all test (x ∷ xs) h = ap (λ t. cond t (x ∷ filter test xs) (filter test xs)) h.0 ∙ ap (λ ys. x ∷ ys) (kept-all test xs h.1)

pub in_force-confirmed : (rs : List Right) → in_force (all_confirmed rs) ≡ all_confirmed rs
in_force-confirmed [] = refl
in_force-confirmed (r ∷ rs) = ap (λ xs. confirmed r ∷ xs) (in_force-confirmed rs)

in_force-numbered : (k : ℕ) (ls : List Line) → in_force (numbered k ls) ≡ []
in_force-numbered k [] = refl
in_force-numbered k (x ∷ xs) = in_force-numbered (suc k) xs

pub in_force-awarded : (rs : List Right) (k : ℕ) (ls : List Line) → in_force (rs ++ numbered k ls) ≡ in_force rs
in_force-awarded rs k ls = filter-append is_in_force rs (numbered k ls) ∙ ap (λ xs. in_force rs ++ xs) (in_force-numbered k ls) ∙ append-nil (in_force rs)

module _ (m : Market) (month limit : ℕ) where
  abbrev one_load : Right → ℤ
  one_load r = cond (counts m month limit r.line) (worst_at m r.line.power (factor m month limit r.line)) (pos 0)

  load-confirmed : (rs : List Right) → load m month limit (all_confirmed rs) ≡ load m month limit rs
  load-confirmed [] = refl
  load-confirmed (r ∷ rs) = ap (λ z. one_load r +ℤ z) (load-confirmed rs)

  load-paid : (s n : ℕ) (rs : List Right) → load m month limit (paid_on s n rs) ≡ load m month limit rs
  load-paid s n [] = refl
  load-paid s n (r ∷ rs) =
      cond_both (eqb r.serial s) (paying r n ∷ rs) (r ∷ paid_on s n rs) (λ xs. load m month limit xs ≡ load m month limit (r ∷ rs)) (λ _. refl) (λ _. ap (λ z. one_load r +ℤ z) (load-paid s n rs))

  load-in_force-paid : (s n : ℕ) (rs : List Right) → load m month limit (in_force (paid_on s n rs)) ≡ load m month limit (in_force rs)
  load-in_force-paid s n [] = refl
  load-in_force-paid s n (r ∷ rs) =
      cond_both (eqb r.serial s) (paying r n ∷ rs) (r ∷ paid_on s n rs) (λ xs. load m month limit (in_force xs) ≡ load m month limit (in_force (r ∷ rs)))
      (λ _. ap (λ t. load m month limit (cond t (paying r n ∷ in_force rs) (in_force rs))) (in_force-paying r n) ∙ (elim (is_in_force r) as (λ t. load m month limit (cond t (paying r n ∷ in_force rs) (in_force rs)) ≡ load m month limit (cond t (r ∷ in_force rs) (in_force rs))) [ true ↦ refl | false ↦ refl ]))
      (λ _. elim (is_in_force r) as (λ t. load m month limit (cond t (r ∷ in_force (paid_on s n rs)) (in_force (paid_on s n rs))) ≡ load m month limit (cond t (r ∷ in_force rs) (in_force rs)))
      [ true ↦ ap (λ z. one_load r +ℤ z) (load-in_force-paid s n rs) | false ↦ load-in_force-paid s n rs ])

fits-same : (m : Market) (xs ys : List Right) → ((month limit : ℕ) → load m month limit ys ≡ load m month limit xs) → Fits m xs → Fits m ys
fits-same m xs ys e h month limit at = subst (λ z. z ≤ℤ bound m month limit) (sym (e month limit)) (h month limit at)

fits_none : (m : Market) → Fits m []
fits_none m month limit at = omega (arith, ints)

pub none_from_is_some : {X : Type 0} (o : Option X) → is_some o ≡ false → o ≡ None
none_from_is_some None h = refl
none_from_is_some (Some x) h = absurd (both_ways true h refl)

some_none : {X Y : Type 0} (x : X) → ◌≡◌ {A = Option X} (Some x) None → Y
some_none x h = let z : ◌≡◌ {A = ℕ} 0 1 = cc in absurd (omega arith)

-- a payment that passes is on a right in force, and no more than it owes
pub payable : (amount : ℕ) (r : Right) → pay_check amount r ≡ None → (is_in_force r ≡ true) × (amount ≤ debt r)
payable amount r h =
    let p = then_none (known_check r) _ h in
    let q = or_parts (eqb amount 0) (ltb (debt r) amount) (refuse_none _ _ p.1) in
    (not-false (is_in_force r) (refuse_none _ _ p.0), ltb-false (debt r) amount q.1)

-- an annulment that passes finds no award open
pub none_open : (m : Market) (b : State) (r : Right) → annul_check m b r ≡ None → b.pending ≡ None
none_open m b r h =
    let p = then_none (known_check r) _ h in
    none_from_is_some b.pending (refuse_none _ _ (then_none (open_check b) _ p.1).0)

pub record Sound (m : Market) (b : State) : Type 0 where
  pub law : BoundedLines m
  pub small : Small b.rights
  pub rising : Rising 0 b.rights b.next
  pub fits : Fits m b.rights
  pub fits-in_force : Fits m (in_force b.rights)
  pub settled : b.pending ≡ None → AllByRecursion (λ r. is_in_force r ≡ true) b.rights
  pub holders : length b.balances ≡ 32
  pub covered : (x : ℕ) → held_of x b.rights ≤ balance b x

pub by_outcome : (P : Outcome → Type 0) (f : Option Refusal) (b : State) (a : Answer) (d : State) → ((e : Refusal) → P (record { answer = Refused e; after = b })) → (f ≡ None → P (record { answer = a; after = d })) → P (outcome f b a d)
by_outcome P None b a d refused granted = granted refl
by_outcome P (Some e) b a d refused granted = refused e

pub sound-fresh : (m : Market) → BoundedLines m → (n : ℕ) → Sound m (fresh n)
sound-fresh m law n = record { law = law; small = tt; rising = omega arith; fits = fits_none m; fits-in_force = fits_none m; settled = λ _. tt; holders = refl; covered = λ x. omega arith }

less_held : (t : Bool) (w one all bal left take : ℕ) → (t ≡ true → bal ≡ left) → take ≤ one → w + cond t one 0 ≡ all → all ≤ left → w ≤ cond t (bal - take) left
less_held true w one all bal left take e k s h = let q = e refl in omega arith
less_held false w one all bal left take e k s h = omega arith

-- a withdrawal that passes is of the free part
pub drawable : (b : State) (x amount : ℕ) → withdraw_check b x amount ≡ None → amount ≤ free_part b x
drawable b x amount h =
    let p = then_none (holder_check x) _ h in
    ltb-false (free_part b x) amount (or_parts (eqb amount 0) (ltb (free_part b x) amount) (refuse_none _ _ p.1)).1

module _ (m : Market) (b : State) (is : Sound m b) where
  -- the rights that a proposal leaves
  pub proposed_small : (ws : List ℕ) → propose_check m b ws ≡ None → Small (b.rights ++ numbered b.next (decode ws))
  proposed_small ws h =
      let q = then_none (open_check b) _ (then_none (form_check ws) _ h).1 in
      let lines = (then_none (lines_check m b 1 [] (decode ws)) _ q.1).0 in
      All-append (λ r. r.line.power ≤ 1000000) b.rights (numbered b.next (decode ws)) is.small (all-numbered (λ r. r.line.power ≤ 1000000) (λ x. x.power ≤ 1000000) (λ k x y. y) b.next (decode ws) (small_from_lines m is.law b 1 [] (decode ws) lines))

  pub proposed_rising : (ws : List ℕ) → Rising 0 (b.rights ++ numbered b.next (decode ws)) (b.next + length (decode ws))
  proposed_rising ws = rising_append 0 b.next (b.next + length (decode ws)) b.rights (numbered b.next (decode ws)) is.rising (rising_numbered b.next (decode ws))

  sound-propose : (ws : List ℕ) → Sound m (propose m b ws).after
  sound-propose ws =
      by_outcome (λ o. Sound m o.after) (propose_check m b ws then capacity_check m (b.rights ++ numbered b.next (decode ws))) b _ _ (λ e. is)
      (λ h.
      let p = then_none (propose_check m b ws) _ h in
      let q = then_none (open_check b) _ (then_none (form_check ws) _ p.0).1 in
      let lines = (then_none (lines_check m b 1 [] (decode ws)) _ q.1).0 in
      record {
        law = is.law;
        small = proposed_small ws p.0;
        rising = proposed_rising ws;
        fits = fits_from_check m (b.rights ++ numbered b.next (decode ws)) p.1;
        fits-in_force = rw in_force-awarded is.fits-in_force;
        settled = λ e. some_none _ e;
        holders = is.holders;
        covered = λ x.
            let old = is.covered x in
            let new = covered_from_lines m b 1 [] (decode ws) lines x (omega arith) in
            omega (arith, total-append (λ r. cond (eqb r.line.holder x) (held r) 0) b.rights (numbered b.next (decode ws)), held_of-numbered x b.next (decode ws));
      })

  sound-confirm : (book first lines : ℕ) → Sound m (confirm b book first lines).after
  sound-confirm book first lines =
      by_outcome (λ o. Sound m o.after) (award_check b book first lines) b _ _ (λ e. is)
      (λ h. record {
        law = is.law;
        small = all_confirmed-all (λ r. r.line.power ≤ 1000000) (λ r k. k) b.rights is.small;
        rising = rising_confirmed 0 b.rights b.next is.rising;
        fits = fits-same m b.rights (all_confirmed b.rights) (λ month limit. load-confirmed m month limit b.rights) is.fits;
        fits-in_force = rw in_force-confirmed (fits-same m b.rights (all_confirmed b.rights) (λ month limit. load-confirmed m month limit b.rights) is.fits);
        settled = λ _. every b.rights;
        holders = is.holders;
        covered = λ x. omega (arith, is.covered x, held_of-confirmed x b.rights);
      })
    where
      every : (rs : List Right) → AllByRecursion (λ r. is_in_force r ≡ true) (all_confirmed rs)
      every [] = tt
      every (r ∷ rs) = (refl, every rs)

  sound-strike : (book first lines : ℕ) → Sound m (strike b book first lines).after
  sound-strike book first lines =
      by_outcome (λ o. Sound m o.after) (award_check b book first lines) b _ _ (λ e. is)
      (λ h. record {
        law = is.law;
        small = all_kept_by is_in_force (λ r. r.line.power ≤ 1000000) b.rights is.small;
        rising = rising_kept is_in_force 0 b.rights b.next is.rising;
        fits = is.fits-in_force;
        fits-in_force = rw (kept-all is_in_force (in_force b.rights) (kept_by_passes is_in_force b.rights)) is.fits-in_force;
        settled = λ _. kept_by_passes is_in_force b.rights;
        holders = is.holders;
        covered = λ x. omega (arith, is.covered x, total-kept_le (λ r. cond (eqb r.line.holder x) (held r) 0) is_in_force b.rights);
      })

  sound-pay : (s amount : ℕ) → Sound m (pay b s amount).after
  sound-pay s amount = go (right_of s b.rights) refl
    where
      go : (o : Option Right) → right_of s b.rights ≡ o → Sound m (pay_right b s amount o).after
      go None e = is
      go (Some r) e =
          by_outcome (λ o. Sound m o.after) (pay_check amount r) b _ _ (λ e. is)
          (λ h.
          let live = (payable amount r h).0 in
          record {
            law = is.law;
            small = all_paid (λ r. r.line.power ≤ 1000000) s amount (λ r k. k) b.rights is.small;
            rising = rising_paid s amount 0 b.rights b.next is.rising;
            fits = fits-same m b.rights (paid_on s amount b.rights) (λ month limit. load-paid m month limit s amount b.rights) is.fits;
            fits-in_force = fits-same m (in_force b.rights) (in_force (paid_on s amount b.rights)) (λ month limit. load-in_force-paid m month limit s amount b.rights) is.fits-in_force;
            settled = λ e. all_paid (λ r. is_in_force r ≡ true) s amount (λ r k. in_force-paying r amount ∙ k) b.rights (is.settled e);
            holders = is.holders;
            covered = λ x. omega (arith, is.covered x, held_of-paid x s amount b.rights r e);
          })

  -- what an annulment takes is there
  pub taking_le : (s : ℕ) (r : Right) → right_of s b.rights ≡ Some r → held r ≤ balance b r.line.holder
  taking_le s r e =
      omega (arith, total-without (λ y. cond (eqb y.line.holder r.line.holder) (held y) 0) s b.rights r e, cond-true (eqb r.line.holder r.line.holder) (held r) 0 (eq-eqb r.line.holder r.line.holder refl), is.covered r.line.holder)

  sound-annul : (s : ℕ) → Sound m (annul m b s).after
  sound-annul s = go (right_of s b.rights) refl
    where
      go : (o : Option Right) → right_of s b.rights ≡ o → Sound m (annul_right m b s o).after
      go None e = is
      go (Some r) e =
          by_outcome (λ o. Sound m o.after) (annul_check m b r then capacity_check m (without s b.rights)) b _ _ (λ e. is)
          (λ h.
          let p = then_none (annul_check m b r) _ h in
          let all = all_without (λ r. is_in_force r ≡ true) s b.rights (is.settled (none_open m b r p.0)) in
          record {
            law = is.law;
            small = all_without (λ r. r.line.power ≤ 1000000) s b.rights is.small;
            rising = rising_without s 0 b.rights b.next is.rising;
            fits = fits_from_check m (without s b.rights) p.1;
            fits-in_force = rw (kept-all is_in_force (without s b.rights) all) (fits_from_check m (without s b.rights) p.1);
            settled = λ _. all;
            holders = simp length-set is.holders;
            covered = λ x.
                rw (balance-set b.balances r.line.holder x (balance b r.line.holder - taking r) (λ l. let z = get_or_past b.balances r.line.holder 0 l in omega arith))
                (less_held (eqb r.line.holder x) _ (held r) _ _ _ (taking r) (λ t. ap (balance b) (eqb-true r.line.holder x t)) (omega arith)
                (total-without (λ y. cond (eqb y.line.holder x) (held y) 0) s b.rights r e) (is.covered x));
          })

  sound-balance : (x v : ℕ) → (length b.balances ≤ x → v ≡ 0) → held_of x b.rights ≤ v → Sound m (with_balance b x v)
  sound-balance x v h k = record {
    law = is.law;
    small = is.small;
    rising = is.rising;
    fits = is.fits;
    fits-in_force = is.fits-in_force;
    settled = is.settled;
    holders = simp length-set is.holders;
    covered = λ y.
        rw (balance-set b.balances x y v h)
        (cond_both (eqb x y) v (balance b y) (λ z. held_of y b.rights ≤ z) (λ e. omega (arith, ap (λ z. held_of z b.rights) (eqb-true x y e))) (λ _. is.covered y));
  }

  sound-deposit : (x amount : ℕ) → Sound m (deposit b x amount).after
  sound-deposit x amount =
      by_outcome (λ o. Sound m o.after) (deposit_check b x amount) b _ _ (λ e. is)
      (λ h.
      let p = then_none (holder_check x) _ h in
      let inside = leb-false 32 x (refuse_none _ _ p.0) in
      sound-balance x (balance b x + amount) (λ l. absurd (omega (arith, is.holders))) (omega (arith, is.covered x)))

  sound-withdraw : (x amount : ℕ) → Sound m (withdraw b x amount).after
  sound-withdraw x amount =
      by_outcome (λ o. Sound m o.after) (withdraw_check b x amount) b _ _ (λ e. is)
      (λ h.
      let low = drawable b x amount h in
      sound-balance x (balance b x - amount) (λ l. let z = get_or_past b.balances x 0 l in omega arith) (omega (arith, is.covered x)))

  sound-set_day : (d : ℕ) → Sound m (set_day b d).after
  sound-set_day d =
      by_outcome (λ o. Sound m o.after) (day_check b d) b _ _ (λ e. is)
      (λ h. record { law = is.law; small = is.small; rising = is.rising; fits = is.fits; fits-in_force = is.fits-in_force; settled = is.settled; holders = is.holders; covered = is.covered })

pub sound-act : (m : Market) (b : State) → Sound m b → (c : Call) → Sound m (act m b c).after
sound-act m b is (Propose ws) = sound-propose m b is ws
sound-act m b is (Confirm book first lines) = sound-confirm m b is book first lines
sound-act m b is (Strike book first lines) = sound-strike m b is book first lines
sound-act m b is (Pay s amount) = sound-pay m b is s amount
sound-act m b is (Annul s) = sound-annul m b is s
sound-act m b is (Deposit x amount) = sound-deposit m b is x amount
sound-act m b is (Withdraw x amount) = sound-withdraw m b is x amount
sound-act m b is (SetDay d) = sound-set_day m b is d
