-- The findings said as the book's questions answer them, with capacity both ways.
use Rattle.std.proofs.Common.{◌≡◌, ℕ, ◌+◌, ◌≤◌, List, ◌++◌, ap, ◌∙◌, subst, inl, inr, arith}
use Rattle.std.proofs.ByRecursion.{All-weaker}
use Rattle.std.proofs.lemmas.Int.{ints}
use Rattle.submission.specs.Submissions.{decode}
use Rattle.book.specs.declared.right.Right.{Right}
use Rattle.terms.specs.declared.refusal.Refusal.{Refusal}
use Rattle.terms.specs.declared.refusal.Refusal.TheVariants.{LimitPassed}
use Rattle.book.specs.Market.{Market}
use Rattle.book.proofs.Bounded.{bounded_lines}
use Rattle.book.specs.Rights.{held_of, numbered, without, taking, write_off}
use Rattle.book.specs.Loads.{Listed, Within, Passes}
use Rattle.book.specs.States.{State}
use Rattle.book.specs.Calls.{Answer}
use Rattle.book.specs.Calls.Answer.{Annulled, Refused}
use Rattle.book.specs.Events.{Event}
use Rattle.book.specs.Histories.{History, Lived, ever_confirmed, payments, takings, write_offs, withdrawals, takings_from}
use Rattle.book.specs.Findings.{Decided, ProposalDecided, AnnulmentDecided, Accounted}
use Rattle.book.specs.StatedFindings.{DecidedBothWays, ProposalBothWays, AnnulmentBothWays, AccountedAsStated, FindingsAsStated}
use Rattle.book.proofs.Worst.{Lawful}
use Rattle.book.proofs.Accounts.{sound-lived}
use Rattle.book.proofs.Stated.{owed_stated, balance_as_stated}
use Rattle.book.proofs.Main.{findings}

module _ (m : Market) (allowed : ℕ → ℕ → Type 0) where
  -- a choice that passes a limit, against one that keeps within all
  never_both : (left : List Right) (month limit : ℕ) → Listed m month limit → Passes m allowed left month limit → Within m allowed left → ⊥
  never_both left month limit at p w = let low = w p.0 p.1 month limit at in let high = p.2 in omega (arith, ints)

  module _ (left : List Right) (answer granted : Answer) (unlike : (e : Refusal) → granted ≡ Refused e → ⊥) where
    both_ways : Decided m allowed left answer granted → DecidedBothWays m allowed left answer granted
    both_ways (inl (month, limit, excess, at, named, passes)) = record {
      refused = λ k l at' p. (month, limit, excess, named);
      only = λ k l x h.
          let em : month ≡ k = cc in
          let el : limit ≡ l = cc in
          (subst (λ y. Listed m y l) em (subst (λ y. Listed m month y) el at), subst (λ y. Passes m allowed left y l) em (subst (λ y. Passes m allowed left month y) el passes));
      accepted = λ within. absurd (never_both left month limit at passes within);
    }
    both_ways (inr (is, within)) = record {
      refused = λ k l at p. absurd (never_both left k l at p within);
      only = λ k l x h. absurd (unlike (LimitPassed k l x) (cc));
      accepted = λ _. is;
    }

  proposal : (rs : List Right) (b : State) (e : Event) → ProposalDecided m allowed rs b e → ProposalBothWays m allowed rs b e
  proposal rs b e d ws asked passed = both_ways (rs ++ numbered b.next (decode ws)) e.answer _ (λ x q. let z : ◌≡◌ {A = ℕ} 0 1 = cc in omega arith) (d ws asked passed)

  annulment : (rs : List Right) (b : State) (e : Event) → AnnulmentDecided m allowed rs b e → AnnulmentBothWays m allowed rs b e
  annulment rs b e d s r asked there passed = both_ways (without s rs) e.answer (Annulled (taking r) (write_off r)) (λ x q. let z : ◌≡◌ {A = ℕ} 0 1 = cc in omega arith) (d s r asked there passed)

pub findings_as_stated : (m : Market) (allowed : ℕ → ℕ → Type 0) → Lawful m allowed → (n : ℕ) (h : History) (b : State) → Lived m n h b → FindingsAsStated m allowed n h b
findings_as_stated m allowed laws n h b l =
    let is = sound-lived m (bounded_lines m) n h b l in
    let f = findings m allowed laws n h b l in
    record {
      within = f.within;
      within_in_force = f.within_in_force;
      proposals = λ later earlier e before split lived. proposal m allowed _ before e (f.proposals later earlier e before split lived);
      annulments = λ later earlier e before split lived. annulment m allowed _ before e (f.annulments later earlier e before split lived);
      charges = All-weaker (Accounted h b) (AccountedAsStated h b) (λ r e. e ∙ ap (λ d. payments r.serial h + d + takings r.serial h + write_offs r.serial h) (owed_stated b b.next is.rising r.serial)) (ever_confirmed h) f.charges;
      accounts = λ x. f.accounts x ∙ ap (λ d. withdrawals x h + takings_from x h + d) (balance_as_stated b is.holders x);
      covered = λ x. subst (λ d. held_of x b.rights ≤ d) (balance_as_stated b is.holders x) (f.covered x);
    }
