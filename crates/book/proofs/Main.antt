-- The findings, of every book and every history.
use Rattle.std.proofs.Common.{ℕ, ◌≤◌, List, [], ◌∷◌, refl}
use Rattle.std.proofs.ByRecursion.{all_kept_by}
use Rattle.book.specs.Market.{Market}
use Rattle.book.proofs.Bounded.{bounded_lines}
use Rattle.book.specs.Rights.{is_in_force, in_force}
use Rattle.book.specs.States.{State}
use Rattle.book.specs.Calls.{Call, act}
use Rattle.book.specs.Histories.{History, Lived, event, state_after, history_after}
use Rattle.book.specs.Findings.{Findings}
use Rattle.book.proofs.Worst.{Lawful, within_from_fits}
use Rattle.book.proofs.Accounts.{standing-lived, sound-lived, accounts-lived}
use Rattle.book.proofs.Charges.{accounted_lived}
use Rattle.book.proofs.Capacity.{proposals-lived, annulments-lived}

pub findings : (m : Market) (allowed : ℕ → ℕ → Type 0) → Lawful m allowed → (n : ℕ) (h : History) (b : State) → Lived m n h b → Findings m allowed n h b
findings m allowed laws n h b l =
    let law = bounded_lines m in
    let is = sound-lived m law n h b l in
    record {
      within = rw (standing-lived m n h b l) (within_from_fits m allowed laws b.rights is.small is.fits);
      within_in_force = rw (standing-lived m n h b l) (within_from_fits m allowed laws (in_force b.rights) (all_kept_by is_in_force (λ r. r.line.power ≤ 1000000) b.rights is.small) is.fits-in_force);
      proposals = proposals-lived m allowed laws law n h b l;
      annulments = annulments-lived m allowed laws law n h b l;
      charges = accounted_lived m law n h b l;
      accounts = accounts-lived m law n h b l;
      covered = is.covered;
    }

-- one call more
pub lived-more : (m : Market) (n : ℕ) (h : History) (b : State) (c : Call) → Lived m n h b → Lived m n (event m b c ∷ h) (act m b c).after
lived-more m n h b c l = (b, l, refl, refl)

-- a list of calls is lived through
pub lived-after : (m : Market) (n : ℕ) (calls : List Call) (h : History) (b : State) → Lived m n h b → Lived m n (history_after m b h calls) (state_after m b calls)
lived-after m n [] h b l = l
lived-after m n (c ∷ cs) h b l = lived-after m n cs (event m b c ∷ h) (act m b c).after (lived-more m n h b c l)
