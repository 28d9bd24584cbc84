-- A run: one call more, and the last.
use Rattle.std.proofs.Common.{◌≡◌, ℕ, ◌+◌, ◌<◌, List, [], ◌∷◌, ◌++◌, length, get_or, take, drop, set, Result, sym, refl, ap, ◌∙◌, subst, arith}
use Rattle.std.proofs.lemmas.List.{take_more, take_more_set, length-take-le, drop-set-lt, drop-drop}
use Rattle.desk.specs.declared.desk.Call.{Call}
use Rattle.desk.specs.declared.desk.Answer.{Answer}
use Rattle.terms.specs.declared.refusal.Refusal.{Refusal}
use Rattle.book.specs.Market.{Market}
use Rattle.book.specs.States.{State}
use Rattle.book.specs.Histories.{History, Lived}
use Rattle.book.specs.Living.{answered, happened, LivesOn}
use Rattle.desk.specs.Runs.{asked, said, history_of}

history_push : (h : History) (cs : List Call) (rs : List (Result Answer Refusal)) (c : Call) (a : Result Answer Refusal) → length cs ≡ length rs → history_of h (cs ++ c ∷ []) (rs ++ a ∷ []) ≡ happened (asked c) (answered said a) ∷ history_of h cs rs
history_push h [] [] c a e = refl
history_push h [] (r ∷ rs) c a e = absurd (omega arith)
history_push h (x ∷ cs) [] c a e = absurd (omega arith)
history_push h (x ∷ cs) (r ∷ rs) c a e = history_push (happened (asked x) (answered said r) ∷ h) cs rs c a (omega arith)

history_more : (cs : List Call) (rs : List (Result Answer Refusal)) (i : ℕ) (d : Call) (a : Result Answer Refusal) → i < length cs → i < length rs → history_of [] (take (i + 1) cs) (take (i + 1) (set rs i a)) ≡ happened (asked (get_or cs i d)) (answered said a) ∷ history_of [] (take i cs) (take i rs)
history_more cs rs i d a p q =
    let l : length (take i cs) ≡ length (take i rs) = length-take-le i cs (omega arith) ∙ sym (length-take-le i rs (omega arith)) in
    rw (take_more cs i d p, take_more_set rs i a q) (history_push [] (take i cs) (take i rs) (get_or cs i d) a l)

pub lived_push : (m : Market) (allowed : ℕ → ℕ → Type 0) (number : ℕ) (cs : List Call) (rs : List (Result Answer Refusal)) (i : ℕ) (d : Call) (a : Result Answer Refusal) (b after : State) → i < length cs → i < length rs → LivesOn m allowed b (asked (get_or cs i d)) (answered said a) after → Lived m number (history_of [] (take i cs) (take i rs)) b → Lived m number (history_of [] (take (i + 1) cs) (take (i + 1) (set rs i a))) after
lived_push m allowed number cs rs i d a b after p q on l = subst (λ k. Lived m number k after) (sym (history_more cs rs i d a p q)) (on number (history_of [] (take i cs) (take i rs)) l).0

-- the answers behind the last are as they were
pub drop-next : (was is : List (Result Answer Refusal)) (i : ℕ) (a : Result Answer Refusal) → drop i is ≡ drop i was → drop (i + 1) (set is i a) ≡ drop (i + 1) was
drop-next was is i a e = drop-set-lt (i + 1) is i a (omega arith) ∙ sym (drop-drop 1 i is) ∙ ap (drop 1) e ∙ drop-drop 1 i was
