-- What is read of an input.
use Rattle.std.proofs.Common.{◌≡◌, ℕ, ◌≤◌, List, [], ◌++◌, length, take, sym, ap, ◌∙◌, Option, None, Some, IfSome}
use Rattle.std.proofs.lemmas.List.{take_at, take_all, append-nil}
use Rattle.std.specs.Io.KnownBytes.{Consumes, IsAtEnd}

-- bytes that fill the room are the front of the input
pub front_full : (n : ℕ) (known left : Option (List ℕ)) (bs : List ℕ) → Consumes known left bs → length bs ≡ n → IfSome known (λ all. bs ≡ take n all)
front_full n None left bs read full = tt
front_full n (Some xs) None bs read full = elim read [ ]
front_full n (Some xs) (Some ys) bs read full = sym (ap (take n) read ∙ take_at bs ys n full)

-- so are the bytes after which a read gave none
pub front_ended : (n : ℕ) (known left ended : Option (List ℕ)) (bs none : List ℕ) → Consumes known left bs → Consumes left ended none → none ≡ [] → IsAtEnd ended → length bs ≤ n → IfSome known (λ all. bs ≡ take n all)
front_ended n None left ended bs none read more empty end few = tt
front_ended n (Some xs) None ended bs none read more empty end few = elim read [ ]
front_ended n (Some xs) (Some ys) None bs none read more empty end few = elim more [ ]
front_ended n (Some xs) (Some ys) (Some zs) bs none read more empty end few =
    let nothing : ys ≡ [] = more ∙ ap (λ none. none ++ zs) empty ∙ end in
    sym (ap (take n) (read ∙ ap (λ ys. bs ++ ys) nothing ∙ append-nil bs) ∙ take_all n bs few)
