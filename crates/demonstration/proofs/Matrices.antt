-- One reference over one limit of area 2: the build's answer.
use Rattle.std.proofs.Common.{◌≡◌, ℕ, zero, suc, ◌+◌, ◌<◌, ◌≤◌, Bool, true, false, not, eqb, [], ◌∷◌, pos, Ok, Err, sym, refl, ◌∙◌, subst, inl, inr, arith, lit<, lit≤}
use Rattle.calendar.specs.declared.kinds.LimitKind.{LimitKind}
use Rattle.calendar.specs.declared.kinds.LimitKind.TheVariants.{Export, Wheeling}
use Rattle.calendar.specs.Figures.{Figures, figures, marked, HasLimit, limit_count}
use Rattle.calendar.specs.Matrix.{GoodReferences, NoStray, IsPair, reference_at, pair_flow, strays_at}
use Rattle.demonstration.specs.Matrices.{limit_of_two, one_to_three, Marks, Strays}

differ : true ≡ false → ⊥
differ e = let z : ◌≡◌ {A = ℕ} 0 1 = cc in omega arith

pair : (i : ℕ) → i < 1 → IsPair (reference_at one_to_three i)
pair zero h = ((lit≤ tt, lit≤ tt), (lit≤ tt, lit≤ tt), λ e. omega arith)
pair (suc i) h = let z : ⊥ = omega arith in elim z [ ]

good : (kind : LimitKind) (flow : ℕ) → GoodReferences (limit_of_two kind) one_to_three (pos flow ∷ [])
good kind flow = (lit≤ tt, lit≤ tt, pair, refl)

one_limit : (kind : LimitKind) (limit : ℕ) → HasLimit (limit_of_two kind) limit → limit ≡ 1
one_limit kind limit h = omega (arith, h.0, h.1)

-- no flow strays at a wheeling limit
none_strays : (flow i limit : ℕ) → HasLimit (limit_of_two Wheeling) limit → strays_at (limit_of_two Wheeling) one_to_three (pos flow ∷ []) i limit ≡ false
none_strays flow i limit h =
    let P : ℕ → Type 0 = λ n. strays_at (limit_of_two Wheeling) one_to_three (pos flow ∷ []) i n ≡ false in
    subst P (sym (one_limit Wheeling limit h)) refl

pub marks : (flow : ℕ) (mark : Bool) → not (eqb (pair_flow (limit_of_two Wheeling) one_to_three (pos flow ∷ []) 1 1) 0) ≡ mark → Marks Wheeling flow mark
marks flow mark flows before later (Ok u) e b =
    let M : Figures → Type 0 = λ f. (1 ≤ limit_count f → marked (figures later) 1 1 ≡ not (eqb (pair_flow f one_to_three (pos flow ∷ []) 1 1) 0)) in
    (refl, subst M e (λ h. b.2.3 1 1 (lit≤ tt) h (lit< tt)) (lit≤ tt) ∙ flows)
marks flow mark flows before later (Err x) e b =
    let B : Figures → Type 0 = λ f. GoodReferences f one_to_three (pos flow ∷ []) → ⊥ in
    let S : Figures → Type 0 = λ f. (i limit : ℕ) × HasLimit f limit × (strays_at f one_to_three (pos flow ∷ []) i limit ≡ true) in
    let z : ⊥ = elim b.1 [
      | inl p ↦ subst B e p.1 (good Wheeling flow)
      | inr q ↦ let s : S (limit_of_two Wheeling) = subst S e (q.1.0, q.1.1, q.1.2.1.0, q.1.2.1.1) in differ (sym s.3 ∙ none_strays flow s.0 s.1 s.2)
    ] in
    elim z [ ]

pub strays : Strays Export 100
strays before later (Ok u) e b =
    let N : Figures → Type 0 = λ f. NoStray f one_to_three (pos 100 ∷ []) in
    let z : ⊥ = differ (subst N e b.1 0 (lit< tt) 1 (lit≤ tt, lit≤ tt)) in
    elim z [ ]
strays before later (Err x) e b =
    let B : Figures → Type 0 = λ f. GoodReferences f one_to_three (pos 100 ∷ []) → ⊥ in (
      elim b.1 [
        | inl p ↦ let z : ⊥ = subst B e p.1 (good Export 100) in elim z [ ]
        | inr q ↦
            let H : Figures → Type 0 = λ f. HasLimit f q.1.1 in
            let place : q.1.0 + 1 ≡ 1 = omega (arith, q.1.2.0) in
            let limit : q.1.1 ≡ 1 = one_limit Export q.1.1 (subst H e q.1.2.1.0) in
            cc q.1.3
      ],
      b.0,
    )
