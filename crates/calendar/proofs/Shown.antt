-- What a calendar shows of a list: f of each of its items.
use Rattle.std.proofs.Common.{◌≡◌, ℕ, zero, suc, ◌+◌, ◌-◌, ◌<◌, ◌≤◌, List, [], ◌∷◌, map, length, get_or, set, sym, refl, ap, ◌∙◌, add-one, arith}
use Rattle.std.proofs.lemmas.List.{length-map, get_or-map, map-set}
use Rattle.std.proofs.lemmas.List.Elements.{All-get_or, All-map}
use Rattle.std.specs.List.{AllZip}
use Rattle.calendar.specs.Figures.{numbered}
use Rattle.calendar.specs.Calls.{changed}

-- what stands at place i has the number i + 1
pub numbered_place : {A : Type 0} (xs : List A) (i n : ℕ) (d : A) → i + 1 ≡ n → numbered xs n d ≡ get_or xs i d
numbered_place xs i n d e = ap (λ m. numbered xs m d) (sym e ∙ add-one i)

module _ {A B : Type 0} (f : A → B) where
  -- an item that is read by its number
  pub numbered-map : (xs : List A) (i n : ℕ) (d : A) (e : B) → i + 1 ≡ n → i < length xs → numbered (map f xs) n e ≡ f (get_or xs i d)
  numbered-map xs i n d e s h = numbered_place (map f xs) i n e s ∙ get_or-map f xs i d e h

  -- an item that is written
  pub map-changed : (g : B → B) (i : ℕ) (xs : List A) (y d : A) → i < length xs → f y ≡ g (f (get_or xs i d)) → map f (set xs i y) ≡ changed i g (map f xs)
  map-changed g zero (x ∷ xs) y d h e = ap (λ z. z ∷ map f xs) e
  map-changed g (suc i) (x ∷ xs) y d h e = ap (λ zs. f x ∷ zs) (map-changed g i xs y d (omega arith) e)
  map-changed g i [] y d h e = refl

  -- and one that is written in place of what is shown
  pub map-changed_shown : (g : B → B) (i : ℕ) (xs : List A) (y : A) (e : B) → i < length (map f xs) → f y ≡ g (get_or (map f xs) i e) → map f (set xs i y) ≡ changed i g (map f xs)
  map-changed_shown g i xs y e h s =
      let k : i < length xs = omega (arith, length-map xs f) in
      map-changed g i xs y y k (s ∙ ap g (get_or-map f xs i y e k))

  -- and one that is written by its number
  pub map-changed_number : (g : B → B) (i n : ℕ) (xs : List A) (y d : A) → i + 1 ≡ n → i < length xs → f y ≡ g (f (get_or xs i d)) → map f (set xs i y) ≡ changed (n - 1) g (map f xs)
  map-changed_number g i n xs y d s h e =
      let p : i ≡ n - 1 = omega arith in
      map-changed g i xs y d h e ∙ ap (λ k. changed k g (map f xs)) p

  pub map-set_number : (i n : ℕ) (xs : List A) (y : A) (z : B) → i + 1 ≡ n → f y ≡ z → map f (set xs i y) ≡ set (map f xs) (n - 1) z
  map-set_number i n xs y z s e =
      let p : i ≡ n - 1 = omega arith in
      map-set f xs i y ∙ ap (λ k. set (map f xs) k (f y)) p ∙ ap (set (map f xs) (n - 1)) e

-- a list that gives each item of another back shows it
pub map-zipped : {A B : Type 0} {R : A → B → Type 0} (f : B → A) → ((x : A) (y : B) → R x y → f y ≡ x) → (xs : List A) (ys : List B) → AllZip R xs ys → map f ys ≡ xs
map-zipped f h [] [] z = refl
map-zipped f h [] (y ∷ ys) z = absurd z
map-zipped f h (x ∷ xs) [] z = absurd z
map-zipped f h (x ∷ xs) (y ∷ ys) z = cc (h x y z.0, map-zipped f h xs ys z.1)

-- what holds of every item holds wherever a list of them is read
module _ {A B : Type 0} (f : A → B) (P : B → Type 0) (each : (a : A) → P (f a)) (d : B) (none : P d) where
  pub every_get_or : (xs : List A) (i : ℕ) → P (get_or (map f xs) i d)
  every_get_or [] i = none
  every_get_or (x ∷ xs) zero = each x
  every_get_or (x ∷ xs) (suc i) = every_get_or xs i

  pub every_numbered : (xs : List A) (n : ℕ) → P (numbered (map f xs) n d)
  every_numbered xs zero = none
  every_numbered xs (suc n) = every_get_or xs n

module _ {A B : Type 0} (f : A → B) (P : B → Type 0) (each : (a : A) → P (f a)) (d : B) where
  pub within-get_or : (xs : List A) (i : ℕ) → i < length (map f xs) → P (get_or (map f xs) i d)
  within-get_or xs i h = All-get_or P (map f xs) i d h (All-map P f xs (λ k e _. each (get_or xs k e)))

  pub within-numbered : (xs : List A) (n : ℕ) → 1 ≤ n → n ≤ length (map f xs) → P (numbered (map f xs) n d)
  within-numbered xs zero low high = absurd (omega arith)
  within-numbered xs (suc n) low high = within-get_or xs n high
