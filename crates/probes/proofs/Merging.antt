-- The join of records: its four equations, what holds of it step by step, and that all records are written or left. Assumes nothing.
use Prim.Native.Nat.{ℕ, suc, ◌+◌, ◌≤◌, ◌<◌}
use mathlib.Core.Path.{◌≡◌, refl, sym, ap, ◌∙◌}
use mathlib.Core.Bool.{Bool, true, false, cond as pick}
use mathlib.Core.List.Permᴰ
use mathlib.Core.List.{List, [], ◌∷◌, ◌++◌, Permᴰ}
use native.Mathlib.Omega.{arith}
use borrow.Author.Tests.{leb-true, leb-false, le-leb, lt-leb}
use Rattle.std.proofs.Math.Dec.{eqb-zero-suc, eqb-suc-suc}
use lib.Dec.{leb, eqb}
use lib.ListN.{length}
use Rattle.probes.specs.Records.{time_of}
use Rattle.probes.specs.Joins.{Joined, stop, by_first, by_second, ahead, joined}
use Rattle.probes.specs.Orders.{Interleaves, ended, of_first, of_second, rest_of}

-- ---- the four equations

pub first_used_up : (ys : List (List ℕ)) → joined [] ys ≡ stop true
unfolding joined
first_used_up ys = refl

module _ (x : List ℕ) (xs : List (List ℕ)) where
  pub second_used_up : joined (x ∷ xs) [] ≡ stop false
  unfolding joined ahead
  second_used_up = refl

  module _ (y : List ℕ) (ys : List (List ℕ)) where
    pub first_next : time_of x ≤ time_of y → joined (x ∷ xs) (y ∷ ys) ≡ by_first x (joined xs (y ∷ ys))
    unfolding joined ahead
    first_next h = rw (le-leb _ _ h)

    pub second_next : time_of y < time_of x → joined (x ∷ xs) (y ∷ ys) ≡ by_second y (joined (x ∷ xs) ys)
    unfolding joined ahead
    second_next h = rw (lt-leb _ _ h)

-- ---- what holds of each step holds of the join

module _ (P : List (List ℕ) → List (List ℕ) → Joined → Type 0) (p : (ys : List (List ℕ)) → P [] ys (stop true))
    (q : (x : List ℕ) (xs : List (List ℕ)) → P (x ∷ xs) [] (stop false))
    (f : (x y : List ℕ) (xs ys : List (List ℕ)) (j : Joined) → time_of x ≤ time_of y → P xs (y ∷ ys) j → P (x ∷ xs) (y ∷ ys) (by_first x j))
    (s : (x y : List ℕ) (xs ys : List (List ℕ)) (j : Joined) → time_of y < time_of x → P (x ∷ xs) ys j → P (x ∷ xs) (y ∷ ys) (by_second y j)) where
  step : (x y : List ℕ) (xs ys : List (List ℕ)) (i j : Joined) (b : Bool) → leb (time_of x) (time_of y) ≡ b → P xs (y ∷ ys) i → P (x ∷ xs) ys j
      → P (x ∷ xs) (y ∷ ys) (pick b (by_first x i) (by_second y j))
  step x y xs ys i j true e h k = f x y xs ys i (leb-true _ _ e) h
  step x y xs ys i j false e h k = s x y xs ys j (leb-false _ _ e) k

  along : (x : List ℕ) (xs : List (List ℕ)) → ((ys : List (List ℕ)) → P xs ys (joined xs ys)) → (ys : List (List ℕ)) → P (x ∷ xs) ys (ahead x (joined xs) ys)
  unfolding ahead
  along x xs h [] = q x xs
  along x xs h (y ∷ ys) = step x y xs ys _ _ (leb (time_of x) (time_of y)) refl (h (y ∷ ys)) (along x xs h ys)

  pub by_steps : (xs ys : List (List ℕ)) → P xs ys (joined xs ys)
  unfolding joined
  by_steps [] ys = p ys
  by_steps (x ∷ xs) ys = along x xs (by_steps xs) ys

one_first : (d : Bool) (f s n m : ℕ) → pick d f s ≡ pick d n m → pick d (suc f) s ≡ pick d (suc n) m
one_first true f s n m e = ap suc e
one_first false f s n m e = e

one_second : (d : Bool) (f s n m : ℕ) → pick d f s ≡ pick d n m → pick d f (suc s) ≡ pick d n (suc m)
one_second true f s n m e = e
one_second false f s n m e = ap suc e

-- the first list is used up where all its records are taken
pub done_told : (xs ys : List (List ℕ)) → (joined xs ys).first_done ≡ eqb (joined xs ys).firsts (length xs)
done_told =
    by_steps (λ xs ys j. j.first_done ≡ eqb j.firsts (length xs)) (λ ys. refl) (λ x xs. sym (eqb-zero-suc _))
    (λ x y xs ys j _ h. h ∙ sym (eqb-suc-suc _ _)) (λ x y xs ys j _ h. h)

-- each record that is written was taken
pub as_written : (xs ys : List (List ℕ)) → length (joined xs ys).written ≡ (joined xs ys).firsts + (joined xs ys).seconds
as_written =
    by_steps (λ xs ys j. length j.written ≡ j.firsts + j.seconds) (λ ys. refl) (λ x xs. refl)
    (λ x y xs ys j _ h. omega arith) (λ x y xs ys j _ h. omega arith)

-- ---- what is written and then the rest

all_first : (xs : List (List ℕ)) → Interleaves xs [] xs
all_first [] = ended
all_first (x ∷ xs) = of_first (all_first xs)

all_second : (ys : List (List ℕ)) → Interleaves [] ys ys
all_second [] = ended
all_second (y ∷ ys) = of_second (all_second ys)

-- all the records of both lists and no others, each list's in their order
pub interleaves : (xs ys : List (List ℕ)) → Interleaves xs ys ((joined xs ys).written ++ rest_of xs ys (joined xs ys))
interleaves =
    by_steps (λ xs ys j. Interleaves xs ys (j.written ++ rest_of xs ys j)) all_second (λ x xs. all_first (x ∷ xs))
    (λ x y xs ys j _ h. of_first h) (λ x y xs ys j _ h. of_second h)

pub permutes : {xs ys zs : List (List ℕ)} → Interleaves xs ys zs → Permᴰ zs (xs ++ ys)
permutes ended = Permᴰ.nil
permutes (of_first h) = Permᴰ.cons refl (permutes h)
permutes (of_second {r} {xs} {ys} h) = Permᴰ.trans (Permᴰ.cons refl (permutes h)) (Permᴰ.symm (Permᴰ.middle r xs ys))

pub as_many : {xs ys zs : List (List ℕ)} → Interleaves xs ys zs → length zs ≡ length xs + length ys
as_many ended = omega arith
as_many (of_first h) = let e = as_many h in omega arith
as_many (of_second h) = let e = as_many h in omega arith

-- the list that is used up is taken whole
pub used_up : (xs ys : List (List ℕ))
    → pick (joined xs ys).first_done (joined xs ys).firsts (joined xs ys).seconds ≡ pick (joined xs ys).first_done (length xs) (length ys)
used_up =
    by_steps (λ xs ys j. pick j.first_done j.firsts j.seconds ≡ pick j.first_done (length xs) (length ys)) (λ ys. refl) (λ x xs. refl)
    (λ x y xs ys j _ h. one_first j.first_done _ _ _ _ h) (λ x y xs ys j _ h. one_second j.first_done _ _ _ _ h)
