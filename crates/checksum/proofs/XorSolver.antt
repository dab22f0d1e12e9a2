-- Equations between exclusive ors of numbers, decided: each side is a term over places in a list of numbers; the places
-- are put in order, and equal ones cancel in pairs.
-- Assumes nothing.
use Prim.Native.Nat.{ℕ}
use mathlib.Core.Bool.{Bool, true, false, cond}
use mathlib.Core.Path.{◌≡◌, refl, sym, ap, ap₂, ◌∙◌}
use mathlib.Core.List.{List, [], ◌∷◌}
use borrow.Author.Tests.{eqb-true}
use lib.Dec.{eqb, ltb}
use lib.ListN.{get_or}
use lib.Bits.{bit_xor, xor_comm, xor_self, xor_zero_l, xor_zero_r}
use Rattle.checksum.proofs.XorLaws.{xor_assoc}

pub data Term : Type 0 where
  var : ℕ → Term
  both : Term → Term → Term

abbrev pub value : List ℕ → Term → ℕ
value env (var i) = get_or env i 0
value env (both s t) = bit_xor (value env s) (value env t)

unfoldable total : List ℕ → List ℕ → ℕ
total env [] = 0
total env (i ∷ is) = bit_xor (get_or env i 0) (total env is)

abbrev pub insert : ℕ → List ℕ → List ℕ
insert i [] = i ∷ []
insert i (j ∷ js) = cond (eqb i j) js (cond (ltb i j) (i ∷ (j ∷ js)) (j ∷ insert i js))

abbrev pub merge : List ℕ → List ℕ → List ℕ
merge [] js = js
merge (i ∷ is) js = insert i (merge is js)

abbrev pub order : Term → List ℕ
order (var i) = i ∷ []
order (both s t) = merge (order s) (order t)

xor-swap : (a b c : ℕ) → bit_xor a (bit_xor b c) ≡ bit_xor b (bit_xor a c)
xor-swap a b c = sym (xor_assoc a b c) ∙ ap (λ (x : ℕ). bit_xor x c) (xor_comm a b) ∙ xor_assoc b a c

insert-total : (env : List ℕ) (i : ℕ) (js : List ℕ) → total env (insert i js) ≡ bit_xor (get_or env i 0) (total env js)
unfolding total
insert-total env i [] = refl
insert-total env i (j ∷ js) = by (eqb i j) refl (ltb i j) (insert-total env i js)
  where
    by : (t : Bool) → eqb i j ≡ t → (u : Bool) → total env (insert i js) ≡ bit_xor (get_or env i 0) (total env js)
        → total env (cond t js (cond u (i ∷ (j ∷ js)) (j ∷ insert i js))) ≡ bit_xor (get_or env i 0) (bit_xor (get_or env j 0) (total env js))
    by true e u ih =
        sym (xor_zero_l (total env js)) ∙ ap (λ (x : ℕ). bit_xor x (total env js)) (sym (xor_self (get_or env i 0)))
        ∙ xor_assoc (get_or env i 0) (get_or env i 0) (total env js)
        ∙ ap (λ (k : ℕ). bit_xor (get_or env i 0) (bit_xor (get_or env k 0) (total env js))) (eqb-true i j e)
    by false e true ih = refl
    by false e false ih = ap (bit_xor (get_or env j 0)) ih ∙ xor-swap (get_or env j 0) (get_or env i 0) (total env js)

merge-total : (env is js : List ℕ) → total env (merge is js) ≡ bit_xor (total env is) (total env js)
unfolding total
merge-total env [] js = sym (xor_zero_l (total env js))
merge-total env (i ∷ is) js =
    insert-total env i (merge is js) ∙ ap (bit_xor (get_or env i 0)) (merge-total env is js)
    ∙ sym (xor_assoc (get_or env i 0) (total env is) (total env js))

order-total : (env : List ℕ) (s : Term) → total env (order s) ≡ value env s
unfolding total
order-total env (var i) = xor_zero_r (get_or env i 0)
order-total env (both s t) =
    merge-total env (order s) (order t) ∙ ap₂ bit_xor (order-total env s) (order-total env t)

pub solve : (env : List ℕ) (s t : Term) → order s ≡ order t → value env s ≡ value env t
solve env s t e = sym (order-total env s) ∙ ap (total env) e ∙ order-total env t
