-- The decimal digits of a number are those that std prints, one more at each step. Assumes nothing.
use Prim.Native.Nat.{ℕ, zero, suc, ◌+◌, ◌/◌, ◌%◌, ◌^◌, ◌≤◌, ◌<◌}
use mathlib.Core.Path.{◌≡◌, refl, sym, ap, ◌∙◌}
use mathlib.Core.Bool.{Bool, true, false}
use mathlib.Core.List.{List, [], ◌∷◌, ◌++◌, append_assoc}
use native.Mathlib.Omega.{arith}
use native.Mathlib.Decide.{dec_lt}
use lib.Dec.{ltb}
use lib.ListN.{length, length-append}
use borrow.Author.Tests.{ltb-false, lt-ltb, le-ltb}
use Rattle.std.proofs.Common.{rules}
use Rattle.std.specs.Fmt as fmt
use Rattle.std.specs.Fmt.{digits}
use Rattle.std.proofs.lemmas.Fmt as printed
use Rattle.report_text.specs.Text.{digit, digits_in, decimal}

-- as many as the number itself are enough
enough : (n : ℕ) → 0 < n → n < 2 ^ 64 → length (fmt.decimal n) ≤ n
enough n h g = go (dec_lt n 10)
  where
    go : Dec (n < 10) → length (fmt.decimal n) ≤ n
    go (yes l) = omega (arith, ap length (printed.decimal_digit n l))
    go (no l) = omega (arith, printed.length-decimal-le_succ (n / 10) (omega arith), simp length-append at (ap length (printed.decimal_step n (omega arith) g)))

pub decimal_printed : (n : ℕ) → n < 2 ^ 64 → decimal n ≡ fmt.decimal n
unfolding decimal digits
decimal_printed zero h = refl
decimal_printed (suc n) h = printed.decimal_from_appends digits_in (search rules) (suc n) (suc n) h (enough (suc n) (omega arith) h)

pub decimal_digit : (n : ℕ) → n < 10 → decimal n ≡ digit (n % 10) ∷ []
decimal_digit n h = let e : n ≡ n % 10 = omega arith in decimal_printed n (omega arith) ∙ printed.decimal_digit n h ∙ ap (λ (d : ℕ). digit d ∷ []) e

-- any bound that is enough gives the same digits
digits-any : (a b n : ℕ) → n ≤ a → n ≤ b → digits_in a n ≡ digits_in b n
digits-any zero zero n h g = refl
digits-any zero (suc b) n h g = sym (rw (lt-ltb n 10 (omega (arith, h))) refl)
digits-any (suc a) zero n h g = rw (lt-ltb n 10 (omega (arith, g))) refl
digits-any (suc a) (suc b) n h g = go (λ x y. digits-any a b (n / 10) x y) (ltb n 10) refl
  where
    go : (n / 10 ≤ a → n / 10 ≤ b → digits_in a (n / 10) ≡ digits_in b (n / 10)) → (t : Bool) → ltb n 10 ≡ t → digits_in (suc a) n ≡ digits_in (suc b) n
    go same true e = rw e refl
    go same false e =
        let l = ltb-false n 10 e in
        rw e (ap (λ (d : List ℕ). d ++ digit (n % 10) ∷ []) (same (omega (arith, l, h)) (omega (arith, l, g))))

pub decimal_step : (n : ℕ) → 10 ≤ n → decimal n ≡ decimal (n / 10) ++ digit (n % 10) ∷ []
unfolding decimal
decimal_step zero h = absurd (omega (arith, h))
decimal_step (suc n) h =
    rw (le-ltb (suc n) 10 h)
    (ap (λ (d : List ℕ). d ++ digit (suc n % 10) ∷ []) (digits-any n (suc n / 10) (suc n / 10) (omega (arith, h)) (omega arith)))

-- what is put digit by digit is the whole
pub decimal_joined : (before : List ℕ) (n : ℕ) → 10 ≤ n → (before ++ decimal (n / 10)) ++ digit (n % 10) ∷ [] ≡ before ++ decimal n
decimal_joined before n h = append_assoc before (decimal (n / 10)) (digit (n % 10) ∷ []) ∙ ap (λ (d : List ℕ). before ++ d) (sym (decimal_step n h))

pub decimal_length : (n : ℕ) → 10 ≤ n → length (decimal n) ≡ length (decimal (n / 10)) + 1
decimal_length n h = simp length-append at (ap length (decimal_step n h))

pub ruleset digit_by_digit = (decimal_digit, decimal_joined, decimal_length)
