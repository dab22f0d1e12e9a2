-- What 16 shifts do, and 32, 64, 128 and 256. Over two elements (a + b)^2 = a^2 + b^2, so the square of P = x^16 + x^12 + x^5 + 1
-- has as few terms, with the exponents doubled; and so have the squares of that. Each of them leaves nothing after
-- division by P, so x^32 leaves what x^24 + x^10 + 1 does, x^64 what x^48 + x^20 + 1 does, and so on.
-- Assumes nothing.
use Prim.Native.Nat.{ℕ, zero, suc, ◌+◌, ◌/◌, ◌%◌, ◌<◌}
use mathlib.Core.Path.{◌≡◌, refl, sym, ap, ap₂, ◌∙◌, subst}
use mathlib.Core.List.{[], ◌∷◌}
use native.Mathlib.Nat.{mod-lt}
use native.Mathlib.Omega.{arith}
use lib.Dec.{lit<}
use lib.Bits.{bit_xor, xor_lt}
use Rattle.checksum.specs.Crc.{shift, shifts}
use Rattle.checksum.specs.Polynomial.{rem}
use Rattle.checksum.proofs.XorSolver.{var, both, solve}
use Rattle.checksum.proofs.ShiftLaws.{shift-lt, shifts-lt, shifts-xor, shifts-add, shifts-swap}
use Rattle.checksum.proofs.RemainderLaws.{rem_lt, rem-small}

-- w shifts are i shifts, d shifts and none, added by exclusive or
abbrev pub Holds : ℕ → ℕ → ℕ → ℕ → Type 0
Holds w i d v = shifts w v ≡ bit_xor (bit_xor (shifts i v) (shifts d v)) v

abbrev pub Rule : ℕ → ℕ → ℕ → Type 0
Rule w i d = (v : ℕ) → v < 65536 → Holds w i d v

holds-xor : (w i d a b : ℕ) → a < 65536 → b < 65536 → Holds w i d a → Holds w i d b → Holds w i d (bit_xor a b)
holds-xor w i d a b ha hb p q =
    shifts-xor w a b ha hb ∙ ap₂ bit_xor p q
    ∙ solve (shifts i a ∷ shifts d a ∷ a ∷ shifts i b ∷ shifts d b ∷ b ∷ [])
    (both (both (both (var 0) (var 1)) (var 2)) (both (both (var 3) (var 4)) (var 5)))
    (both (both (both (var 0) (var 3)) (both (var 1) (var 4))) (both (var 2) (var 5))) refl
    ∙ ap (λ (x : ℕ). bit_xor x (bit_xor a b)) (sym (ap₂ bit_xor (shifts-xor i a b ha hb) (shifts-xor d a b ha hb)))

-- the three-fold sum goes through shifts
pub sum-shifts : (k a b c : ℕ) → a < 65536 → b < 65536 → c < 65536
    → shifts k (bit_xor (bit_xor a b) c) ≡ bit_xor (bit_xor (shifts k a) (shifts k b)) (shifts k c)
sum-shifts k a b c ha hb hc =
    shifts-xor k (bit_xor a b) c (xor_lt 16 a b ha hb) hc ∙ ap (λ (x : ℕ). bit_xor x (shifts k c)) (shifts-xor k a b ha hb)

holds-shifts : (w i d k a : ℕ) → a < 65536 → Holds w i d a → Holds w i d (shifts k a)
holds-shifts w i d k a ha p =
    shifts-swap w k a ∙ ap (shifts k) p ∙ sum-shifts k (shifts i a) (shifts d a) a (shifts-lt i a ha) (shifts-lt d a ha) ha
    ∙ ap₂ (λ (x y : ℕ). bit_xor (bit_xor x y) (shifts k a)) (shifts-swap k i a) (shifts-swap k d a)

holds-shift : (w i d a : ℕ) → a < 65536 → Holds w i d a → Holds w i d (shift a)
unfolding shifts
holds-shift w i d a ha p = holds-shifts w i d 1 a ha p

holds-bit : (x : ℕ) → x < 2 → Holds 16 12 5 x
unfolding shifts shift
holds-bit zero h = refl
holds-bit (suc zero) h = refl
holds-bit (suc (suc x)) h = absurd (omega arith)

holds-rem : (k n : ℕ) → Holds 16 12 5 (rem k n)
unfolding rem
holds-rem zero n = holds-bit 0 (lit< tt)
holds-rem (suc k) n =
    holds-xor 16 12 5 (shift (rem k (n / 2))) (n % 2) (shift-lt (rem k (n / 2))) (omega arith)
    (holds-shift 16 12 5 (rem k (n / 2)) (rem_lt k (n / 2)) (holds-rem k (n / 2))) (holds-bit (n % 2) (mod-lt n (lit< tt)))

pub rule-16 : Rule 16 12 5
rule-16 v h = subst (Holds 16 12 5) (rem-small 16 v (omega arith) h) (holds-rem 16 v)

-- the square of a rule
pub rule-double : (w i d : ℕ) → Rule w i d → Rule (w + w) (i + i) (d + d)
rule-double w i d known v h =
    let a = shifts i v in
    let b = shifts d v in
    let ha = shifts-lt i v h in
    let hb = shifts-lt d v h in
    shifts-add w w v ∙ known (shifts w v) (shifts-lt w v h)
    ∙ ap (λ (x : ℕ). bit_xor (bit_xor (shifts i x) (shifts d x)) x) (known v h)
    ∙ ap₂ (λ (x y : ℕ). bit_xor (bit_xor x y) (bit_xor (bit_xor a b) v)) (sum-shifts i a b v ha hb h) (sum-shifts d a b v ha hb h)
    ∙ ap (λ (x : ℕ). bit_xor (bit_xor (bit_xor (bit_xor (shifts i a) x) a) (bit_xor (bit_xor (shifts d a) (shifts d b)) b)) (bit_xor (bit_xor a b) v)) (shifts-swap i d v)
    ∙ solve (shifts i a ∷ shifts d a ∷ a ∷ shifts d b ∷ b ∷ v ∷ [])
    (both (both (both (both (var 0) (var 1)) (var 2)) (both (both (var 1) (var 3)) (var 4))) (both (both (var 2) (var 4)) (var 5)))
    (both (both (var 0) (var 3)) (var 5)) refl
    ∙ ap₂ (λ (x y : ℕ). bit_xor (bit_xor x y) v) (sym (shifts-add i i v)) (sym (shifts-add d d v))

pub rule-32 : Rule 32 24 10
rule-32 = rule-double 16 12 5 rule-16

pub rule-64 : Rule 64 48 20
rule-64 = rule-double 32 24 10 rule-32

pub rule-128 : Rule 128 96 40
rule-128 = rule-double 64 48 20 rule-64

pub rule-256 : Rule 256 192 80
rule-256 = rule-double 128 96 40 rule-128
