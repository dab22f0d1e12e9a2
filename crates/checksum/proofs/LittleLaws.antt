-- The remainder of bytes loaded little endian is linear over the exclusive or. Bytes behind a number shift it, and so does a
-- shift by whole bytes, the other way round.
-- Assumes nothing.
use Prim.Native.Nat.{ℕ, zero, suc, ◌+◌, ◌-◌, ◌*◌, ◌/◌, ◌%◌, ◌^◌, ◌<◌, ◌≤◌}
use mathlib.Core.Path.{◌≡◌, refl, sym, ap, ap₂, ◌∙◌, subst}
use mathlib.Core.List.{[], ◌∷◌}
use native.Mathlib.Nat.{mod-lt, add-zero, zero-add, suc-add, add_comm, add-mul, zero-mul, mul_assoc, mul-mod_left, div-add-mod'}
use native.Mathlib.Omega.{arith}
use lib.Dec.{lit<, lit≤}
use lib.Bits.{bit_xor, xor_lt, xor_shr, xor_mod, xor_zero_r}
use lib.Pow.{pow_pos, shl-shr, shr_lt, shl_exact, mod-pow-add}
use Rattle.std.specs.Int.{w64, swap_bytes}
use Rattle.std.proofs.lemmas.Nat.{mul-add-lt}
use Rattle.words.proofs.BigLaws.{pow-next}
use Rattle.checksum.specs.Crc.{shifts}
use Rattle.checksum.specs.Polynomial.{rem, rem_little}
use Rattle.checksum.proofs.XorLaws.{xor_assoc}
use Rattle.checksum.proofs.XorSolver.{var, both, solve}
use Rattle.checksum.proofs.ShiftLaws.{shifts-lt, shifts-xor, shifts-add, shifts-zero}
use Rattle.checksum.proofs.RemainderLaws.{rem-zero, rem-xor, rem-shl, rem-cat, rem-small, rem-more}

low-lt : (w : ℕ) → w % 256 < 65536
low-lt w = omega arith

pub little-lt : (n w : ℕ) → rem_little n w < 65536
unfolding rem_little
little-lt zero w = lit< tt
little-lt (suc n) w =
    xor_lt 16 (shifts (n * 8) (w % 256)) (rem_little n (w / 256)) (shifts-lt (n * 8) (w % 256) (low-lt w)) (little-lt n (w / 256))

pub little-xor : (n a b : ℕ) → rem_little n (bit_xor a b) ≡ bit_xor (rem_little n a) (rem_little n b)
unfolding rem_little
little-xor zero a b = refl
little-xor (suc n) a b =
    let k = n * 8 in
    let x = a % 256 in
    let y = b % 256 in
    let u = rem_little n (a / 256) in
    let v = rem_little n (b / 256) in
    ap₂ (λ (l h : ℕ). bit_xor (shifts k l) (rem_little n h)) (xor_mod a b 8) (xor_shr a b 8)
    ∙ ap₂ bit_xor (shifts-xor k x y (low-lt a) (low-lt b)) (little-xor n (a / 256) (b / 256))
    ∙ solve (shifts k x ∷ shifts k y ∷ u ∷ v ∷ [])
    (both (both (var 0) (var 1)) (both (var 2) (var 3))) (both (both (var 0) (var 2)) (both (var 1) (var 3))) refl

little-zero : (n : ℕ) → rem_little n 0 ≡ 0
unfolding rem_little
little-zero zero = refl
little-zero (suc n) = ap₂ bit_xor (shifts-zero (n * 8)) (little-zero n)

-- the m bytes of l are followed by those of h
little-cat : (m n l h : ℕ) → l < 2 ^ (m * 8)
    → rem_little (m + n) (h * 2 ^ (m * 8) + l) ≡ bit_xor (shifts (n * 8) (rem_little m l)) (rem_little n h)
unfolding rem_little
little-cat zero n l h lt =
    let same : h * 1 + l ≡ h = omega arith in
    ap₂ rem_little (zero-add n) same ∙ sym (ap (λ (x : ℕ). bit_xor x (rem_little n h)) (shifts-zero (n * 8)))
little-cat (suc m) n l h lt =
    let x = h * 2 ^ (m * 8) in
    let next = pow-next m in
    let e : h * 2 ^ (suc m * 8) ≡ x * 256 = ap (λ (y : ℕ). h * y) next ∙ sym (mul_assoc h (2 ^ (m * 8)) 256) in
    let low : (h * 2 ^ (suc m * 8) + l) % 256 ≡ l % 256 = omega arith in
    let high : (h * 2 ^ (suc m * 8) + l) / 256 ≡ x + l / 256 = omega arith in
    let width : (m + n) * 8 ≡ n * 8 + m * 8 = omega arith in
    let front = rem_little m (l / 256) in
    ap (λ (k : ℕ). rem_little k (h * 2 ^ (suc m * 8) + l)) (suc-add m n)
    ∙ ap₂ (λ (b r : ℕ). bit_xor (shifts ((m + n) * 8) b) (rem_little (m + n) r)) low high
    ∙ ap₂ bit_xor (ap (λ (k : ℕ). shifts k (l % 256)) width ∙ shifts-add (n * 8) (m * 8) (l % 256)) (little-cat m n (l / 256) h (omega arith))
    ∙ sym (xor_assoc (shifts (n * 8) (shifts (m * 8) (l % 256))) (shifts (n * 8) front) (rem_little n h))
    ∙ ap (λ (x : ℕ). bit_xor x (rem_little n h))
    (sym (shifts-xor (n * 8) (shifts (m * 8) (l % 256)) front (shifts-lt (m * 8) (l % 256) (low-lt l)) (little-lt m (l / 256))))

-- bytes that are 0 behind the n of w shift it
pub little-more : (n m w : ℕ) → w < 2 ^ (n * 8) → rem_little (n + m) w ≡ shifts (m * 8) (rem_little n w)
little-more n m w h =
    ap (rem_little (n + m)) (sym (ap (λ (x : ℕ). x + w) (zero-mul (2 ^ (n * 8))) ∙ zero-add w)) ∙ little-cat n m w 0 h
    ∙ ap (bit_xor (shifts (m * 8) (rem_little n w))) (little-zero m) ∙ xor_zero_r (shifts (m * 8) (rem_little n w))

-- bytes that are 0 before it change nothing
little-shl : (m n w : ℕ) → rem_little (m + n) (w * 2 ^ (m * 8)) ≡ rem_little n w
little-shl m n w =
    ap (rem_little (m + n)) (sym (add-zero (w * 2 ^ (m * 8)))) ∙ little-cat m n 0 w (pow_pos (m * 8))
    ∙ ap (λ (x : ℕ). bit_xor (shifts (n * 8) x) (rem_little n w)) (little-zero m)
    ∙ ap (λ (x : ℕ). bit_xor x (rem_little n w)) (shifts-zero (n * 8))

-- a machine word of j + k bytes times x^(8 j): its first j bytes move out at the top, which a shift left by k bytes leaves
pub little-shift : (j k a : ℕ) → a < 2 ^ ((j + k) * 8)
    → shifts (j * 8) (rem_little (j + k) a)
    ≡ bit_xor (shifts ((j + k) * 8) (rem_little (j + k) (a * 2 ^ (k * 8) % 2 ^ ((j + k) * 8)))) (rem_little (j + k) (a / 2 ^ (j * 8)))
little-shift j k a h =
    let low = a % 2 ^ (j * 8) in
    let high = a / 2 ^ (j * 8) in
    let width : (j + k) * 8 ≡ j * 8 + k * 8 = add-mul j k 8 in
    let swapped : (w : ℕ) → rem_little (j + k) w ≡ rem_little (k + j) w = λ w. ap (λ (x : ℕ). rem_little x w) (add_comm j k) in
    let kept : a * 2 ^ (k * 8) % 2 ^ ((j + k) * 8) ≡ low * 2 ^ (k * 8) =
    ap (λ (x : ℕ). a * 2 ^ (k * 8) % 2 ^ x) width ∙ mod-pow-add (a * 2 ^ (k * 8)) (j * 8) (k * 8)
    ∙ ap₂ (λ (x y : ℕ). x % 2 ^ (j * 8) * 2 ^ (k * 8) + y) (shl-shr a (k * 8)) (mul-mod_left a (2 ^ (k * 8))) ∙ add-zero (low * 2 ^ (k * 8)) in
    let small : high < 2 ^ (k * 8) = shr_lt (k * 8) (j * 8) (subst (λ (x : ℕ). a < 2 ^ x) (width ∙ add_comm (j * 8) (k * 8)) h) in
    let out : rem_little (j + k) (a * 2 ^ (k * 8) % 2 ^ ((j + k) * 8)) ≡ rem_little j low =
    ap (rem_little (j + k)) kept ∙ swapped (low * 2 ^ (k * 8)) ∙ little-shl k j low in
    let left : rem_little (j + k) high ≡ shifts (j * 8) (rem_little k high) = swapped high ∙ little-more k j high small in
    ap (λ (x : ℕ). shifts (j * 8) (rem_little (j + k) x)) (sym (div-add-mod' a (2 ^ (j * 8))))
    ∙ ap (shifts (j * 8)) (little-cat j k low high (mod-lt a (pow_pos (j * 8))))
    ∙ shifts-xor (j * 8) (shifts (k * 8) (rem_little j low)) (rem_little k high) (shifts-lt (k * 8) (rem_little j low) (little-lt j low)) (little-lt k high)
    ∙ ap₂ bit_xor
    (sym (shifts-add (j * 8) (k * 8) (rem_little j low)) ∙ ap₂ shifts (sym width) (sym out)) (sym left)

-- ---- the bytes of x in the other order

abbrev swapped : ℕ → ℕ → ℕ
swapped zero x = 0
swapped (suc n) x = x % 256 * 2 ^ (n * 8) + swapped n (x / 256)

swapped-lt : (n x : ℕ) → swapped n x < 2 ^ (n * 8)
swapped-lt zero x = lit< tt
swapped-lt (suc n) x = rw pow-next (mul-add-lt (x % 256) (2 ^ (n * 8)) (swapped n (x / 256)) 256 (mod-lt x (lit< tt)) (swapped-lt n (x / 256)))

rem-swapped : (n x : ℕ) → rem (n * 8) (swapped n x) ≡ rem_little n x
unfolding rem rem_little
rem-swapped zero x = refl
rem-swapped (suc n) x =
    let b = x % 256 in
    let rest = swapped n (x / 256) in
    let hb : b < 256 = mod-lt x (lit< tt) in
    let width : suc n * 8 ≡ 8 + n * 8 = omega arith in
    ap (λ (k : ℕ). rem k (b * 2 ^ (n * 8) + rest)) width ∙ rem-cat 8 (n * 8) b rest (swapped-lt n (x / 256))
    ∙ ap₂ bit_xor (ap (shifts (n * 8)) (rem-small 8 b (lit≤ tt) hb)) (rem-swapped n (x / 256))

pub rem-swap-bytes : (x : ℕ) → rem 64 (swap_bytes w64 x) ≡ rem_little 8 x
rem-swap-bytes x =
    let same : swap_bytes w64 x ≡ swapped 8 x = omega arith in
    ap (rem 64) same ∙ rem-swapped 8 x

-- ---- the bytes of x one by one, the lowest put on top of a word of 64 digits

-- a byte shifted up
byte-up : (k b : ℕ) → k ≤ 56 → b < 256 → rem 64 (b * 2 ^ k % 18446744073709551616) ≡ shifts k b
byte-up k b fits h =
    let j = 56 - k in
    let width : j + 8 + k ≡ 64 = omega arith in
    ap (rem 64) (shl_exact 8 k 64 h (omega arith))
    ∙ ap (λ (x : ℕ). rem x (b * 2 ^ k)) (sym width) ∙ rem-shl (j + 8) k b
    ∙ ap (shifts k) (rem-more j 8 b h ∙ rem-small 8 b (lit≤ tt) h)

-- t is the remainder of what is put into `done` and of the bytes of y, which are left: the first of them is put there too
pub swap-next : (n y z done : ℕ) {t : ℕ} → n * 8 ≤ 56 → y / 256 ≡ z → t ≡ bit_xor (rem 64 done) (rem_little (suc n) y)
    → t ≡ bit_xor (rem 64 (bit_xor done (y % 256 * 2 ^ (n * 8) % 18446744073709551616))) (rem_little n z)
unfolding rem_little
swap-next n y z done {t} fits rest e =
    let b = y % 256 in
    let up = b * 2 ^ (n * 8) % 18446744073709551616 in
    e ∙ sym (xor_assoc (rem 64 done) (shifts (n * 8) b) (rem_little n (y / 256)))
    ∙ ap₂ (λ (u v : ℕ). bit_xor (bit_xor (rem 64 done) u) (rem_little n v)) (sym (byte-up (n * 8) b fits (mod-lt y (lit< tt)))) rest
    ∙ ap (λ (u : ℕ). bit_xor u (rem_little n z)) (sym (rem-xor 64 done up))

pub swap-start : (x : ℕ) → rem_little 8 x ≡ bit_xor (rem 64 0) (rem_little 8 x)
swap-start x = sym (ap (λ (u : ℕ). bit_xor u (rem_little 8 x)) (rem-zero 64))

-- the last of them stands at the end as it is
pub swap-end : (y done : ℕ) {t : ℕ} → t ≡ bit_xor (rem 64 done) (rem_little 1 y) → t ≡ rem 64 (bit_xor done (y % 256))
unfolding rem_little shifts
swap-end y done {t} e =
    let low : y % 256 < 256 = mod-lt y (lit< tt) in
    e ∙ ap (bit_xor (rem 64 done)) (xor_zero_r (y % 256) ∙ sym (rem-more 56 8 (y % 256) low ∙ rem-small 8 (y % 256) (lit≤ tt) low))
    ∙ sym (rem-xor 64 done (y % 256))
