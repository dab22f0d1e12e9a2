-- Laws of the number that bytes make little endian, over how many they are.
-- Assumes nothing.
use Prim.Native.Nat.{ℕ, zero, suc, ◌+◌, ◌-◌, ◌*◌, ◌/◌, ◌%◌, ◌^◌, ◌<◌, ◌≤◌}
use mathlib.Core.Path.{◌≡◌, refl, sym, ap, ◌∙◌, subst, subst⁻¹}
use mathlib.Core.List.{List}
use native.Mathlib.Nat.{add-zero, zero-add, suc-add, mul_assoc}
use native.Mathlib.Omega.{arith}
use lib.Bits.{bit_or, or_shifted_r}
use lib.ListN.{get_or, take, drop}
use lib.Pow.{shl_exact}
use Rattle.std.specs.Int.{w64, from_le_bytes}
use Rattle.std.specs.Array.{IsWholeChunk}
use Rattle.words.specs.LittleEndian.{LittleMade, Little, repeated}
use Rattle.words.proofs.BigLaws.{pow-next, part-byte, lent-byte}

-- a word without its first byte
rest : {n : ℕ} {s : List ℕ} {at w : ℕ} → Little (suc n) s at w → Little n s (at + 1) (w / 256)
rest known = record { says = known.says.1 }

-- a word without its first two bytes
pub without_two : {n : ℕ} {s : List ℕ} {at w : ℕ} → Little (suc (suc n)) s at w → Little n s (at + 2) (w / 65536)
without_two {n} {s} {at} {w} known =
    let place : at + 1 + 1 ≡ at + 2 = omega arith in
    let number : w / 256 / 256 ≡ w / 65536 = omega arith in
    subst (λ (i : ℕ). Little n s i (w / 65536)) place (subst (Little n s (at + 1 + 1)) number (rest (rest known)))

pub little-lt : (n : ℕ) {s : List ℕ} {at w : ℕ} → Little n s at w → w < 2 ^ (n * 8)
little-lt zero known = omega (arith, known.says)
little-lt (suc n) {s} {at} {w} known =
    let high : w / 256 < 2 ^ (n * 8) = little-lt n (rest known) in
    let e = pow-next n in
    omega arith

pub little-one : {s : List ℕ} {at : ℕ} (b : ℕ) → get_or s at 0 ≡ b → b < 256 → Little 1 s at b
little-one {s} {at} b here h =
    let low : b % 256 ≡ b = omega arith in
    let high : b / 256 ≡ 0 = omega arith in
    record { says = (here ∙ sym low, high) }

-- one word behind another
little-cat : (m n : ℕ) {s : List ℕ} {at u v : ℕ} → Little m s at u → Little n s (at + m) v → Little (m + n) s at (v * 2 ^ (m * 8) + u)
little-cat zero n {s} {at} {u} {v} first second =
    let e : v * 1 + u ≡ v = omega (arith, first.says) in
    subst⁻¹ (λ (k : ℕ). Little k s at (v * 1 + u)) (zero-add n)
    (subst⁻¹ (Little n s at) e (subst (λ (i : ℕ). Little n s i v) (add-zero at) second))
little-cat (suc m) n {s} {at} {u} {v} first second =
    let x = v * 2 ^ (m * 8) in
    let e : v * 2 ^ (suc m * 8) ≡ x * 256 = ap (λ (y : ℕ). v * y) (pow-next m) ∙ sym (mul_assoc v (2 ^ (m * 8)) 256) in
    let low : (v * 2 ^ (suc m * 8) + u) % 256 ≡ u % 256 = omega arith in
    let high : (v * 2 ^ (suc m * 8) + u) / 256 ≡ x + u / 256 = omega arith in
    let next : at + suc m ≡ at + 1 + m = omega arith in
    subst⁻¹ (λ (k : ℕ). Little k s at (v * 2 ^ (suc m * 8) + u)) (suc-add m n)
    record {
      says = (
        first.says.0 ∙ sym low,
        subst⁻¹ (LittleMade (m + n) s (at + 1)) high (little-cat m n (rest first) (subst (λ (i : ℕ). Little n s i v) next second)).says,
      );
    }

-- two words in a machine word of w digits
pub little-join : (w m n : ℕ) {s : List ℕ} {at u v : ℕ} → n * 8 + m * 8 ≤ w → Little m s at u → Little n s (at + m) v
    → Little (m + n) s at (bit_or u (v * 2 ^ (m * 8) % 2 ^ w))
little-join w m n {s} {at} {u} {v} fits first second =
    let exact : v * 2 ^ (m * 8) % 2 ^ w ≡ v * 2 ^ (m * 8) = shl_exact (n * 8) (m * 8) w (little-lt n second) fits in
    subst⁻¹ (Little (m + n) s at) (ap (bit_or u) exact ∙ or_shifted_r v (m * 8) u (little-lt m first)) (little-cat m n first second)

-- the number that n bytes make, from the one at k behind a place
abbrev pub made : List ℕ → ℕ → ℕ → ℕ → ℕ
made s at k zero = 0
made s at k (suc n) = get_or s (at + k) 0 + 256 * made s at (k + 1) n

module _ (s : List ℕ) (fit : (i : ℕ) → get_or s i 0 < 256) (at : ℕ) where
  little-made : (n k : ℕ) → Little n s (at + k) (made s at k n)
  little-made zero k = record { says = refl }
  little-made (suc n) k =
      let w = get_or s (at + k) 0 + 256 * made s at (k + 1) n in
      let b = fit (at + k) in
      let low : w % 256 ≡ get_or s (at + k) 0 = omega arith in
      let high : w / 256 ≡ made s at (k + 1) n = omega arith in
      let next : at + (k + 1) ≡ at + k + 1 = omega arith in
      record { says = (sym low, subst⁻¹ (LittleMade n s (at + k + 1)) high (subst (λ (i : ℕ). Little n s i (made s at (k + 1) n)) next (little-made n (k + 1))).says) }

  -- the number that the eight bytes from a place make, however it is come by
  pub little-bytes : {w : ℕ} → w ≡ made s at 0 8 → Little 8 s at w
  little-bytes {w} same = subst (λ (i : ℕ). Little 8 s i w) (add-zero at) (subst⁻¹ (Little 8 s (at + 0)) same (little-made 8 0))

  -- as std makes it of a part that is lent
  pub little-eight : (bytes : List ℕ) {w : ℕ} → IsWholeChunk (take (at + 8 - at) (drop at s)) bytes 8 → w ≡ from_le_bytes w64 bytes → Little 8 s at w
  little-eight bytes {w} lent e =
      let byte = lent-byte s at bytes lent in
      little-bytes (omega arith)

-- the number of a part is that of its bytes in the whole
pub little-part : (n at m : ℕ) {s : List ℕ} {w : ℕ} → n ≤ m → Little n (take m (drop at s)) 0 w → Little n s at w
little-part n at m {s} {w} h known = subst (λ (i : ℕ). Little n s i w) (add-zero at) (from n 0 (omega arith) known)
  where
    from : (n k : ℕ) {w : ℕ} → k + n ≤ m → Little n (take m (drop at s)) k w → Little n s (at + k) w
    from zero k h known = record { says = known.says }
    from (suc n) k {w} h known =
        let next : at + (k + 1) ≡ at + k + 1 = omega arith in
        let later = subst (λ (i : ℕ). Little n s i (w / 256)) next (from n (k + 1) (omega arith) (record { says = known.says.1 })) in
        record { says = (sym (part-byte s at m k (omega arith)) ∙ known.says.0, later.says) }

-- ---- bytes that are all alike

-- where the word is that of n bytes b, each byte is b
pub little-repeated : (b n : ℕ) {s : List ℕ} {at w : ℕ} → b < 256 → Little n s at w → w ≡ repeated b n → (k : ℕ) → k < n → get_or s (at + k) 0 ≡ b
little-repeated b zero h known e k lt = absurd (omega arith)
little-repeated b (suc n) {s} {at} {w} h known e zero lt =
    let low : w % 256 ≡ b = omega arith in
    ap (λ (i : ℕ). get_or s i 0) (add-zero at) ∙ known.says.0 ∙ low
little-repeated b (suc n) {s} {at} {w} h known e (suc k) lt =
    let high : w / 256 ≡ repeated b n = omega arith in
    let next : at + suc k ≡ at + 1 + k = omega arith in
    ap (λ (i : ℕ). get_or s i 0) next ∙ little-repeated b n h (rest known) high k (omega arith)

-- .. and where each is, the word is that
pub repeated-little : (b n : ℕ) {s : List ℕ} {at w : ℕ} → Little n s at w → ((k : ℕ) → k < n → get_or s (at + k) 0 ≡ b) → w ≡ repeated b n
repeated-little b zero known alike = known.says
repeated-little b (suc n) {s} {at} {w} known alike =
    let low : w % 256 ≡ b = sym known.says.0 ∙ ap (λ (i : ℕ). get_or s i 0) (sym (add-zero at)) ∙ alike 0 (omega arith) in
    let high : w / 256 ≡ repeated b n = repeated-little b n (rest known) (λ k h. ap (λ (i : ℕ). get_or s i 0) (next k) ∙ alike (suc k) (omega arith)) in
    omega arith
  where
    next : (k : ℕ) → at + 1 + k ≡ at + suc k
    next k = omega arith
