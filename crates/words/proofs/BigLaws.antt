-- Laws of the number that bytes make big endian, over how many they are.
-- Assumes nothing.
use Prim.Native.Nat.{ℕ, zero, suc, ◌+◌, ◌-◌, ◌*◌, ◌/◌, ◌%◌, ◌^◌, ◌<◌, ◌≤◌}
use mathlib.Core.Path.{◌≡◌, refl, sym, ap, ap₂, ◌∙◌, subst, subst⁻¹}
use mathlib.Core.List.{List}
use native.Mathlib.Nat.{add_assoc, add-zero, zero-add, add-suc, mul_assoc, mod-eq_of_lt}
use native.Mathlib.Omega.{arith}
use lib.Bits.{bit_or, or_shifted, or_block}
use lib.ListN.{get_or, take, drop}
use lib.Pow.{pow-add, pow_pos, shl_exact}
use Rattle.std.specs.Int.{w64, from_be_bytes}
use Rattle.std.specs.Array.{IsWholeChunk}
use Rattle.std.proofs.lemmas.List.{get_or-take, get_or-drop}
use Rattle.words.specs.BigEndian.{BigMade, Big}

-- one byte more is eight digits more
pub pow-next : (n : ℕ) → 2 ^ (suc n * 8) ≡ 2 ^ (n * 8) * 256
pow-next n = let e : suc n * 8 ≡ n * 8 + 8 = omega arith in ap (λ (x : ℕ). 2 ^ x) e ∙ pow-add 2 (n * 8) 8

-- a word without its last byte
front : {n : ℕ} {s : List ℕ} {at w : ℕ} → Big (suc n) s at w → Big n s at (w / 256)
front known = record { says = known.says.0 }

pub word_lt : (n : ℕ) {s : List ℕ} {at w : ℕ} → Big n s at w → w < 2 ^ (n * 8)
word_lt zero known = omega (arith, known.says)
word_lt (suc n) {s} {at} {w} known =
    let high : w / 256 < 2 ^ (n * 8) = word_lt n (front known) in
    let e = pow-next n in
    omega arith

-- one byte behind a word
pub word_next : (n : ℕ) {s : List ℕ} {at u : ℕ} (b : ℕ) → Big n s at u → get_or s (at + n) 0 ≡ b → b < 256 → Big (suc n) s at (u * 256 + b)
word_next n {s} {at} {u} b known here h =
    let high : (u * 256 + b) / 256 ≡ u = omega arith in
    let low : (u * 256 + b) % 256 ≡ b = omega arith in
    record { says = (subst⁻¹ (BigMade n s at) high known.says, here ∙ sym low) }

pub word-one : {s : List ℕ} {at : ℕ} (b : ℕ) → get_or s at 0 ≡ b → b < 256 → Big 1 s at b
word-one {s} {at} b here h =
    let none : Big 0 s at 0 = record { says = refl } in
    subst (Big 1 s at) (zero-add b) (word_next 0 b none (ap (λ (i : ℕ). get_or s i 0) (add-zero at) ∙ here) h)

-- one word behind another
pub word-cat : (m n : ℕ) {s : List ℕ} {at u v : ℕ} → Big m s at u → Big n s (at + m) v → Big (m + n) s at (u * 2 ^ (n * 8) + v)
word-cat m zero {s} {at} {u} {v} first second =
    let e : u * 1 + v ≡ u = omega (arith, second.says) in
    subst⁻¹ (λ (k : ℕ). Big k s at (u * 1 + v)) (add-zero m) (subst⁻¹ (Big m s at) e first)
word-cat m (suc n) {s} {at} {u} {v} first second =
    let x = u * 2 ^ (n * 8) in
    let e : u * 2 ^ (suc n * 8) ≡ x * 256 = ap (λ (y : ℕ). u * y) (pow-next n) ∙ sym (mul_assoc u (2 ^ (n * 8)) 256) in
    let high : (u * 2 ^ (suc n * 8) + v) / 256 ≡ x + v / 256 = omega arith in
    let low : (u * 2 ^ (suc n * 8) + v) % 256 ≡ v % 256 = omega arith in
    subst⁻¹ (λ (k : ℕ). Big k s at (u * 2 ^ (suc n * 8) + v)) (add-suc m n)
    record {
      says = (
        subst⁻¹ (BigMade (m + n) s at) high (word-cat m n first (front second)).says,
        ap (λ (i : ℕ). get_or s i 0) (sym (add_assoc at m n)) ∙ second.says.1 ∙ sym low,
      );
    }

-- a byte of a part
pub part-byte : (s : List ℕ) (at m k : ℕ) → k < m → get_or (take m (drop at s)) k 0 ≡ get_or s (at + k) 0
part-byte s at m k h = get_or-take m (drop at s) k 0 h ∙ get_or-drop at s k 0

-- the eight bytes that are lent of a run are those from their place
pub lent-byte : (s : List ℕ) (at : ℕ) (bytes : List ℕ) → IsWholeChunk (take (at + 8 - at) (drop at s)) bytes 8
    → (k : ℕ) → k < 8 → get_or bytes k 0 ≡ get_or s (at + k) 0
lent-byte s at bytes lent k h = ap (λ (l : List ℕ). get_or l k 0) lent.same ∙ part-byte s at (at + 8 - at) k (omega arith)

-- the number that the n bytes from a place make
abbrev pub made : List ℕ → ℕ → ℕ → ℕ
made s at zero = 0
made s at (suc n) = made s at n * 256 + get_or s (at + n) 0

module _ (s : List ℕ) (at : ℕ) (fit : (i : ℕ) → get_or s i 0 < 256) where
  big-made : (n : ℕ) → Big n s at (made s at n)
  big-made zero = record { says = refl }
  big-made (suc n) = word_next n (get_or s (at + n) 0) (big-made n) refl (fit (at + n))

  -- the number that the eight bytes from a place make, however it is come by
  pub big-bytes : {w : ℕ} → w ≡ made s at 8 → Big 8 s at w
  big-bytes same = subst⁻¹ (Big 8 s at) same (big-made 8)

  -- as std makes it of a part that is lent
  pub big-eight : (bytes : List ℕ) {w : ℕ} → IsWholeChunk (take (at + 8 - at) (drop at s)) bytes 8 → w ≡ from_be_bytes w64 bytes → Big 8 s at w
  big-eight bytes {w} lent e =
      let byte = lent-byte s at bytes lent in
      big-bytes (omega arith)

-- the number of a part is that of its bytes in the whole
pub big-part : (n at m : ℕ) {s : List ℕ} {w : ℕ} → n ≤ m → Big n (take m (drop at s)) 0 w → Big n s at w
big-part zero at m h known = record { says = known.says }
big-part (suc n) at m {s} h known =
    let high = big-part n at m {s = s} (omega arith) (record { says = known.says.0 }) in
    record { says = (high.says, sym (part-byte s at m n (omega arith)) ∙ rw zero-add at known.says.1) }

-- ---- joined in machine words (the loads of this crate are each one load, and join nothing)

-- two words in a machine word of w digits
pub word-join : (w m n : ℕ) {s : List ℕ} {at u v : ℕ} → m * 8 + n * 8 ≤ w → Big m s at u → Big n s (at + m) v
    → Big (m + n) s at (bit_or (u * 2 ^ (n * 8) % 2 ^ w) v)
word-join w m n {s} {at} {u} {v} fits first second =
    let exact : u * 2 ^ (n * 8) % 2 ^ w ≡ u * 2 ^ (n * 8) = shl_exact (m * 8) (n * 8) w (word_lt m first) fits in
    subst⁻¹ (Big (m + n) s at) (ap (λ (x : ℕ). bit_or x v) exact ∙ or_shifted u (n * 8) v (word_lt n second)) (word-cat m n first second)

-- a byte b behind u, both shifted by k
or-next : (u b k : ℕ) → b < 256 → bit_or (u * 2 ^ (8 + k)) (b * 2 ^ k) ≡ (u * 256 + b) * 2 ^ k
or-next u b k h =
    ap₂ bit_or (ap (λ (x : ℕ). u * x) (pow-add 2 8 k) ∙ sym (mul_assoc u 256 (2 ^ k)) ∙ sym (add-zero (u * 256 * 2 ^ k))) (sym (add-zero (b * 2 ^ k)))
    ∙ or_block k (u * 256) b 0 0 (pow_pos k) (pow_pos k) ∙ add-zero (bit_or (u * 256) b * 2 ^ k)
    ∙ ap (λ (x : ℕ). x * 2 ^ k) (or_shifted u 8 b h)

-- four bytes in one expression
pub word-four : {s : List ℕ} {at : ℕ} (a b c d : ℕ) → get_or s at 0 ≡ a → get_or s (at + 1) 0 ≡ b → get_or s (at + 2) 0 ≡ c → get_or s (at + 3) 0 ≡ d
    → a < 256 → b < 256 → c < 256 → d < 256
    → Big 4 s at (bit_or (bit_or (bit_or (a * 16777216 % 4294967296) (b * 65536 % 4294967296)) (c * 256 % 4294967296)) d)
word-four {s} {at} a b c d ea eb ec ed ha hb hc hd =
    let a24 : a * 16777216 % 4294967296 ≡ a * 16777216 = mod-eq_of_lt (omega arith) in
    let b16 : b * 65536 % 4294967296 ≡ b * 65536 = mod-eq_of_lt (omega arith) in
    let c8 : c * 256 % 4294967296 ≡ c * 256 = mod-eq_of_lt (omega arith) in
    let all : bit_or (bit_or (bit_or (a * 16777216 % 4294967296) (b * 65536 % 4294967296)) (c * 256 % 4294967296)) d ≡ ((a * 256 + b) * 256 + c) * 256 + d =
    ap (λ (x : ℕ). bit_or x d) (ap₂ bit_or (ap₂ bit_or a24 b16 ∙ or-next a b 16 hb) c8 ∙ or-next (a * 256 + b) c 8 hc)
    ∙ or_shifted ((a * 256 + b) * 256 + c) 8 d hd in
    subst⁻¹ (Big 4 s at) all (word_next 3 d (word_next 2 c (word_next 1 b (word-one a ea ha) eb hb) ec hc) ed hd)
