-- How the running value goes through the bytes: one byte more at a time, a word of bytes at a time, and nothing left past
-- the end.
-- Assumes nothing.
use Prim.Native.Nat.{ℕ, zero, suc, ◌+◌, ◌-◌, ◌*◌, ◌/◌, ◌%◌, ◌≤◌, ◌<◌}
use mathlib.Core.Path.{◌≡◌, refl, sym, ap, ap₂, ◌∙◌}
use mathlib.Core.List.{List, [], ◌∷◌}
use native.Mathlib.Nat.{add-zero, mod-lt, div-add-mod'}
use native.Mathlib.Numerals.{add-one}
use native.Mathlib.Omega.{arith}
use lib.Dec.{lit<, lit≤}
use lib.Bits.{bit_xor, xor_lt, xor_zero_r}
use lib.ListN.{length, get_or, drop, drop_of_length-le}
use lib.Seq.{drop-cons}
use Rattle.std.specs.Prelude.{fold}
use Rattle.words.specs.BigEndian.{Big}
use Rattle.words.specs.LittleEndian.{Little}
use Rattle.words.proofs.LittleLaws.{little-lt as word_below}
use Rattle.checksum.specs.Crc.{shift, shifts, take_byte, crc_from, checksum_of}
use Rattle.checksum.specs.Polynomial.{rem, rem_little}
use Rattle.checksum.proofs.XorLaws.{xor_assoc, xor_ones}
use Rattle.checksum.proofs.XorSolver.{var, both, solve}
use Rattle.checksum.proofs.ShiftLaws.{shifts-lt, shifts-xor, shifts-add, shifts-swap, shifts-zero}
use Rattle.checksum.proofs.RemainderLaws.{rem_lt, rem-xor, rem-cat, rem-shl, rem-small}
use Rattle.checksum.proofs.LittleLaws.{little-lt, little-more}

pub crc-next : (n i : ℕ) (bytes : List ℕ) → i < length bytes → crc_from n (drop i bytes) ≡ crc_from (take_byte n (get_or bytes i 0)) (drop (i + 1) bytes)
unfolding crc_from
crc-next n i bytes h = rw (add-one, drop-cons bytes i 0)

pub crc-end : (n i : ℕ) (bytes : List ℕ) → length bytes ≤ i → crc_from n (drop i bytes) ≡ n
unfolding crc_from
crc-end n i bytes h = rw drop_of_length-le

pub crc_is_fold : (n : ℕ) (bytes : List ℕ) → crc_from n bytes ≡ fold take_byte n bytes
unfolding crc_from
crc_is_fold n [] = refl
crc_is_fold n (b ∷ bytes) = crc_is_fold (take_byte n b) bytes

-- a byte taken into 16 shifts of r is put behind r
take_behind : (r b : ℕ) → r < 65536 → b < 256 → take_byte (shifts 16 r) b ≡ shifts 16 (bit_xor (shifts 8 r) b)
unfolding take_byte
take_behind r b hr h =
    let b16 : b < 65536 = omega arith in
    let up : b * 256 ≡ shifts 8 b =
    sym (rem-small 16 (b * 256) (lit≤ tt) (omega arith)) ∙ rem-shl 8 8 b ∙ ap (shifts 8) (rem-small 8 b (lit≤ tt) h) in
    shifts-xor 8 (shifts 16 r) (b * 256) (shifts-lt 16 r hr) (omega arith)
    ∙ ap₂ bit_xor (shifts-swap 8 16 r) (ap (shifts 8) up ∙ sym (shifts-add 8 8 b))
    ∙ sym (shifts-xor 16 (shifts 8 r) b (shifts-lt 8 r hr) b16)

-- the digits of a word w behind r, its last byte apart
behind-last : (n r w : ℕ) → r < 65536
    → bit_xor (shifts 8 (bit_xor (shifts (n * 8) r) (rem (n * 8) (w / 256)))) (w % 256) ≡ bit_xor (shifts (suc n * 8) r) (rem (suc n * 8) w)
behind-last n r w h =
    let k = n * 8 in
    let high = rem k (w / 256) in
    let width : 8 + k ≡ suc n * 8 = omega arith in
    let width' : k + 8 ≡ suc n * 8 = omega arith in
    let low : w % 256 < 256 = mod-lt w (lit< tt) in
    let all : bit_xor (shifts 8 high) (w % 256) ≡ rem (k + 8) w =
    ap (bit_xor (shifts 8 high)) (sym (rem-small 8 (w % 256) (lit≤ tt) low)) ∙ sym (rem-cat k 8 (w / 256) (w % 256) low)
    ∙ ap (rem (k + 8)) (div-add-mod' w 256) in
    ap (λ (x : ℕ). bit_xor x (w % 256)) (shifts-xor 8 (shifts k r) high (shifts-lt k r h) (rem_lt k (w / 256)))
    ∙ xor_assoc (shifts 8 (shifts k r)) (shifts 8 high) (w % 256)
    ∙ ap₂ bit_xor (sym (shifts-add 8 k r) ∙ ap (λ (x : ℕ). shifts x r) width) (all ∙ ap (λ (x : ℕ). rem x w) width')

-- to take the n bytes of a word into 16 shifts of r is to put its digits behind r
crc-word : (n : ℕ) {s : List ℕ} {at w : ℕ} (r : ℕ) → r < 65536 → Big n s at w → at + n ≤ length s
    → crc_from (shifts 16 r) (drop at s) ≡ crc_from (shifts 16 (bit_xor (shifts (n * 8) r) (rem (n * 8) w))) (drop (at + n) s)
unfolding rem shifts
crc-word zero {s} {at} {w} r h known long =
    ap₂ (λ (x i : ℕ). crc_from (shifts 16 x) (drop i s)) (sym (xor_zero_r r)) (sym (add-zero at))
crc-word (suc n) {s} {at} {w} r h known long =
    let x = bit_xor (shifts (n * 8) r) (rem (n * 8) (w / 256)) in
    let hx : x < 65536 = xor_lt 16 (shifts (n * 8) r) (rem (n * 8) (w / 256)) (shifts-lt (n * 8) r h) (rem_lt (n * 8) (w / 256)) in
    let next : at + n + 1 ≡ at + suc n = omega arith in
    crc-word n r h (record { says = known.says.0 }) (omega arith)
    ∙ crc-next (shifts 16 x) (at + n) s (omega arith)
    ∙ ap₂ (λ (v i : ℕ). crc_from v (drop i s))
    (ap (take_byte (shifts 16 x)) known.says.1 ∙ take_behind x (w % 256) hx (mod-lt w (lit< tt)) ∙ ap (shifts 16) (behind-last n r w h)) next

-- a byte b behind r, and the n bytes of w behind that
behind-first : (n r b w : ℕ) → r < 65536 → b < 256
    → bit_xor (shifts (n * 8) (bit_xor (shifts 8 r) b)) (rem_little n w) ≡ bit_xor (shifts (suc n * 8) r) (bit_xor (shifts (n * 8) b) (rem_little n w))
behind-first n r b w h hb =
    let width : n * 8 + 8 ≡ suc n * 8 = omega arith in
    ap (λ (x : ℕ). bit_xor x (rem_little n w)) (shifts-xor (n * 8) (shifts 8 r) b (shifts-lt 8 r h) (omega arith))
    ∙ xor_assoc (shifts (n * 8) (shifts 8 r)) (shifts (n * 8) b) (rem_little n w)
    ∙ ap (λ (x : ℕ). bit_xor x (bit_xor (shifts (n * 8) b) (rem_little n w))) (sym (shifts-add (n * 8) 8 r) ∙ ap (λ (x : ℕ). shifts x r) width)

-- the same for a word loaded little endian
crc-little : (n : ℕ) {s : List ℕ} {at w : ℕ} (r : ℕ) → r < 65536 → Little n s at w → at + n ≤ length s
    → crc_from (shifts 16 r) (drop at s) ≡ crc_from (shifts 16 (bit_xor (shifts (n * 8) r) (rem_little n w))) (drop (at + n) s)
unfolding rem_little shifts
crc-little zero {s} {at} {w} r h known long =
    ap₂ (λ (x i : ℕ). crc_from (shifts 16 x) (drop i s)) (sym (xor_zero_r r)) (sym (add-zero at))
crc-little (suc n) {s} {at} {w} r h known long =
    let b = w % 256 in
    let hb : b < 256 = mod-lt w (lit< tt) in
    let x = bit_xor (shifts 8 r) b in
    let hx : x < 65536 = xor_lt 16 (shifts 8 r) b (shifts-lt 8 r h) (omega arith) in
    let next : at + 1 + n ≡ at + suc n = omega arith in
    crc-next (shifts 16 r) at s (omega arith)
    ∙ ap (λ (v : ℕ). crc_from v (drop (at + 1) s)) (ap (take_byte (shifts 16 r)) known.says.0 ∙ take_behind r b h hb)
    ∙ crc-little n x hx (record { says = known.says.1 }) (omega arith)
    ∙ ap₂ (λ (v i : ℕ). crc_from (shifts 16 v) (drop i s)) (behind-first n r b (w / 256) h hb) next

-- a word behind the polynomial a of 64 digits, which a fold has made f
pub crc-fold : (s : List ℕ) (i a f w : ℕ) → rem 64 f ≡ shifts 64 (rem 64 a) → Big 8 s i w → i + 8 ≤ length s
    → crc_from (shifts 16 (rem 64 a)) (drop i s) ≡ crc_from (shifts 16 (rem 64 (bit_xor f w))) (drop (i + 8) s)
crc-fold s i a f w folded known long =
    crc-word 8 (rem 64 a) (rem_lt 64 a) known long
    ∙ ap (λ (x : ℕ). crc_from (shifts 16 x) (drop (i + 8) s)) (sym (rem-xor 64 f w ∙ ap (λ (x : ℕ). bit_xor x (rem 64 w)) folded))

-- the running value begins at FFFF, which 16 shifts make of 33999
start : shifts 16 33999 ≡ 65535
unfolding shifts shift
start = refl

pub start_word : shifts 16 (rem 64 33999) ≡ 65535
unfolding rem shift
start_word = start

-- ---- words loaded little endian, with a start in front of them all

-- the remainder x of k digits behind the start f
unfoldable pub behind : ℕ → ℕ → ℕ → ℕ
behind f k x = bit_xor x (shifts k f)

pub start-little : (s : List ℕ) → crc_from 65535 s ≡ crc_from (shifts 16 (behind 33999 0 0)) (drop 0 s)
unfolding behind shifts
start-little s = ap (λ (x : ℕ). crc_from x s) (sym start)

module _ (f : ℕ) (small : f < 65536) where
  started-lt : (k : ℕ) → shifts k f < 65536
  started-lt k = shifts-lt k f small

  -- t is x with a word behind it
  pub crc-behind : (n k : ℕ) {s : List ℕ} {at w : ℕ} (x t : ℕ) → x < 65536 → t ≡ bit_xor (shifts (n * 8) x) (rem_little n w) → Little n s at w → at + n ≤ length s
      → crc_from (shifts 16 (behind f k x)) (drop at s) ≡ crc_from (shifts 16 (behind f (n * 8 + k) t)) (drop (at + n) s)
  unfolding behind
  crc-behind n k {s} {at} {w} x t h e known long =
      let front = shifts (n * 8) (shifts k f) in
      let moved = shifts (n * 8) x in
      crc-little n (bit_xor x (shifts k f)) (xor_lt 16 x (shifts k f) h (started-lt k)) known long
      ∙ ap (λ (y : ℕ). crc_from (shifts 16 y) (drop (at + n) s))
      (ap (λ (y : ℕ). bit_xor y (rem_little n w)) (shifts-xor (n * 8) x (shifts k f) h (started-lt k))
      ∙ solve (moved ∷ front ∷ rem_little n w ∷ []) (both (both (var 0) (var 1)) (var 2)) (both (both (var 0) (var 2)) (var 1)) refl
      ∙ ap₂ bit_xor (sym e) (sym (shifts-add (n * 8) k f)))

  -- six bytes where the bytes end: 16 shifts stand behind them, and t is x with all that behind it
  pub crc-last : (k : ℕ) {s : List ℕ} {at w : ℕ} (x t : ℕ) → x < 65536 → t ≡ bit_xor (shifts 64 x) (rem_little 8 w) → Little 6 s at w → length s ≡ at + 6
      → crc_from (shifts 16 (behind f k x)) (drop at s) ≡ behind f (64 + k) t
  unfolding behind
  crc-last k {s} {at} {w} x t h e known end =
      let y = bit_xor (shifts 48 x) (rem_little 6 w) in
      let hy : y < 65536 = xor_lt 16 (shifts 48 x) (rem_little 6 w) (shifts-lt 48 x h) (little-lt 6 w) in
      let width : 16 + (48 + k) ≡ 64 + k = omega arith in
      crc-behind 6 k x y h refl known (omega arith)
      ∙ crc-end (shifts 16 (behind f (48 + k) y)) (at + 6) s (omega arith)
      ∙ shifts-xor 16 y (shifts (48 + k) f) hy (started-lt (48 + k))
      ∙ ap₂ bit_xor
      (shifts-xor 16 (shifts 48 x) (rem_little 6 w) (shifts-lt 48 x h) (little-lt 6 w)
      ∙ ap₂ bit_xor (sym (shifts-add 16 48 x)) (sym (little-more 6 2 w (word_below 6 known))) ∙ sym e)
      (sym (shifts-add 16 (48 + k) f) ∙ ap (λ (n : ℕ). shifts n f) width)

-- the same with nothing in front
pub behind-nothing : (k x : ℕ) → behind 0 k x ≡ x
unfolding behind
behind-nothing k x = ap (bit_xor x) (shifts-zero k) ∙ xor_zero_r x

pub crc-taken : (n : ℕ) {s : List ℕ} {at w : ℕ} (x t next : ℕ) → x < 65536 → t ≡ bit_xor (shifts (n * 8) x) (rem_little n w) → Little n s at w → at + n ≤ length s
    → at + n ≡ next → crc_from (shifts 16 x) (drop at s) ≡ crc_from (shifts 16 t) (drop next s)
crc-taken n {s} {at} x t next h e known long behind =
    ap (λ (y : ℕ). crc_from (shifts 16 y) (drop at s)) (sym (behind-nothing 0 x))
    ∙ crc-behind 0 (lit< tt) n 0 x t h e known long
    ∙ ap₂ (λ (y i : ℕ). crc_from (shifts 16 y) (drop i s)) (behind-nothing (n * 8 + 0) t) behind

pub crc-taken-last : {s : List ℕ} {at w : ℕ} (x t : ℕ) → x < 65536 → t ≡ bit_xor (shifts 64 x) (rem_little 8 w) → Little 6 s at w → length s ≡ at + 6
    → crc_from (shifts 16 x) (drop at s) ≡ t
crc-taken-last {s} {at} x t h e known end =
    ap (λ (y : ℕ). crc_from (shifts 16 y) (drop at s)) (sym (behind-nothing 0 x)) ∙ crc-last 0 (lit< tt) 0 x t h e known end ∙ behind-nothing 64 t

-- 6642 leaves FFFF behind 512 digits, which the inversion at the end takes off
pub end-block : (s : List ℕ) (x : ℕ) → x < 65536 → crc_from 65535 s ≡ behind 6642 512 x → x ≡ checksum_of s
unfolding checksum_of behind shifts shift
end-block s x h e =
    let n = bit_xor x 65535 in
    sym (ap (λ (y : ℕ). 65535 - y) e ∙ xor_ones 16 n (xor_lt 16 x 65535 h (lit< tt)) ∙ xor_assoc x 65535 65535 ∙ xor_zero_r x)
