-- Words loaded little endian as one polynomial, of up to 256 digits: a fifth behind four of them, three folded into two, and the
-- first of a run.
-- Assumes nothing.
use Prim.Native.Nat.{ℕ, ◌+◌, ◌*◌, ◌/◌, ◌%◌, ◌<◌, ◌≤◌}
use mathlib.Core.Path.{◌≡◌, refl, sym, ap, ap₂, ◌∙◌}
use mathlib.Core.List.{List, [], ◌∷◌}
use native.Mathlib.Nat.{mod-lt}
use native.Mathlib.Omega.{arith}
use lib.Dec.{lit<}
use lib.Bits.{bit_xor, xor_lt, xor_mod, xor_zero_r}
use lib.ListN.{length, drop}
use Rattle.words.specs.LittleEndian.{Little}
use Rattle.checksum.specs.Crc.{shift, shifts, crc_from}
use Rattle.checksum.specs.Polynomial.{rem, rem_little, rem_two, rem_three, rem_four}
use Rattle.checksum.proofs.XorLaws.{xor-shl}
use Rattle.checksum.proofs.XorSolver.{var, both, solve}
use Rattle.checksum.proofs.ShiftLaws.{shifts-lt, shifts-xor, shifts-add, shifts-zero}
use Rattle.checksum.proofs.RemainderLaws.{rem-xor}
use Rattle.checksum.proofs.LittleLaws.{little-lt, little-xor, little-shift}
use Rattle.checksum.proofs.RuleLaws.{rule-128, rule-256, sum-shifts}
use Rattle.checksum.proofs.CrcLaws.{behind, crc-behind, behind-nothing, start-little}

-- a word behind x
behind-lt : (x w : ℕ) → x < 65536 → bit_xor (shifts 64 x) (rem_little 8 w) < 65536
behind-lt x w h = xor_lt 16 (shifts 64 x) (rem_little 8 w) (shifts-lt 64 x h) (little-lt 8 w)

two-lt : (a b : ℕ) → rem_two a b < 65536
unfolding rem_two
two-lt a b = behind-lt (rem_little 8 a) b (little-lt 8 a)

three-lt : (a b c : ℕ) → rem_three a b c < 65536
unfolding rem_three
three-lt a b c = behind-lt (rem_two a b) c (two-lt a b)

pub four-lt : (a b c d : ℕ) → rem_four a b c d < 65536
unfolding rem_four
four-lt a b c d = behind-lt (rem_three a b c) d (three-lt a b c)

-- k shifts of a word
abbrev up : ℕ → ℕ → ℕ
up k w = shifts k (rem_little 8 w)

up_lt : (k w : ℕ) → up k w < 65536
up_lt k w = shifts-lt k (rem_little 8 w) (little-lt 8 w)

-- of the exclusive or of two
up-xor : (k x y : ℕ) → up k (bit_xor x y) ≡ bit_xor (up k x) (up k y)
up-xor k x y = ap (shifts k) (little-xor 8 x y) ∙ shifts-xor k (rem_little 8 x) (rem_little 8 y) (little-lt 8 x) (little-lt 8 y)

-- 64 shifts more
up_more : (k w : ℕ) → shifts 64 (up k w) ≡ shifts (64 + k) (rem_little 8 w)
up_more k w = sym (shifts-add 64 k (rem_little 8 w))

-- what one word behind the other makes, as a sum
three-sum : (a b c : ℕ) → rem_three a b c ≡ bit_xor (bit_xor (up 128 a) (up 64 b)) (rem_little 8 c)
unfolding rem_three rem_two
three-sum a b c =
    ap (λ (x : ℕ). bit_xor x (rem_little 8 c))
    (shifts-xor 64 (up 64 a) (rem_little 8 b) (up_lt 64 a) (little-lt 8 b) ∙ ap (λ (x : ℕ). bit_xor x (up 64 b)) (up_more 64 a))

four-sum : (a b c d : ℕ) → rem_four a b c d ≡ bit_xor (bit_xor (bit_xor (up 192 a) (up 128 b)) (up 64 c)) (rem_little 8 d)
unfolding rem_four
four-sum a b c d =
    ap (λ (x : ℕ). bit_xor x (rem_little 8 d))
    (ap (shifts 64) (three-sum a b c) ∙ sum-shifts 64 (up 128 a) (up 64 b) (rem_little 8 c) (up_lt 128 a) (up_lt 64 b) (little-lt 8 c)
    ∙ ap (λ (x : ℕ). bit_xor x (up 64 c)) (ap₂ bit_xor (up_more 128 a) (up_more 64 b)))

-- 64 shifts more of the four
four-more : (a b c d : ℕ) → shifts 64 (rem_four a b c d) ≡ bit_xor (bit_xor (bit_xor (up 256 a) (up 192 b)) (up 128 c)) (up 64 d)
four-more a b c d =
    let three = bit_xor (bit_xor (up 192 a) (up 128 b)) (up 64 c) in
    let ab-lt = xor_lt 16 (up 192 a) (up 128 b) (up_lt 192 a) (up_lt 128 b) in
    ap (shifts 64) (four-sum a b c d)
    ∙ shifts-xor 64 three (rem_little 8 d) (xor_lt 16 (bit_xor (up 192 a) (up 128 b)) (up 64 c) ab-lt (up_lt 64 c)) (little-lt 8 d)
    ∙ ap (λ (x : ℕ). bit_xor x (up 64 d))
    (sum-shifts 64 (up 192 a) (up 128 b) (up 64 c) (up_lt 192 a) (up_lt 128 b) (up_lt 64 c)
    ∙ ap₂ bit_xor (ap₂ bit_xor (up_more 192 a) (up_more 128 b)) (up_more 64 c))

pub four-take : (a b c d e : ℕ) → a < 18446744073709551616
    → rem_four (bit_xor b a) (bit_xor c (a * 281474976710656 % 18446744073709551616)) (bit_xor d (a / 65536)) (bit_xor e a)
    ≡ bit_xor (shifts 64 (rem_four a b c d)) (rem_little 8 e)
four-take a b c d e h =
    let hi = a * 281474976710656 % 18446744073709551616 in
    let lo = a / 65536 in
    let ra = rem_little 8 a in
    let h80 : up 80 a ≡ bit_xor (up 128 hi) (up 64 lo) =
    shifts-add 64 16 ra ∙ ap (shifts 64) (little-shift 2 6 a h)
    ∙ shifts-xor 64 (up 64 hi) (rem_little 8 lo) (up_lt 64 hi) (little-lt 8 lo) ∙ ap (λ (x : ℕ). bit_xor x (up 64 lo)) (up_more 64 hi) in
    let h256 : up 256 a ≡ bit_xor (bit_xor (up 192 a) (bit_xor (up 128 hi) (up 64 lo))) ra =
    rule-256 ra (little-lt 8 a) ∙ ap (λ (x : ℕ). bit_xor (bit_xor (up 192 a) x) ra) h80 in
    four-sum (bit_xor b a) (bit_xor c hi) (bit_xor d lo) (bit_xor e a)
    ∙ ap₂ bit_xor (ap₂ bit_xor (ap₂ bit_xor (up-xor 192 b a) (up-xor 128 c hi)) (up-xor 64 d lo)) (little-xor 8 e a)
    ∙ solve (up 192 b ∷ up 192 a ∷ up 128 c ∷ up 128 hi ∷ up 64 d ∷ up 64 lo ∷ rem_little 8 e ∷ ra ∷ [])
    (both (both (both (both (var 0) (var 1)) (both (var 2) (var 3))) (both (var 4) (var 5))) (both (var 6) (var 7)))
    (both (both (both (both (both (both (var 1) (both (var 3) (var 5))) (var 7)) (var 0)) (var 2)) (var 4)) (var 6)) refl
    ∙ ap (λ (x : ℕ). bit_xor (bit_xor (bit_xor (bit_xor x (up 192 b)) (up 128 c)) (up 64 d)) (rem_little 8 e)) (sym h256)
    ∙ ap (λ (x : ℕ). bit_xor x (rem_little 8 e)) (sym (four-more a b c d))

-- ---- three words folded into two
module _ (a : ℕ) where
  abbrev half : ℕ
  half = a * 4294967296 % 18446744073709551616

  abbrev quotient : ℕ
  quotient = bit_xor a half

  -- the quotient shifted is the word shifted
  quotient-half : quotient * 4294967296 % 18446744073709551616 ≡ half
  quotient-half =
      let None : half * 4294967296 % 18446744073709551616 ≡ 0 = omega arith in
      ap (λ (x : ℕ). x % 18446744073709551616) (xor-shl a half 32) ∙ xor_mod (a * 4294967296) (half * 4294967296) 64
      ∙ ap (bit_xor half) None ∙ xor_zero_r half

  pub three-fold : (b c : ℕ) → a < 18446744073709551616
      → rem_two (bit_xor (bit_xor b (quotient / 4294967296)) (quotient * 16777216 % 18446744073709551616)) (bit_xor (bit_xor c (quotient / 1099511627776)) quotient)
      ≡ rem_three a b c
  unfolding rem_two
  three-fold b c h =
      let q = quotient in
      let rq = rem_little 8 q in
      let q32 = q / 4294967296 in
      let q24 = q * 16777216 % 18446744073709551616 in
      let q40 = q / 1099511627776 in
      let hq : q < 18446744073709551616 = xor_lt 64 a half h (mod-lt (a * 4294967296) (lit< tt)) in
      let h96 : up 96 q ≡ bit_xor (up 128 half) (up 64 q32) =
      shifts-add 64 32 rq ∙ ap (shifts 64) (little-shift 4 4 q hq ∙ ap (λ (x : ℕ). bit_xor (up 64 x) (rem_little 8 q32)) quotient-half)
      ∙ shifts-xor 64 (up 64 half) (rem_little 8 q32) (up_lt 64 half) (little-lt 8 q32) ∙ ap (λ (x : ℕ). bit_xor x (up 64 q32)) (up_more 64 half) in
      let h128 : up 128 q ≡ bit_xor (bit_xor (bit_xor (up 128 half) (up 64 q32)) (bit_xor (up 64 q24) (rem_little 8 q40))) rq =
      rule-128 rq (little-lt 8 q) ∙ ap₂ (λ (x y : ℕ). bit_xor (bit_xor x y) rq) h96 (little-shift 5 3 q hq) in
      let back : up 128 a ≡ bit_xor (up 128 q) (up 128 half) =
      ap (up 128) (solve (a ∷ half ∷ []) (var 0) (both (both (var 0) (var 1)) (var 1)) refl) ∙ up-xor 128 q half in
      ap₂ bit_xor
      (up-xor 64 (bit_xor b q32) q24 ∙ ap (λ (x : ℕ). bit_xor x (up 64 q24)) (up-xor 64 b q32))
      (little-xor 8 (bit_xor c q40) q ∙ ap (λ (x : ℕ). bit_xor x rq) (little-xor 8 c q40))
      ∙ solve (up 64 b ∷ up 64 q32 ∷ up 64 q24 ∷ rem_little 8 c ∷ rem_little 8 q40 ∷ rq ∷ up 128 half ∷ [])
      (both (both (both (var 0) (var 1)) (var 2)) (both (both (var 3) (var 4)) (var 5)))
      (both (both (both (both (both (both (var 6) (var 1)) (both (var 2) (var 4))) (var 5)) (var 6)) (var 0)) (var 3)) refl
      ∙ ap (λ (x : ℕ). bit_xor (bit_xor x (up 64 b)) (rem_little 8 c)) (sym (back ∙ ap (λ (x : ℕ). bit_xor x (up 128 half)) h128))
      ∙ sym (three-sum a b c)

-- two such folds make two words, v and w, of the four; these are swapped, to x and y, and the first of them is folded, to f
pub four-remainder : (a b c d t u v w x y f : ℕ) → rem_two t u ≡ rem_three a b c → rem_two v w ≡ rem_three t u d
    → rem 64 x ≡ rem_little 8 v → rem 64 f ≡ shifts 64 (rem 64 x) → rem 64 y ≡ rem_little 8 w → rem 64 (bit_xor f y) ≡ rem_four a b c d
unfolding rem_two rem_three rem_four
four-remainder a b c d t u v w x y f once twice ex ef ey =
    rem-xor 64 f y ∙ ap₂ bit_xor (ef ∙ ap (shifts 64) ex) ey ∙ twice ∙ ap (λ (z : ℕ). bit_xor (shifts 64 z) (rem_little 8 d)) once

pub four-first : (s : List ℕ) (a b c d : ℕ) → Little 8 s 0 a → Little 8 s 8 b → Little 8 s 16 c → Little 8 s 24 d → 32 ≤ length s
    → crc_from 65535 s ≡ crc_from (shifts 16 (behind 33999 256 (rem_four a b c d))) (drop 32 s)
unfolding rem_two rem_three rem_four
four-first s a b c d wa wb wc wd long =
    let front : rem_little 8 a ≡ bit_xor (shifts 64 0) (rem_little 8 a) = sym (ap (λ (x : ℕ). bit_xor x (rem_little 8 a)) (shifts-zero 64)) in
    start-little s
    ∙ crc-behind 33999 (lit< tt) 8 0 0 (rem_little 8 a) (lit< tt) front wa (omega arith)
    ∙ crc-behind 33999 (lit< tt) 8 64 (rem_little 8 a) (rem_two a b) (little-lt 8 a) refl wb (omega arith)
    ∙ crc-behind 33999 (lit< tt) 8 128 (rem_two a b) (rem_three a b c) (two-lt a b) refl wc (omega arith)
    ∙ crc-behind 33999 (lit< tt) 8 192 (rem_three a b c) (rem_four a b c d) (three-lt a b c) refl wd long

-- k in the first word makes f of the start
module _ (k f : ℕ) (makes : shifts 256 33999 ≡ bit_xor (up 192 k) (shifts 256 f)) where
  four-begun : (a b c d : ℕ) → behind 33999 256 (rem_four a b c d) ≡ behind f 256 (rem_four (bit_xor a k) b c d)
  unfolding behind
  four-begun a b c d =
      ap₂ bit_xor (four-sum a b c d) makes
      ∙ solve (up 192 a ∷ up 128 b ∷ up 64 c ∷ rem_little 8 d ∷ up 192 k ∷ shifts 256 f ∷ [])
      (both (both (both (both (var 0) (var 1)) (var 2)) (var 3)) (both (var 4) (var 5)))
      (both (both (both (both (both (var 0) (var 4)) (var 1)) (var 2)) (var 3)) (var 5)) refl
      ∙ ap (λ (x : ℕ). bit_xor (bit_xor (bit_xor (bit_xor x (up 128 b)) (up 64 c)) (rem_little 8 d)) (shifts 256 f)) (sym (up-xor 192 a k))
      ∙ ap (λ (x : ℕ). bit_xor x (shifts 256 f)) (sym (four-sum (bit_xor a k) b c d))

-- 18825 makes 6642 of it
pub four-started : (a b c d : ℕ) → behind 33999 256 (rem_four a b c d) ≡ behind 6642 256 (rem_four (bit_xor a 18825) b c d)
four-started = four-begun 18825 6642 (unfold shifts shift rem_little in refl)

-- FFFF leaves nothing of it
pub four-cleared : (a b c d : ℕ) → behind 33999 256 (rem_four a b c d) ≡ rem_four (bit_xor a 65535) b c d
four-cleared a b c d = four-begun 65535 0 (unfold shifts shift rem_little in refl) a b c d ∙ behind-nothing 256 (rem_four (bit_xor a 65535) b c d)
