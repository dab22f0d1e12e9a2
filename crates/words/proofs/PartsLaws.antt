-- Laws of a list that is made of parts of one width, as of two-byte numbers, and of what is read at each number of a range.
-- Assumes nothing.
use Prim.Native.Nat.{ℕ, zero, suc, ◌+◌, ◌*◌, ◌≤◌, ◌<◌}
use mathlib.Core.Path.{◌≡◌, refl, sym, ap, ◌∙◌}
use mathlib.Core.List.{List, [], ◌∷◌, ◌++◌, map, append_assoc, append-nil}
use native.Mathlib.Omega.{arith}
use lib.ListN.{length, get_or, take, drop, length-map, drop_of_length-le}
use lib.Seq.{take_at, drop_at, take-length, drop-append-add, get_or-append-add, ext_get_or}
use borrow.Rule.Slice.PartMut.{put_mid}
use Rattle.words.specs.Lists.{concat, numbers_from}
use Rattle.words.specs.Words.{word, word_bytes}
use Rattle.words.proofs.ListLaws.{All, all_map, concat-length, range_at}

module _ {A : Type 0} where
  -- a part of the joined list is that part
  pub part_at : (w : ℕ) (parts : List (List A)) (rest d : List A) (i : ℕ) → All (λ p. length p ≡ w) parts → i < length parts
      → take w (drop (i * w) (concat parts ++ rest)) ≡ get_or parts i d
  part_at w [] rest d i a h = absurd (omega arith)
  part_at w (p ∷ parts) rest d zero a h =
      let e : 0 * w ≡ 0 = omega arith in
      rw (e, append_assoc) (take_at p (concat parts ++ rest) w a.0)
  part_at w (p ∷ parts) rest d (suc i) a h =
      let e : suc i * w ≡ length p + i * w = omega (arith, a.0) in
      ap (λ (j : ℕ). take w (drop j ((p ++ concat parts) ++ rest))) e
      ∙ rw (append_assoc p (concat parts) rest, drop-append-add p (concat parts ++ rest) (i * w)) (part_at w parts rest d i a.1 (omega arith))

module _ {A : Type 0} where
  -- a list that another of its length is copied over
  pub copied-over : (src dst : List A) → length src ≡ length dst → take (length src) src ++ drop (length src) dst ≡ src
  copied-over src dst e =
      let d : length dst ≤ length src = omega arith in
      rw (take-length src, drop_of_length-le dst d) (append-nil src)

-- a part that is lent, written and back: the next one behind those that are written
pub laid : (done part rest : List ℕ) (a k : ℕ) → length done ≡ a → put_mid a k (done ++ rest) part ≡ done ++ part ++ drop k rest
laid done part rest a k e = rw (take_at done rest a e, drop_at done rest a e) (sym (append_assoc done part (drop k rest)))

pub laid-last : (done part rest : List ℕ) (a k : ℕ) → length done ≡ a → length rest ≤ k → put_mid a k (done ++ rest) part ≡ done ++ part
laid-last done part rest a k e h = laid done part rest a k e ∙ rw (drop_of_length-le rest h) (append-nil (done ++ part))

pub numbers-length : (k n : ℕ) → length (numbers_from k n) ≡ n
numbers-length k zero = refl
numbers-length k (suc n) = ap suc (numbers-length (suc k) n)

module _ {A : Type 0} where
  -- a list is what stands at the numbers below its length
  pub numbers-read : (l : List A) (n : ℕ) (d : A) → length l ≡ n → map (λ i. get_or l i d) (numbers_from 0 n) ≡ l
  numbers-read l n d e =
      let f : length (map (λ i. get_or l i d) (numbers_from 0 n)) ≡ n = length-map (numbers_from 0 n) (λ i. get_or l i d) ∙ numbers-length 0 n in
      ext_get_or d (map (λ i. get_or l i d) (numbers_from 0 n)) l (f ∙ sym e)
      (λ i h. range_at (λ j. get_or l j d) 0 n i d (omega (arith, f, h)) ∙ ap (λ (j : ℕ). get_or l j d) (omega arith))

-- ---- two-byte numbers

pub word-past : (front l : List ℕ) (i : ℕ) → word (front ++ l) (length front + i) ≡ word l i
unfolding word
word-past front l i =
    let e : length front + i + 1 ≡ length front + (i + 1) = omega arith in
    rw (e, get_or-append-add front l i 0, get_or-append-add front l (i + 1) 0)

-- of numbers that stand one after the other
pub words-at : (l : List ℕ) (rest : List ℕ) (i : ℕ) → i < length l → word (concat (map word_bytes l) ++ rest) (2 * i) ≡ get_or l i 0
unfolding word word_bytes
words-at [] rest i h = absurd (omega arith)
words-at (n ∷ l) rest zero h = omega arith
words-at (n ∷ l) rest (suc i) h =
    let e : 2 * suc i ≡ suc (suc (2 * i)) = omega arith in
    let f : suc (suc (2 * i)) + 1 ≡ suc (suc (2 * i + 1)) = omega arith in
    rw (e, f) (words-at l rest i (omega arith))

pub words-length : (l : List ℕ) → length (concat (map word_bytes l)) ≡ length l * 2
words-length l =
    concat-length 2 (map word_bytes l) (all_map word_bytes (λ p. length p ≡ 2) l (each l)) ∙ ap (λ (n : ℕ). n * 2) (length-map l word_bytes)
  where
    each : (l : List ℕ) → All (λ n. length (word_bytes n) ≡ 2) l
    each [] = tt
    each (n ∷ l) = (unfold word_bytes in refl, each l)
