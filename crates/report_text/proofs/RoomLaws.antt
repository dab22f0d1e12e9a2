-- The text of a report has room in the buffer. Assumes nothing.
use Prim.Native.Nat.{ℕ, suc, ◌+◌, ◌*◌, ◌≤◌, ◌<◌}
use mathlib.Core.Path.{◌≡◌, refl}
use mathlib.Core.Bool.{Bool, true, false, cond}
use mathlib.Core.List.{List, [], ◌∷◌, ◌++◌, map}
use native.Mathlib.Omega.{arith}
use lib.Dec.{eqb}
use lib.ListN.{length, length-append}
use borrow.Author.Tests.{eqb-true}
use Rattle.words.specs.Lists.{keep, concat, numbers_from, is_some}
use Rattle.words.proofs.ListLaws.{All, all_keep, all-range}
use Rattle.words.proofs.PartsLaws.{numbers-length}
use Rattle.flash_model.specs.Measures.{capacity, logical_numbers}
use Rattle.flash_model.specs.Partition.{refusal, Sound, version, contents, live, used}
use Rattle.flash_model.proofs.MeasureLaws.{capacity-most}
use Rattle.flash_model.proofs.RefusalLaws.{refusal-most}
use Rattle.flash_model.proofs.MeaningLaws.{meanings}
use Rattle.flash_model.proofs.SoundLaws.{unrefused-sound}
use Rattle.report_text.specs.Text.{decimal, line, refused_word, partition_word, version_word, user_word, used_word, live_word, block_word, end_line, head_lines, block_lines, text_for}
use Rattle.std.proofs.lemmas.Fmt.{length-decimal-le}
use Rattle.report_text.proofs.DecimalLaws.{decimal_printed}

-- ---- numbers below 10,000 have four digits at most

four-digits : (n : ℕ) → n < 10000 → length (decimal n) ≤ 4
four-digits n h = rw (decimal_printed n (omega arith)) (length-decimal-le 4 n (omega arith) h (omega arith))

pub line-short : (label : List ℕ) (n : ℕ) → n < 10000 → length (line label n) ≤ length label + 6
unfolding line
line-short label n h = simp length-append (omega (arith, four-digits n h))

-- ---- the block lines

lines-short : (l : List ℕ) → All (λ n. n < 10000) l → length (concat (map (line block_word) l)) ≤ length l * 11
lines-short [] a = omega arith
lines-short (n ∷ l) a = simp length-append (omega (arith, lines-short l a.1, line-short block_word n a.0))

keep-shorter : (p : ℕ → Bool) (l : List ℕ) → length (keep p l) ≤ length l
keep-shorter p [] = omega arith
keep-shorter p (x ∷ l) = go (keep-shorter p l) (p x)
  where
    go : length (keep p l) ≤ length l → (t : Bool) → length (cond t (x ∷ keep p l) (keep p l)) ≤ suc (length l)
    go h true = omega arith
    go h false = omega arith

module _ (image : List ℕ) (sound : Sound image) where
  small : capacity (length image) ≤ 1021
  small = capacity-most (length image) ((meanings.sound_means image).0 sound).legal_size_lem

  live-most : live image ≤ capacity (length image)
  unfolding live logical_numbers
  live-most = omega (arith, keep-shorter (λ n. is_some (contents image n)) (numbers_from 0 (capacity (length image))), numbers-length 0 (capacity (length image)))

  blocks-short : length (block_lines image) ≤ 11231
  unfolding block_lines live logical_numbers
  blocks-short =
      let range = numbers_from 0 (capacity (length image)) in
      let below = all_keep (λ n. n < 10000) (λ n. is_some (contents image n)) range
      (all-range (λ n. n < 10000) 0 (capacity (length image)) (λ i a b. omega (arith, b, small))) in
      omega (arith, lines-short (keep (λ n. is_some (contents image n)) range) below, live-most, small)

  head-short : (partition : ℕ) → partition < 10000 → length (head_lines partition (version image) (capacity (length image)) (used image) (live image)) ≤ 58
  unfolding head_lines
  head-short partition h =
      let v = ((meanings.sound_means image).0 sound).right_version in
      let cap = capacity (length image) in
      let one = line-short partition_word partition h in
      let two = line-short version_word (version image) (omega (arith, v)) in
      let three = line-short user_word cap (omega (arith, small)) in
      let four = line-short used_word (used image) (omega (arith, small, meanings.used_most image)) in
      let five = line-short live_word (live image) (omega (arith, small, live-most)) in
      simp length-append (omega (arith, one, two, three, four, five))

-- ---- the whole text

pub text-short : (image : List ℕ) (partition : ℕ) → partition < 10000 → length (text_for image partition) ≤ 12288
unfolding text_for
text-short image partition h = go (eqb (refusal image partition) 0) refl
  where
    go : (t : Bool) → eqb (refusal image partition) 0 ≡ t → length (cond t (head_lines partition (version image) (capacity (length image)) (used image) (live image) ++ (block_lines image ++ end_line)) (line refused_word (refusal image partition))) ≤ 12288
    go true q =
        let s = unrefused-sound image partition (eqb-true (refusal image partition) 0 q) in
        simp length-append (omega (arith, head-short image s partition h, blocks-short image s))
    go false q = omega (arith, line-short refused_word (refusal image partition) (omega (arith, refusal-most image partition)))
