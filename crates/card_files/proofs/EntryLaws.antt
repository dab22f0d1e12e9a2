-- The parts of an entry, written one after the other. Assumes nothing.
use Prim.Native.Nat.{ℕ}
use mathlib.Core.Path.{◌≡◌, ap, ◌∙◌}
use mathlib.Core.List.{List, ◌++◌, append_assoc}
use native.Mathlib.Omega.{arith}
use lib.ListN.{length, drop, length-append, length-drop}
use borrow.Rule.Slice.PartMut.{put_mid}
use Rattle.words.specs.Words.{word_bytes}
use Rattle.card_updates.specs.Write.{entry_of}
use Rattle.words.proofs.PartsLaws.{laid, laid-last}
use Rattle.card_files.specs.declared.entries.EntryNumbers.{EntryNumbers}
use Rattle.card_files.specs.Entry.{head_of, tail_of, entry_with}

pub entry_wide : (n : EntryNumbers) (name time : List ℕ) → length name ≡ 12 → length time ≡ 8 → length (entry_with n name time) ≡ 32
unfolding entry_of word_bytes
entry_wide n name time a b =
    let x = length-append name (time ++ tail_of n) in
    let y = length-append time (tail_of n) in
    omega (arith, x, y)

-- name, time and tail over what stands behind the head
module _ (n : EntryNumbers) (rest name time : List ℕ) (l : length rest ≡ 28) (a : length name ≡ 12) (b : length time ≡ 8) where
  pub entry-laid : {head first second tail : List ℕ} → head ≡ head_of n → first ≡ name → second ≡ time → tail ≡ tail_of n
      → put_mid 24 8 (put_mid 16 8 (put_mid 4 12 (head ++ rest) first) second) tail ≡ entry_with n name time
  unfolding entry_of word_bytes
  entry-laid {head} {first} {second} {tail} e f g h =
      let two : put_mid 4 12 (head ++ rest) first ≡ head ++ first ++ drop 12 rest = laid head first rest 4 12 (ap length e) in
      let long : length (head ++ first) ≡ 16 = length-append head first ∙ omega (arith, ap length e, ap length f) in
      let three : put_mid 16 8 (head ++ first ++ drop 12 rest) second ≡ head ++ first ++ second ++ drop 8 (drop 12 rest) =
      laid (head ++ first) second (drop 12 rest) 16 8 long in
      let longer : length (head ++ first ++ second) ≡ 24 = length-append (head ++ first) second ∙ omega (arith, long, ap length g) in
      let left : length (drop 8 (drop 12 rest)) ≡ 8 = simp length-drop (omega arith) in
      ap (λ (s : List ℕ). put_mid 24 8 (put_mid 16 8 s second) tail) two
      ∙ ap (λ (s : List ℕ). put_mid 24 8 s tail) three
      ∙ laid-last (head ++ first ++ second) tail (drop 8 (drop 12 rest)) 24 8 longer (omega arith)
      ∙ rw (e, f, g, h) (append_assoc (head_of n ++ name) time (tail_of n) ∙ append_assoc (head_of n) name (time ++ tail_of n))

pub ruleset entries = (entry_wide, entry-laid)
