-- A new block has its number, its page and a right checksum. Assumes nothing.
use Prim.Native.Nat.{ℕ}
use mathlib.Core.Path.{◌≡◌, refl}
use mathlib.Core.Bool.{true}
use mathlib.Core.List.{List, ◌++◌}
use native.Mathlib.Omega.{arith}
use lib.ListN.{length, length-append, length-take, length-drop}
use lib.Seq.{take_at}
use borrow.Author.Tests.{eq-eqb}
use Rattle.words.specs.Words.{word, word_bytes}
use Rattle.words.proofs.WordLaws.{word_after}
use Rattle.checksum.specs.Crc.{checksum_of}
use Rattle.flash_model.specs.UserBlock.{number, payload, right_checksum, new_block}

module _ (n : ℕ) (page : List ℕ) (l : length page ≡ 60) where
  pub new-length : length (new_block n page) ≡ 64
  unfolding new_block word_bytes
  new-length = simp length-append (omega arith)

  pub new-number : number (new_block n page) ≡ n
  unfolding new_block word_bytes number word
  new-number = omega arith

  pub new-payload : payload (new_block n page) ≡ page
  unfolding new_block word_bytes payload
  new-payload = take_at page (word_bytes (checksum_of (word_bytes n ++ page))) 60 l

  front_length : length (word_bytes n ++ page) ≡ 62
  unfolding word_bytes
  front_length = omega arith

  pub new-right : right_checksum (new_block n page) ≡ true
  unfolding new_block right_checksum
  new-right =
      let v = checksum_of (word_bytes n ++ page) in
      rw (take_at (word_bytes n ++ page) (word_bytes v) 62 front_length, word_after (word_bytes n ++ page) 62 v front_length)
      (eq-eqb v v refl)

pub payload-length : (block : List ℕ) → length block ≡ 64 → length (payload block) ≡ 60
unfolding payload
payload-length block e = simp (length-take, length-drop) (omega arith)
