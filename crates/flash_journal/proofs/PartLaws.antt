-- What is left of a list when a part of it, lent and written, is back. Assumes nothing.
use Rattle.std.proofs.Common.{w16}
use Rattle.std.specs.Int.{to_le_bytes}
use native.Mathlib.Nat.{mod-eq_of_lt}
use Prim.Native.Nat.{ℕ, ◌+◌, ◌-◌, ◌*◌, ◌/◌, ◌%◌, ◌<◌, ◌≤◌}
use mathlib.Core.Path.{◌≡◌, sym, ap, ◌∙◌}
use mathlib.Core.List.{List, ◌++◌, append_assoc, append-nil}
use native.Mathlib.Omega.{arith}
use lib.ListN.{length, take, drop, length-append, length-drop, drop_of_length-le}
use lib.Seq.{take_at}
use borrow.Rule.Slice.PartMut.{put_mid, Post-is}
use Rattle.words.specs.Words.{word_bytes}
use Rattle.words.proofs.PartsLaws.{laid}
use Rattle.checksum.specs.Crc.{checksum_of}
use Rattle.flash_model.specs.UserBlock.{new_block}
use Rattle.flash_model.specs.Update.{with_block}

-- the two bytes that the library makes of a number
pub le-word : (n : ℕ) → n < 65536 → to_le_bytes w16 n ≡ word_bytes n
unfolding word_bytes
le-word n h =
    let high : n / 256 % 256 ≡ n / 256 = mod-eq_of_lt (omega arith) in
    rw high

pub part-put : (image part : List ℕ) (k : ℕ) → put_mid (k * 64) (k * 64 + 64 - k * 64) image part ≡ with_block image k part
unfolding with_block
part-put image part k =
    rw (Post-is (k * 64) (k * 64 + 64) image (omega arith)) (sym (append_assoc (take (k * 64) image) part (drop (k * 64 + 64) image)))

-- number, page and checksum over the three parts of a block
pub written : {first second third : List ℕ} {sum : ℕ} (block page : List ℕ) (n : ℕ)
    → length block ≡ 64 → length page ≡ 60
    → first ≡ word_bytes n → second ≡ page → sum ≡ checksum_of (take 62 (put_mid 2 60 (put_mid 0 2 block first) second)) → third ≡ word_bytes sum
    → put_mid 62 2 (put_mid 2 60 (put_mid 0 2 block first) second) third ≡ new_block n page
unfolding new_block word_bytes
written {first} {second} {third} {sum} block page n lb lp e1 e2 es e3 =
    let rest = drop 2 block in
    let end = drop 60 rest in
    let l1 : length first ≡ 2 = ap length e1 in
    let l2 : length (first ++ second) ≡ 62 = length-append first second ∙ omega (arith, ap length e2) in
    let le : length end ≤ 2 = simp length-drop (omega arith) in
    let two : put_mid 2 60 (put_mid 0 2 block first) second ≡ first ++ second ++ end = laid first second rest 2 60 l1 in
    let summed : sum ≡ checksum_of (first ++ second) = es ∙ ap checksum_of (ap (take 62) two ∙ take_at (first ++ second) end 62 l2) in
    let all : first ++ second ++ third ≡ word_bytes n ++ page ++ word_bytes (checksum_of (word_bytes n ++ page)) = cc in
    ap (λ (l : List ℕ). put_mid 62 2 l third) two
    ∙ laid (first ++ second) third end 62 2 l2
    ∙ rw (drop_of_length-le end le) (append-nil _ ∙ all)
