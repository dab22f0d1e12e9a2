-- Lists of bytes: what is made of bytes is bytes. Assumes nothing.
use Prim.Native.Nat.{ℕ, zero, suc, ◌*◌, ◌-◌, ◌<◌}
use mathlib.Core.Path.{◌≡◌}
use mathlib.Core.Bool.{Bool, true, false, cond, ◌&&◌}
use mathlib.Core.List.{List, [], ◌∷◌, ◌++◌}
use native.Mathlib.Omega.{arith}
use lib.Dec.{ltb}
use borrow.Author.Tests.{ltb-true}
use lib.ListN.{length, get_or, take, drop, set, replicate}
use Rattle.words.specs.Lists.{concat}
use Rattle.words.specs.Words.{word_bytes}
use Rattle.words.proofs.Bools.{and-true-left, and-true-right}
use Rattle.words.proofs.ListLaws.{All}
use Rattle.checksum.specs.Crc.{checksum_of}
use Rattle.flash_model.specs.Measures.{first_bitmap}
use Rattle.flash_model.specs.Bitmap.{bit_byte, bit_weight, allocated_in, cleared, first_cleared}
use Rattle.flash_model.specs.UserBlock.{new_block}
use Rattle.flash_model.specs.Partition.{bitmap_of}
use Rattle.flash_model.specs.Update.{before_bitmap, bits_cleared, rewritten, compacted}
use Rattle.flash_model.specs.Demands.{Bytes}

-- a list of numerals is tested by computation
unfoldable pub small : List ℕ → Bool
small [] = true
small (x ∷ l) = ltb x 256 && small l

pub bytes_small : (l : List ℕ) → small l ≡ true → Bytes l
unfolding small
bytes_small [] e = tt
bytes_small (x ∷ l) e =
    (ltb-true x 256 (and-true-left (ltb x 256) (small l) e), bytes_small l (and-true-right (ltb x 256) (small l) e))

pub bytes-append : (a b : List ℕ) → Bytes a → Bytes b → Bytes (a ++ b)
bytes-append [] b p q = q
bytes-append (x ∷ a) b p q = (p.0, bytes-append a b p.1 q)

pub bytes_take : (n : ℕ) (l : List ℕ) → Bytes l → Bytes (take n l)
bytes_take zero l b = tt
bytes_take (suc n) [] b = tt
bytes_take (suc n) (x ∷ l) b = (b.0, bytes_take n l b.1)

pub bytes_drop : (n : ℕ) (l : List ℕ) → Bytes l → Bytes (drop n l)
bytes_drop zero l b = b
bytes_drop (suc n) [] b = tt
bytes_drop (suc n) (x ∷ l) b = bytes_drop n l b.1

pub bytes-replicate : (n x : ℕ) → x < 256 → Bytes (replicate n x)
bytes-replicate zero x h = tt
bytes-replicate (suc n) x h = (h, bytes-replicate n x h)

bytes-concat : (l : List (List ℕ)) → All Bytes l → Bytes (concat l)
bytes-concat [] a = tt
bytes-concat (b ∷ l) a = bytes-append b (concat l) a.0 (bytes-concat l a.1)

bytes-set : (l : List ℕ) (i v : ℕ) → Bytes l → v < 256 → Bytes (set l i v)
bytes-set [] i v b h = tt
bytes-set (x ∷ l) zero v b h = (h, b.1)
bytes-set (x ∷ l) (suc i) v b h = (b.0, bytes-set l i v b.1 h)

bytes-at : (l : List ℕ) (i : ℕ) → Bytes l → get_or l i 0 < 256
bytes-at [] i b = omega arith
bytes-at (x ∷ l) zero b = b.0
bytes-at (x ∷ l) (suc i) b = bytes-at l i b.1

pub word-bytes : (n : ℕ) → n < 65536 → Bytes (word_bytes n)
unfolding word_bytes
word-bytes n h = (omega arith, (omega arith, tt))

pub new-bytes : (n : ℕ) (page : List ℕ) → n < 65536 → Bytes page → Bytes (new_block n page)
unfolding new_block checksum_of
new-bytes n page h b =
    let front = bytes-append (word_bytes n) page (word-bytes n h) b in
    bytes-append (word_bytes n ++ page) (word_bytes (checksum_of (word_bytes n ++ page))) front (word-bytes (checksum_of (word_bytes n ++ page)) (omega arith))

cleared-bytes : (bits : List ℕ) (k : ℕ) → Bytes bits → Bytes (cleared bits k)
unfolding cleared
cleared-bytes bits k b = bytes-set bits (bit_byte k) _ b (go (allocated_in bits k) (get_or bits (bit_byte k) 0) (bytes-at bits (bit_byte k) b))
  where
    go : (t : Bool) (byte : ℕ) → byte < 256 → cond t byte (byte - bit_weight k) < 256
    go true byte h = h
    go false byte h = omega arith

first-bytes : (bits : List ℕ) (n : ℕ) → Bytes bits → Bytes (first_cleared bits n)
unfolding first_cleared
first-bytes bits zero b = b
first-bytes bits (suc n) b = cleared-bytes (first_cleared bits n) (suc n) (first-bytes bits n b)

pub compacted-bytes : (image : List ℕ) (kept : List (List ℕ)) → Bytes image → All Bytes kept → Bytes (compacted image kept)
unfolding compacted bits_cleared before_bitmap bitmap_of rewritten
compacted-bytes image kept b a =
    let base = rewritten image kept in
    let r : Bytes (rewritten image kept) = bytes-append (take 64 image ++ concat kept) (replicate (length image - 64 * suc (length kept)) 255)
    (bytes-append (take 64 image) (concat kept) (bytes_take 64 image b) (bytes-concat kept a))
    (bytes-replicate (length image - 64 * suc (length kept)) 255 (omega arith)) in
    let at = first_bitmap (length base) * 64 in
    bytes-append (before_bitmap base) (first_cleared (bitmap_of base) (length kept)) (bytes_take at base r)
    (first-bytes (bitmap_of base) (length kept) (bytes_drop at base r))
