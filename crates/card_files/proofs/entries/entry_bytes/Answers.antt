use Rattle.std.proofs.Common.{◌≡◌, ◌≤◌, ℕ, List, length, arith, length-append}
use borrow.Rule.Slice.PartMut.{put_mid, mid_of, same_len_mid}
use Rattle.card_files.proofs.entries.entry_bytes.Goals as goal

-- a part that was written leaves the array as long as it was
still-fits : (a k : ℕ) (xs ys : List ℕ) (n : ℕ) → length ys ≡ length (mid_of a k xs) → n ≤ length xs → n ≤ length (put_mid a k xs ys)
still-fits a k xs ys n e h = rw (same_len_mid a k xs ys e) h

pub slice_bounds-entry-end-4 : goal.slice_bounds-entry-end-4
slice_bounds-entry-end-4 c =
    still-fits 16 8 _ _ 32 c.copy_from_slice-3.ensures.len
    (still-fits 4 12 _ _ 32 c.copy_from_slice-2.ensures.len (simp length-append (omega arith)))
