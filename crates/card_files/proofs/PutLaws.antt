-- A part of a card that was lent, written and is back, is put anew; a number as the two bytes that are written. Assumes nothing.
use Prim.Native.Nat.{ℕ, ◌+◌, ◌-◌, ◌/◌, ◌%◌, ◌≤◌, ◌<◌}
use mathlib.Core.Path.{◌≡◌, ap, ◌∙◌}
use mathlib.Core.List.{List}
use native.Mathlib.Omega.{arith}
use lib.ListN.{length, take, drop, length-take, length-drop}
use borrow.Rule.Slice.PartMut.{put_mid, Post-is}
use Rattle.std.specs.Int.{w16, to_le_bytes}
use Rattle.words.specs.Words.{word_bytes}
use Rattle.card_updates.specs.Parts.{with_part}

pub le_word : (n : ℕ) → n < 65536 → to_le_bytes w16 n ≡ word_bytes n
unfolding word_bytes
le_word n h =
    let e : n / 256 % 256 ≡ n / 256 = omega arith in
    cc

part-back : (card part : List ℕ) (at n : ℕ) → length part ≡ n → put_mid at (at + n - at) card part ≡ with_part card at part
unfolding with_part
part-back card part at n e = rw (Post-is at (at + n) card (omega arith), e)

-- how long a part is that is lent
pub part_wide : (card : List ℕ) (at n : ℕ) → at + n ≤ length card → length (take (at + n - at) (drop at card)) ≡ n
part_wide card at n h = simp (length-take, length-drop) (omega arith)

-- the part holds these bytes, and its place is known
pub put_back : (card : List ℕ) (n : ℕ) {part new : List ℕ} {at place : ℕ} → part ≡ new → length new ≡ n → at ≡ place
    → put_mid at (at + n - at) card part ≡ with_part card place new
put_back card n {part} {new} {at} e l p =
    part-back card part at n (ap length e ∙ l) ∙ ap (with_part card at) e ∙ ap (λ (k : ℕ). with_part card k new) p

pub ruleset puts = (put_back, le_word, part_wide)
