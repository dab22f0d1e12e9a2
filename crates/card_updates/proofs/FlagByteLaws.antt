-- Which bytes of a card are copy flags, as a test: what the proofs go by. Assumes nothing.
use Prim.Native.Nat.{ℕ, ◌+◌, ◌*◌, ◌-◌, ◌/◌, ◌%◌, ◌≤◌, ◌<◌}
use mathlib.Core.Path.{◌≡◌, refl, sym, ◌∙◌}
use mathlib.Core.Bool.{Bool, true, false, ◌&&◌, and-false, true≢false}
use mathlib.Core.Logic.{◌↔◌, ◌≢◌, ◌⊎◌, inl, inr, ⊎_elim}
use native.Mathlib.Omega.{arith}
use lib.Dec.{eqb}
use borrow.Author.Tests.{eqb-true, ne_eqb, le-leb, lt-ltb}
use Rattle.words.proofs.Bools.{and-true-left, and-true-right}
use Rattle.card_model.specs.Layout.{entry_block, entry_byte, entry_place}
use Rattle.card_updates.specs.Flags.{FlagByte, flag_of}
use Rattle.card_updates.proofs.NamedBytes.{in_part}
use Rattle.card_updates.proofs.PartLaws.{in-part-out, in-part-tells}
use Rattle.card_updates.proofs.PlaceLaws.{entry-inside}

-- byte 1 of 32 in the blocks of the directory
unfoldable pub is_flag : ℕ → Bool
is_flag k = in_part (241 * 512) (13 * 512) k && eqb (k % 32) 1

entry-mod : (i : ℕ) → i < 208 → (entry_place i + 1) % 32 ≡ 1
unfolding entry_place entry_block entry_byte
entry-mod i h = omega arith

flag-within : (k : ℕ) → FlagByte k → (123392 ≤ k) × (k < 130048) × (k % 32 ≡ 1)
flag-within k (flag_of i h w) =
    let e : k ≡ entry_place i + 1 = omega (arith, w.0, w.1) in
    let l = entry-inside i h in
    (omega (arith, l.0, e), omega (arith, l.1, e), rw e (entry-mod i h))

-- the entry that this byte is in
entry_of_byte : ℕ → ℕ
entry_of_byte k = 16 * (253 - k / 512) + k % 512 / 32

entry_found : (k : ℕ) → 123392 ≤ k → k < 130048 → k % 32 ≡ 1 → (entry_of_byte k < 208) × (k ≡ entry_place (entry_of_byte k) + 1)
unfolding entry_of_byte entry_place entry_block entry_byte
entry_found k l h m = (omega arith, omega arith)

within-flag : (k : ℕ) → (123392 ≤ k) × (k < 130048) × (k % 32 ≡ 1) → FlagByte k
within-flag k w =
    let f = entry_found k w.0 w.1 w.2 in
    flag_of (entry_of_byte k) f.0 (omega (arith, f.1), omega (arith, f.1))

pub flag_bytes : (k : ℕ) → FlagByte k ↔ ((123392 ≤ k) × (k < 130048) × (k % 32 ≡ 1))
flag_bytes k = (flag-within k, within-flag k)

pub flag_is : (k : ℕ) → is_flag k ≡ true → FlagByte k
unfolding is_flag
flag_is k e =
    let t = in_part (241 * 512) (13 * 512) k in
    let w = in-part-tells (241 * 512) (13 * 512) k (and-true-left t _ e) in
    within-flag k (omega (arith, w.0), omega (arith, w.1), eqb-true _ _ (and-true-right t _ e))

pub no_flag : (k : ℕ) → is_flag k ≡ false → FlagByte k → ⊥
unfolding is_flag in_part
no_flag k e f =
    let w = flag-within k f in
    true≢false (sym (rw (le-leb _ _ w.0, lt-ltb _ _ w.1, w.2)) ∙ e)

-- no flag outside of the directory, and in an entry at no other byte
pub outside : (k : ℕ) → (k < 241 * 512) ⊎ (254 * 512 ≤ k) → is_flag k ≡ false
unfolding is_flag
outside k h = rw (in-part-out (241 * 512) (13 * 512) k (⊎_elim (λ a. inl a) (λ a. inr (omega arith)) h))

pub beside : (i j : ℕ) → i < 208 → j < 32 → j ≢ 1 → is_flag (entry_place i + j) ≡ false
unfolding is_flag entry_place entry_block entry_byte
beside i j h l n = rw (ne_eqb _ _ rest) (and-false (in_part (241 * 512) (13 * 512) (entry_place i + j)))
  where
    rest : (entry_place i + j) % 32 ≢ 1
    rest e = n (omega (arith, e))

pub flag-here : (i : ℕ) → i < 208 → is_flag (entry_place i + 1) ≡ true
flag-here i h = go (is_flag (entry_place i + 1)) refl
  where
    go : (t : Bool) → is_flag (entry_place i + 1) ≡ t → t ≡ true
    go true e = refl
    go false e = absurd (no_flag (entry_place i + 1) e (flag_of i h (omega arith, omega arith)))
