-- Steps along the table, and the blocks of a chain that they lead to. Assumes nothing.
use Prim.Native.Nat.{ℕ, zero, suc, ◌-◌, ◌<◌}
use mathlib.Core.Path.{◌≡◌, refl}
use mathlib.Core.List.{List}
use Rattle.std.specs.Prelude.{Some}
use native.Mathlib.Omega.{arith}
use lib.ListN.{get_or}
use Rattle.card_model.specs.declared.Link.{Link}
use Rattle.card_model.specs.declared.Link.TheVariants.{Free, Damaged, Last, Next, Bad}
use Rattle.card_model.specs.Table.{link_at}
use Rattle.card_model.specs.Files.{chain}
use Rattle.card_model.proofs.ChainLaws.{Links, ends, goes, chain-links}
use Rattle.card_chains.specs.Steps.{step_from, block_after}

pub after_none : (table : List ℕ) (b steps : ℕ) → steps ≡ 0 → block_after table b steps ≡ b
unfolding block_after
after_none table b steps z = rw z

pub after_next : (table : List ℕ) (b steps n : ℕ) → (steps ≡ 0 → ⊥) → link_at table b ≡ Next n → block_after table b steps ≡ block_after table n (steps - 1)
unfolding block_after
after_next table b zero n h told = absurd (h refl)
after_next table b (suc steps) n h told =
    let p : suc steps - 1 ≡ steps = omega arith in
    rw (told, p)

-- where a step leads to the block itself
pub after_stop : (table : List ℕ) (b steps : ℕ) → step_from b (link_at table b) ≡ b → block_after table b steps ≡ b
unfolding block_after
after_stop table b zero s = refl
after_stop table b (suc steps) s = rw s (after_stop table b steps s)

-- as where no block follows
pub after_last : (table : List ℕ) (b steps : ℕ) → ((n : ℕ) → link_at table b ≡ Next n → ⊥) → block_after table b steps ≡ b
after_last table b steps none = after_stop table b steps (stays (link_at table b) none)
  where
    stays : (l : Link) → ((n : ℕ) → l ≡ Next n → ⊥) → step_from b l ≡ b
    stays (Next n) none = absurd (none n refl)
    stays Last none = refl
    stays Free none = refl
    stays Damaged none = refl
    stays Bad none = refl

-- on a chain that is longer than the steps, they lead to its block at this index
pub block-of-chain : (table : List ℕ) (size b : ℕ) (blocks : List ℕ) → chain table size b ≡ Some blocks → (steps : ℕ) → steps < size
    → block_after table b steps ≡ get_or blocks steps 0
unfolding block_after
block-of-chain table size b blocks e steps h = go (chain-links table size b blocks e) steps h
  where
    go : {size b : ℕ} {blocks : List ℕ} → Links table size b blocks → (steps : ℕ) → steps < size → block_after table b steps ≡ get_or blocks steps 0
    go (ends p) zero h = refl
    go (ends p) (suc steps) h = absurd (omega arith)
    go (goes p ls) zero h = refl
    go (goes p ls) (suc steps) h = rw p (go ls steps (omega arith))
