-- The list of the free blocks as the pass over the table makes it. Assumes nothing.
use Prim.Native.Nat.{ℕ, suc, ◌-◌, ◌<◌}
use mathlib.Core.Path.{◌≡◌, refl, ◌∙◌}
use mathlib.Core.Bool.{Bool, true, false, cond}
use mathlib.Core.List.{List, [], ◌∷◌, ◌++◌, append_assoc}
use native.Mathlib.Omega.{arith}
use Rattle.words.specs.Lists.{keep}
use Rattle.card_model.specs.declared.Link.{Link}
use Rattle.card_model.specs.Table.{fat_entry, link_of, link_at, is_free}
use Rattle.card_updates.specs.Write.{numbers_down, free_blocks}

-- the pass has come down to block b: what is listed, then the free blocks below b, are all free blocks
pub record FreeTo (table : List ℕ) (b : ℕ) (free : List ℕ) : Type 0 where
  pub listed : free ++ keep (λ c. is_free (link_at table c)) (numbers_down b) ≡ free_blocks table

pub free_start : (table : List ℕ) {free : List ℕ} → free ≡ [] → FreeTo table 200 free
unfolding free_blocks
free_start table e = rw e (record { listed = refl })

module _ (table : List ℕ) where
  one-lower : (b : ℕ) {free : List ℕ} → FreeTo table (suc b) free → (t : Bool) → t ≡ is_free (link_at table b) → FreeTo table b (cond t (free ++ b ∷ []) free)
  one-lower b {free} f true t = record {
    listed = append_assoc free (b ∷ []) (keep (λ c. is_free (link_at table c)) (numbers_down b)) ∙ (rw (← t) at f.listed);
  }
  one-lower b f false t = record { listed = rw (← t) at f.listed }

  -- the block below b is looked at
  pub free_next : {b below e : ℕ} {link : Link} {t : Bool} {free new : List ℕ} → FreeTo table b free → 0 < b → below ≡ b - 1 → e ≡ fat_entry table below
      → link ≡ link_of e → t ≡ is_free link → new ≡ cond t (free ++ (b - 1) ∷ []) free → FreeTo table (b - 1) new
  unfolding link_at
  free_next {b = b} f h i e l t n =
      let higher : b ≡ suc (b - 1) = omega arith in
      rw n (one-lower (b - 1) (rw higher at f) _ (rw (t, l, e, i)))
