-- A chain whose blocks become free one after the other. Assumes nothing.
use Prim.Native.Nat.{ℕ, suc, ◌-◌, ◌<◌}
use mathlib.Core.Path.{◌≡◌, refl, sym, ap, ◌∙◌}
use mathlib.Core.Bool.{true, false, true≢false}
use mathlib.Core.List.{List}
use mathlib.Core.Logic.{◌≢◌}
use native.Mathlib.Omega.{arith}
use lib.ListN.{length, get_or}
use lib.Seq.{get_or-set_other}
use Rattle.words.specs.Lists.{has, Distinct}
use Rattle.card_model.specs.declared.Link.TheVariants.{Next}
use Rattle.card_model.specs.Layout.{card_length, table_of}
use Rattle.card_model.specs.Table.{fat_entry, link_of, link_at}
use Rattle.card_model.proofs.TableLaws.{next_is}
use Rattle.card_model.proofs.ChainLaws.{Links, ends, goes, chain-links, links-chain}
use Rattle.card_updates.specs.Parts.{with_link}
use Rattle.card_updates.specs.Delete.{freed}
use Rattle.card_updates.proofs.PlaceLaws.{link-table}
use Rattle.card_updates.proofs.ReplaceLaws.{all_in, links-agree}
use Rattle.card_files.specs.Chain.{SoundChain}

module _ (card : List ℕ) (long : length card ≡ card_length) (b : ℕ) (low : b < 200) where
  abbrev next : List ℕ
  next = with_link card b 0xFFFC

  other-link : (c : ℕ) → c ≢ b → link_at (table_of (with_link card b 0xFFFC)) c ≡ link_at (table_of card) c
  unfolding link_at fat_entry
  other-link c n =
      ap (λ (t : List ℕ). link_of (get_or t c 0)) (link-table card b 0xFFFC long (omega arith))
      ∙ ap link_of (get_or-set_other (table_of card) b c 0xFFFC 0 n)

  -- what follows block b is as before
  rest-stays : {left n : ℕ} {rest : List ℕ} → has b rest ≡ false → Links (table_of card) left n rest → Links (table_of (with_link card b 0xFFFC)) left n rest
  rest-stays {rest = rest} out l = links-agree (table_of card) (table_of next) l (all_in (λ c. link_at (table_of next) c ≡ link_at (table_of card) c) rest each)
    where
      each : (c : ℕ) → has c rest ≡ true → link_at (table_of next) c ≡ link_at (table_of card) c
      each c e = other-link c (λ d. true≢false (sym e ∙ ap (λ (x : ℕ). has x rest) d ∙ out))

  -- where block b names another one, the rest of the chain is what that one begins
  next-tells : {left n : ℕ} {blocks : List ℕ} → Links (table_of card) left b blocks → Distinct blocks → link_at (table_of card) b ≡ Next n → (after : List ℕ)
      → ((rest : List ℕ) → SoundChain (table_of (with_link card b 0xFFFC)) (left - 1) n rest → after ≡ freed (with_link card b 0xFFFC) rest) → after ≡ freed card blocks
  unfolding freed
  next-tells (ends q) d e after f = absurd cc
  next-tells {n = n} (goes {left = k} {n = m} {bs = rest} q l) d e after f =
      let named : m ≡ n = cc in
      let less : suc k - 1 ≡ k = omega arith in
      f rest (record { is_chain = rw less (links-chain (table_of next) (rest-stays d.0 (rw named at l))); no_repeat = d.1 })

  pub chain_next : {left n : ℕ} {blocks : List ℕ} → SoundChain (table_of card) left b blocks → link_at (table_of card) b ≡ Next n → (after : List ℕ)
      → ((rest : List ℕ) → SoundChain (table_of (with_link card b 0xFFFC)) (left - 1) n rest → after ≡ freed (with_link card b 0xFFFC) rest) → after ≡ freed card blocks
  chain_next s = next-tells (chain-links (table_of card) _ b _ s.is_chain) s.no_repeat

module _ (card : List ℕ) (b : ℕ) where
  last-tells : {left : ℕ} {blocks : List ℕ} → Links (table_of card) left b blocks → ((n : ℕ) → link_at (table_of card) b ≡ Next n → ⊥)
      → with_link card b 0xFFFC ≡ freed card blocks
  unfolding freed
  last-tells (ends q) f = refl
  last-tells (goes q l) f = absurd (f _ q)

  -- where it names none, the chain ends with it
  pub chain_last : {left : ℕ} {blocks : List ℕ} → SoundChain (table_of card) left b blocks → ((n : ℕ) → link_at (table_of card) b ≡ Next n → ⊥)
      → with_link card b 0xFFFC ≡ freed card blocks
  chain_last s = last-tells (chain-links (table_of card) _ b _ s.is_chain)

-- no chain has no blocks
pub none_left : (table : List ℕ) (left b : ℕ) (blocks : List ℕ) → left ≡ 0 → SoundChain table left b blocks → ⊥
none_left table left b blocks z s = go (chain-links table left b blocks s.is_chain) z
  where
    go : {left : ℕ} {blocks : List ℕ} → Links table left b blocks → left ≡ 0 → ⊥
    go (ends q) z = omega arith
    go (goes q l) z = omega arith

pub ruleset chains = (chain_next, chain_last, none_left, next_is)
