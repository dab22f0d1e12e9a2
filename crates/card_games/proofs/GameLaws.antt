-- A chain that is followed block by block, and the game rule. Assumes nothing.
use Prim.Native.Nat.{ℕ, zero, suc, ◌+◌, ◌-◌, ◌≤◌, ◌<◌}
use mathlib.Core.Path.{◌≡◌, refl, sym, ap, ◌∙◌}
use mathlib.Core.Bool.{Bool, true, false, not, ◌&&◌, ◌||◌, or-true, or-false, false≢true, true≢false}
use mathlib.Core.List.{List, ◌∷◌}
use Rattle.std.specs.Prelude.{Option, None, Some, option_map}
use native.Mathlib.Omega.{arith}
use native.Mathlib.Numerals.{sub-one, add-one}
use Rattle.std.specs.List.{list_any, list_all, range_with_len}
use borrow.Author.Tests.{eqb-true, eq-eqb, ne_eqb, lt-ltb, le-ltb}
use lib.Dec.{eqb, ltb}
use Rattle.words.specs.Lists.{any_of, is_some, numbers_from}
use Rattle.card_model.specs.declared.Link.{Link}
use Rattle.card_model.specs.declared.Link.TheVariants.{Free, Damaged, Last, Next, Bad}
use Rattle.card_model.specs.Table.{link_at}
use Rattle.card_model.specs.Entries.{kind, first_block, size, is_used, is_game, wrong_entry, entry_at}
use Rattle.card_model.specs.Files.{chain_step, chain, bad_chain, or_empty, file_of, rising, breaks_game_rule}
use Rattle.card_games.specs.Rules.{leads_to}
use Rattle.card_model.proofs.ChainLaws.{chain_head}
use Rattle.card_model.proofs.EntryLaws.{right-entry, file-chain}

module _ (table : List ℕ) where
  -- the chain goes on at the block that the entry names, and rises if that is the block above and the rest rises
  pub record GoesOn (left b : ℕ) : Type 0 where
    pub next : ℕ
    pub link_is : link_at table b ≡ Next next
    pub there : is_some (chain table (left - 1) next) ≡ true
    pub rises : rising (or_empty (chain table left b)) ≡ (eqb next (b + 1) && rising (or_empty (chain table (left - 1) next)))

  pub chain-goes-on : (left b : ℕ) → 1 < left → is_some (chain table left b) ≡ true → GoesOn left b
  unfolding chain chain_step
  chain-goes-on zero b h s = absurd (omega arith)
  chain-goes-on (suc zero) b h s = absurd (omega arith)
  chain-goes-on (suc (suc k)) b h s = go (link_at table b) refl s
    where
      rest : (n : ℕ) (o : Option (List ℕ)) → chain table (suc k) n ≡ o → is_some (option_map (λ (bs : List ℕ). b ∷ bs) o) ≡ true
          → (is_some o ≡ true) × (rising (or_empty (option_map (λ (bs : List ℕ). b ∷ bs) o)) ≡ (eqb n (b + 1) && rising (or_empty o)))
      rest n None q s = absurd (false≢true s)
      rest n (Some bs) q s = rw (chain_head table (suc k) n bs q) (refl, refl)

      go : (l : Link) → link_at table b ≡ l → is_some (chain_step l b (suc k) (λ n. chain table (suc k) n)) ≡ true → GoesOn (suc (suc k)) b
      go Free q s = absurd (false≢true s)
      go Damaged q s = absurd (false≢true s)
      go Bad q s = absurd (false≢true s)
      go Last q s = absurd (false≢true (rw (ne_eqb (suc k) 0 (λ d. omega arith)) at s))
      go (Next n) q s =
          let r = rest n (chain table (suc k) n) refl s in
          record { next = n; link_is = q; there = rw (sub-one (suc (suc k))) r.0; rises = rw (q, sub-one (suc (suc k))) r.1 }

  -- at its last block there is nothing to rise
  pub ends : (left b : ℕ) → left ≤ 1 → is_some (chain table left b) ≡ true → rising (or_empty (chain table left b)) ≡ true
  unfolding chain chain_step
  ends zero b h s = absurd (false≢true s)
  ends (suc (suc k)) b h s = absurd (omega arith)
  ends (suc zero) b h s = go (link_at table b) s
    where
      go : (l : Link) → is_some (chain_step l b 0 (λ n. None)) ≡ true → rising (or_empty (chain_step l b 0 (λ n. None))) ≡ true
      go Free s = absurd (false≢true s)
      go Damaged s = absurd (false≢true s)
      go Bad s = absurd (false≢true s)
      go (Next n) s = absurd (false≢true s)
      go Last s = refl

-- a game from block 0 on, where refusals 26 and 27 don't apply
pub record GameChain (table entry : List ℕ) : Type 0 where
  pub most : size entry ≤ 200
  pub there : is_some (chain table (size entry) 0) ≡ true
  pub file : or_empty (chain table (size entry) 0) ≡ file_of table entry

pub chain-of-game : (table entry : List ℕ) → is_game entry ≡ true → wrong_entry entry ≡ false → bad_chain table entry ≡ false → first_block entry ≡ 0 → GameChain table entry
unfolding is_game is_used
chain-of-game table entry g w b z =
    let u : is_used entry ≡ true = rw (eqb-true (kind entry) 0xCC g) in
    let e : chain table (size entry) 0 ≡ Some (file_of table entry) = rw (← z) (file-chain entry u table b) in
    record { most = (right-entry entry u w).2; there = rw e; file = rw e }

-- an unused entry is no game
no-game : (entry : List ℕ) → is_used entry ≡ false → is_game entry ≡ false
unfolding is_game is_used
no-game entry u = ne_eqb (kind entry) 0xCC (λ d. true≢false (rw d at u))

pub unused-game : (table : List ℕ) (directory : List (List ℕ)) (i : ℕ) → is_used (entry_at directory i) ≡ false → breaks_game_rule table directory i ≡ false
unfolding breaks_game_rule
unused-game table directory i u = rw (no-game (entry_at directory i) u)

-- the rule of the entry that stands in a part s of the card, clause by clause
module _ (directory : List (List ℕ)) (i : ℕ) {s : List ℕ} (e : s ≡ entry_at directory i) (table : List ℕ) where
  rule : breaks_game_rule table directory i
      ≡ (is_game s && (any_of (λ j. is_game (entry_at directory j)) (numbers_from 0 i) || (not (eqb (first_block s) 0) || (not (rising (file_of table s)) || ltb 128 (size s)))))
  unfolding breaks_game_rule
  rule = rw (← e)

  pub not-game : is_game s ≡ false → false ≡ breaks_game_rule table directory i
  not-game g = sym (rule ∙ rw g)

  module _ (g : is_game s ≡ true) where
    pub later-game : any_of (λ j. is_game (entry_at directory j)) (numbers_from 0 i) ≡ true → true ≡ breaks_game_rule table directory i
    later-game a = sym (rule ∙ rw (g, a))

    module _ (a : any_of (λ j. is_game (entry_at directory j)) (numbers_from 0 i) ≡ false) where
      pub first-not-0 : (first_block s ≡ 0 → ⊥) → true ≡ breaks_game_rule table directory i
      first-not-0 n = sym (rule ∙ rw (g, a, ne_eqb (first_block s) 0 n))

      module _ (z : first_block s ≡ 0) where
        pub too_large : 128 < size s → true ≡ breaks_game_rule table directory i
        too_large h = sym (rule ∙ rw (g, a, eq-eqb (first_block s) 0 z, lt-ltb 128 (size s) h, or-true))

        pub else-rising : size s ≤ 128 → not (rising (file_of table s)) ≡ breaks_game_rule table directory i
        else-rising h = sym (rule ∙ rw (g, a, eq-eqb (first_block s) 0 z, le-ltb 128 (size s) h, or-false))

-- ---- what a chain of iterators over a range tells

-- whether some number of a range passes
pub any-list : (p : ℕ → Bool) (a n : ℕ) → list_any p (range_with_len a n) ≡ any_of p (numbers_from a n)
any-list p a zero = refl
any-list p a (suc n) = rw (add-one a, any-list p (suc a) n)

module _ (table : List ℕ) where
  -- Block n is led to by the one below it.
  abbrev pub led_to : ℕ → Bool
  led_to n = leads_to (link_at table (n - 1)) (n - 1 + 1)

  above : (n b : ℕ) → is_some (chain table (suc n) b) ≡ true → list_all led_to (range_with_len (b + 1) n) ≡ rising (or_empty (chain table (suc n) b))
  above zero b s = sym (ends table 1 b (omega arith) s)
  above (suc k) b s =
      let g = chain-goes-on table (suc (suc k)) b (omega arith) s in
      let e : suc (suc k) - 1 ≡ suc k = omega arith in
      let h : b + 1 - 1 ≡ b = omega arith in
      ap (λ (j : ℕ). leads_to (link_at table j) (j + 1) && list_all led_to (range_with_len (b + 1 + 1) k)) h
      ∙ rw g.link_is (go (above k (b + 1)) g.next (eqb g.next (b + 1)) refl (rw e at g.there)) ∙ sym (rw e at g.rises)
    where
      go : (is_some (chain table (suc k) (b + 1)) ≡ true → list_all led_to (range_with_len (b + 1 + 1) k) ≡ rising (or_empty (chain table (suc k) (b + 1))))
          → (n : ℕ) (t : Bool) → eqb n (b + 1) ≡ t → is_some (chain table (suc k) n) ≡ true
          → (t && list_all led_to (range_with_len (b + 1 + 1) k)) ≡ (t && rising (or_empty (chain table (suc k) n)))
      go rest n true q u =
          let f : n ≡ b + 1 = eqb-true _ _ q in
          rest (rw (← f) u) ∙ rw f
      go rest n false q u = refl

  -- a chain rises if each of its blocks but the first is led to by the one below it
  pub all-rise : (left : ℕ) → is_some (chain table left 0) ≡ true → list_all led_to (range_with_len 1 (left - 1)) ≡ rising (or_empty (chain table left 0))
  unfolding chain
  all-rise zero s = absurd (false≢true s)
  all-rise (suc n) s =
      let e : suc n - 1 ≡ n = omega arith in
      ap (λ (k : ℕ). list_all led_to (range_with_len 1 k)) e ∙ above n 0 s
