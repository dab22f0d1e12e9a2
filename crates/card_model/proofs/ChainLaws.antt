-- Laws of chains: what a chain is, without the walk; a chain that is there has its length, goes through user blocks that aren't free
-- or damaged, and repeats none.
-- Assumes nothing.
use Prim.Native.Nat.{ℕ, zero, suc, ◌+◌, ◌-◌, ◌≤◌, ◌<◌}
use mathlib.Core.Path.{◌≡◌, refl, sym, ap, subst, ◌∙◌}
use mathlib.Core.Bool.{Bool, true, false, ◌||◌, false≢true}
use mathlib.Core.List.{List, [], ◌∷◌}
use Rattle.std.specs.Prelude.{Option, None, Some, option_map}
use Rattle.std.proofs.lemmas.Option.{same_Some}
use mathlib.Core.Logic.{◌↔◌}
use native.Mathlib.Omega.{arith}
use lib.Dec.{eqb}
use lib.ListN.{length, get_or, drop}
use borrow.Author.Tests.{eqb-true, ne_eqb}
use Rattle.words.specs.Lists.{has, Distinct}
use Rattle.words.proofs.ListLaws.{All}
use Rattle.card_model.specs.declared.Link.{Link}
use Rattle.card_model.specs.declared.Link.TheVariants.{Free, Damaged, Last, Next, Bad}
use Rattle.card_model.specs.Table.{fat_entry, link_of, link_at, free_or_damaged}
use Rattle.card_model.specs.Files.{chain_step, chain}
use Rattle.card_model.specs.Theorems.{IsChain}
use Rattle.card_model.proofs.TableLaws.{next_is, next-below, next_of, last-is}

-- ---- a chain that is there, link by link

pub data Links (table : List ℕ) : ℕ → ℕ → List ℕ → Type 0 where
  ends : {b : ℕ} → link_at table b ≡ Last → Links table 1 b (b ∷ [])
  goes : {left b n : ℕ} {bs : List ℕ} → link_at table b ≡ Next n → Links table left n bs → Links table (suc left) b (b ∷ bs)

pub one_more : (k : ℕ) → suc k + 1 ≡ suc (k + 1)
one_more k = omega arith

one_less : (k : ℕ) → 1 ≤ k → suc k - 1 ≡ suc (k - 1)
one_less k h = omega arith

module _ (table : List ℕ) where
  pub chain-links : (left b : ℕ) (bs : List ℕ) → chain table left b ≡ Some bs → Links table left b bs
  unfolding chain chain_step
  chain-links zero b bs e = let z : ◌≡◌ {A = ℕ} 0 1 = cc in absurd (omega arith)
  chain-links (suc left) b bs e = go (chain-links left) (link_at table b) refl e
    where
      go : ((b : ℕ) (bs : List ℕ) → chain table left b ≡ Some bs → Links table left b bs) → (l : Link) → link_at table b ≡ l
          → chain_step l b left (λ n. chain table left n) ≡ Some bs → Links table (suc left) b bs
      go ih Free q f = let z : ◌≡◌ {A = ℕ} 0 1 = cc in absurd (omega arith)
      go ih Damaged q f = let z : ◌≡◌ {A = ℕ} 0 1 = cc in absurd (omega arith)
      go ih Bad q f = let z : ◌≡◌ {A = ℕ} 0 1 = cc in absurd (omega arith)
      go ih Last q f = last left f
        where
          last : (k : ℕ) → chain_step Last b k (λ n. chain table left n) ≡ Some bs → Links table (suc k) b bs
          last zero f = subst (λ (l : List ℕ). Links table 1 b l) (same_Some _ _ f) (ends q)
          last (suc k) f =
              let e : eqb (suc k) 0 ≡ false = ne_eqb (suc k) 0 (λ d. omega arith) in
              let z : ◌≡◌ {A = ℕ} 0 1 = cc in
              absurd (omega arith)
      go ih (Next n) q f = next (chain table left n) refl f
        where
          next : (o : Option (List ℕ)) → chain table left n ≡ o → option_map (λ (blocks : List ℕ). b ∷ blocks) o ≡ Some bs → Links table (suc left) b bs
          next None r f = let z : ◌≡◌ {A = ℕ} 0 1 = cc in absurd (omega arith)
          next (Some rest) r f = subst (λ (l : List ℕ). Links table (suc left) b l) (same_Some _ _ f) (goes q (ih n rest r))

  pub links-chain : {left b : ℕ} {bs : List ℕ} → Links table left b bs → chain table left b ≡ Some bs
  unfolding chain chain_step
  links-chain (ends q) = rw q
  links-chain (goes q l) = rw (q, links-chain l)

  -- ---- the same by places in the list

  links-are : {left b : ℕ} {bs : List ℕ} → Links table left b bs → IsChain table left b bs
  unfolding link_at
  links-are (ends q) = record {
    long = refl;
    not_empty = omega arith;
    first = refl;
    names = λ k h. absurd (omega arith);
    in_user = λ k h. absurd (omega arith);
    last = last-is _ q;
  }
  links-are (goes {left} {b} {n} {bs} q l) = go (links-are l)
    where
      go : IsChain table left n bs → IsChain table (suc left) b (b ∷ bs)
      go c = record {
        long = ap suc c.long;
        not_empty = omega arith;
        first = refl;
        names = names;
        in_user = in_user;
        last = rw (one_less left c.not_empty) c.last;
      }
        where
          names : (k : ℕ) → k < suc left - 1 → fat_entry table (get_or (b ∷ bs) k 0) ≡ get_or (b ∷ bs) (k + 1) 0
          names zero h = (next_is _ _ q).0 ∙ sym c.first
          names (suc k) h = rw (one_more k) (c.names k (omega arith))

          in_user : (k : ℕ) → k < suc left - 1 → fat_entry table (get_or (b ∷ bs) k 0) < 200
          in_user zero h = omega (arith, (next_is _ _ q).0, (next_is _ _ q).1)
          in_user (suc k) h = c.in_user k (omega arith)

  are-links : (bs : List ℕ) → IsChain table (length bs) (get_or bs 0 0) bs → Links table (length bs) (get_or bs 0 0) bs
  unfolding link_at link_of
  are-links [] c = absurd (omega (arith, c.not_empty))
  are-links (b ∷ []) c = ends (ap link_of c.last)
  are-links (b ∷ n ∷ bs) c = goes (next_of _ n (c.names 0 (omega arith)) (c.in_user 0 (omega arith))) (are-links (n ∷ bs) rest)
    where
      at : ℕ → ℕ
      at k = get_or (b ∷ n ∷ bs) k 0

      rest : IsChain table (length (n ∷ bs)) n (n ∷ bs)
      rest = record {
        long = refl;
        not_empty = omega arith;
        first = refl;
        names = λ k h. c.names (suc k) (omega arith) ∙ ap at (one_more k);
        in_user = λ k h. c.in_user (suc k) (omega arith);
        last = ap (λ (k : ℕ). fat_entry table (at k)) (sym (one_less (length (n ∷ bs)) (omega arith))) ∙ c.last;
      }

  are-chain : (left b : ℕ) (bs : List ℕ) → IsChain table left b bs → chain table left b ≡ Some bs
  are-chain left b bs c =
      let e : chain table (length bs) (get_or bs 0 0) ≡ Some bs = links-chain (are-links bs (rw (c.long, c.first) c)) in
      rw (c.long, c.first) at e

  -- ---- what a chain that is there tells

  links-below : {left b : ℕ} {bs : List ℕ} → b < 200 → Links table left b bs → All (λ x. x < 200) bs
  unfolding link_at
  links-below h (ends q) = (h, tt)
  links-below h (goes q l) = (h, links-below (next-below _ _ q) l)

  -- where a chain starts tells how long it is
  pub links-same : {m n b : ℕ} {bs cs : List ℕ} → Links table m b bs → Links table n b cs → m ≡ n
  links-same (ends q) (ends r) = refl
  links-same (ends q) (goes r l) = let z : ◌≡◌ {A = ℕ} 0 1 = cc in absurd (omega arith)
  links-same (goes q l) (ends r) = let z : ◌≡◌ {A = ℕ} 0 1 = cc in absurd (omega arith)
  links-same (goes {n = i} q l) (goes {left = k} {n = j} {bs = cs} r m) =
      let e : j ≡ i = cc in
      ap suc (links-same l (subst (λ (x : ℕ). Links table k x cs) e m))

  -- from each of its blocks a chain goes on to its end
  record From (left x : ℕ) : Type 0 where
    steps : ℕ
    blocks : List ℕ
    near : steps ≤ left
    links : Links table steps x blocks

  from-head : {left b : ℕ} {bs : List ℕ} (x : ℕ) → Links table left b bs → eqb b x ≡ true → From left x
  from-head {left} {b} {bs} x l h =
      record { steps = left; blocks = bs; near = omega arith; links = subst (λ (y : ℕ). Links table left y bs) (eqb-true b x h) l }

  links-from : {left b : ℕ} {bs : List ℕ} (x : ℕ) → Links table left b bs → has x bs ≡ true → From left x
  links-from x (ends {b} q) h = go (eqb b x) refl h
    where
      go : (t : Bool) → eqb b x ≡ t → (t || false) ≡ true → From 1 x
      go true d h = from-head x (ends q) d
      go false d h = absurd (false≢true h)
  links-from x (goes {left} {b} {n} {bs} q l) h = go (links-from x l) (eqb b x) refl h
    where
      go : (has x bs ≡ true → From left x) → (t : Bool) → eqb b x ≡ t → (t || has x bs) ≡ true → From (suc left) x
      go ih true d h = from-head x (goes q l) d
      go ih false d h =
          let f = ih h in
          record { steps = f.steps; blocks = f.blocks; near = omega (arith, f.near); links = f.links }

  links-distinct : {left b : ℕ} {bs : List ℕ} → Links table left b bs → Distinct bs
  links-distinct (ends q) = (refl, tt)
  links-distinct (goes {left} {b} {n} {bs} q l) = (go (has b bs) refl, links-distinct l)
    where
      go : (t : Bool) → has b bs ≡ t → t ≡ false
      go false h = refl
      go true h =
          let f = links-from b l h in
          absurd (omega (arith, f.near, links-same f.links (goes q l)))

  links-used : {left b : ℕ} {bs : List ℕ} → Links table left b bs → All (λ x. free_or_damaged (link_at table x) ≡ false) bs
  links-used (ends q) = (rw q, tt)
  links-used (goes q l) = (rw q, links-used l)

  module _ (left b : ℕ) (bs : List ℕ) (e : chain table left b ≡ Some bs) where
    pub chain_length : length bs ≡ left
    chain_length = (links-are (chain-links left b bs e)).long

    pub chain-below : b < 200 → All (λ x. x < 200) bs
    chain-below h = links-below h (chain-links left b bs e)

    pub chain-distinct : Distinct bs
    chain-distinct = links-distinct (chain-links left b bs e)

    -- no block of a chain is free or damaged
    pub chain-used : All (λ x. free_or_damaged (link_at table x) ≡ false) bs
    chain-used = links-used (chain-links left b bs e)

    pub chain_head : bs ≡ b ∷ drop 1 bs
    chain_head = head (chain-links left b bs e)
      where
        head : {left b : ℕ} {bs : List ℕ} → Links table left b bs → bs ≡ b ∷ drop 1 bs
        head (ends q) = refl
        head (goes q l) = refl

pub chain_exactly : (table : List ℕ) (left b : ℕ) (blocks : List ℕ) → (chain table left b ≡ Some blocks) ↔ IsChain table left b blocks
chain_exactly table left b blocks = (λ e. links-are table (chain-links table left b blocks e), are-chain table left b blocks)
