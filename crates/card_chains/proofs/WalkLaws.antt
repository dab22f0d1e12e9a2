-- One step along a chain: what it makes of a walk's answer and marks. Assumes nothing.
use Prim.Native.Nat.{ℕ, zero, suc, ◌-◌, ◌≤◌, ◌<◌}
use mathlib.Core.Path.{◌≡◌, refl, sym, ap, ◌∙◌}
use mathlib.Core.Bool.{Bool, true, false, cond, ◌||◌, or-false, false≢true}
use mathlib.Core.List.{List, [], ◌∷◌}
use Rattle.std.specs.Prelude.{Option, None, Some, option_map}
use native.Mathlib.Omega.{arith}
use lib.Dec.{eqb}
use lib.ListN.{length, get_or, set, length-set}
use borrow.Author.Tests.{eqb-true, eqb-false, eq-eqb, ne_eqb}
use Rattle.words.specs.Lists.{any_of, has, is_some}
use Rattle.words.proofs.Bools.{or-false-right}
use Rattle.card_model.specs.declared.Link.{Link}
use Rattle.card_model.specs.declared.Link.TheVariants.{Free, Damaged, Last, Next, Bad}
use Rattle.card_model.specs.Table.{link_at}
use Rattle.card_model.specs.Files.{chain_step, chain}
use Rattle.card_model.proofs.TableLaws.{next-below}
use Rattle.card_model.proofs.ChainLaws.{links-same, chain-links, chain_head, chain-distinct}
use Rattle.card_chains.specs.declared.walking.Finding.{Finding}
use Rattle.card_chains.specs.declared.walking.Finding.TheVariants.{Apart, Shared, Broken}
use Rattle.card_chains.specs.Marks.{is_marked, Lengths, Walkable, Walked}
use Rattle.card_chains.proofs.SetLaws.{marked-set, set-each, any_same}

pub step_below : (table : List ℕ) (b n : ℕ) (l : Link) → l ≡ link_at table b → l ≡ Next n → n < 200
unfolding link_at
step_below table b n l q told = next-below _ n (sym q ∙ told)

pub chain-none : (table : List ℕ) (left b : ℕ) → left ≡ 0 → chain table left b ≡ None
unfolding chain
chain-none table left b q = rw q

pub chain-step : (table : List ℕ) (left b : ℕ) {l : Link} → (left ≡ 0 → ⊥) → link_at table b ≡ l
    → chain table left b ≡ chain_step l b (left - 1) (λ n. chain table (left - 1) n)
unfolding chain
chain-step table zero b h told = absurd (h refl)
chain-step table (suc left) b h told =
    let e : suc left - 1 ≡ left = omega arith in
    rw (told, e)

-- ---- the walk

module _ (table : List ℕ) where
  -- where a chain starts tells how long it is
  one_length : (m n b : ℕ) (cs : List ℕ) → is_some (chain table m b) ≡ true → chain table n b ≡ Some cs → m ≡ n
  one_length m n b cs p f = go (chain table m b) refl p
    where
      go : (o : Option (List ℕ)) → chain table m b ≡ o → is_some o ≡ true → m ≡ n
      go None e p = absurd (false≢true p)
      go (Some bs) e p = links-same table (chain-links table m b bs e) (chain-links table n b cs f)

  pub walked-broken : {o : Option (List ℕ)} (marks marks' : List ℕ) → o ≡ None → Walked table o marks Broken marks'
  walked-broken marks marks' e = record {
    answers = rw e;
    are_lengths = λ s. absurd (false≢true (sym (ap is_some e) ∙ s));
    marked = λ bs f. absurd (false≢true (sym (ap is_some e) ∙ ap is_some f));
  }

  pub walked_none : (marks : List ℕ) (b left : ℕ) → left ≡ 0 → Walked table (chain table left b) marks Broken marks
  walked_none marks b left q = walked-broken marks marks (chain-none table left b q)

  -- at a block that is in no chain
  pub walked_stop : (marks marks' : List ℕ) (b left : ℕ) → (left ≡ 0 → ⊥) → (l : Link) → l ≡ link_at table b → (l ≡ Last → ⊥) → ((n : ℕ) → l ≡ Next n → ⊥)
      → Walked table (chain table left b) marks Broken marks'
  unfolding chain_step
  walked_stop marks marks' b left h l q no-last no-next = walked-broken marks marks' (go l (sym q) no-last no-next)
    where
      go : (l : Link) → link_at table b ≡ l → (l ≡ Last → ⊥) → ((n : ℕ) → l ≡ Next n → ⊥) → chain table left b ≡ None
      go Last q no-last no-next = absurd (no-last refl)
      go (Next n) q no-last no-next = absurd (no-next n refl)
      go Free q no-last no-next = chain-step table left b h q
      go Damaged q no-last no-next = chain-step table left b h q
      go Bad q no-last no-next = chain-step table left b h q

  pub walkable-start : (marks : List ℕ) (left b : ℕ) → Lengths table marks → Walkable table marks left b
  walkable-start marks left b l = record { many = l.long; up_to_left = λ x e h. l.each x e; all_if_good = λ s. l }

  -- at block b, with `left` blocks left
  module _ (marks : List ℕ) (b left : ℕ) (k : Walkable table marks left b) where
    -- the block is marked
    module _ {mark : ℕ} (m : mark ≡ get_or marks b 0) (h : mark ≡ 0 → ⊥) where
      is-marked : is_marked marks b ≡ true
      unfolding is_marked
      is-marked = rw (← m, ne_eqb mark 0 h)

      pub walked_met : {found : Finding} → found ≡ cond (eqb mark left) Shared Broken → Walked table (chain table left b) marks found marks
      walked_met {found} q = go (chain table left b) refl (eqb mark left) refl
        where
          go : (o : Option (List ℕ)) → chain table left b ≡ o → (t : Bool) → eqb mark left ≡ t → Walked table o marks found marks
          go None e true d =
              let same : get_or marks b 0 ≡ left = sym m ∙ eqb-true mark left d in
              let s : is_some (chain table (get_or marks b 0) b) ≡ true = k.up_to_left b is-marked (omega arith) in
              absurd (false≢true (sym (ap is_some e) ∙ (rw same at s)))
          go None e false d =
              let f : found ≡ Broken = q ∙ rw d in
              rw f (walked-broken marks marks refl)
          go (Some bs) e false d =
              absurd (eqb-false mark left d (m ∙ one_length (get_or marks b 0) left b bs ((k.all_if_good (ap is_some e)).each b is-marked) e))
          go (Some bs) e true d =
              let meets : any_of (is_marked marks) bs ≡ true = rw (chain_head table left b bs e, is-marked) in record {
                answers = q ∙ rw (d, meets);
                are_lengths = λ s. k.all_if_good (ap is_some e);
                marked = λ cs f a. let z : cs ≡ bs = cc in absurd (false≢true (sym a ∙ ap (any_of (is_marked marks)) z ∙ meets));
              }

    -- the block is not marked, and gets its mark
    module _ (some_left : left ≡ 0 → ⊥) (below : b < 200) {mark : ℕ} (m : mark ≡ get_or marks b 0) (new : mark ≡ 0) {l : Link} (of-block : l ≡ link_at table b) where
      long : b < length marks
      long = rw k.many below

      set-many : length (set marks b left) ≡ 200
      set-many = length-set marks b left ∙ k.many

      unmarked : is_marked marks b ≡ false
      unfolding is_marked
      unmarked = rw (← m, new)

      set-lengths : is_some (chain table left b) ≡ true → Lengths table (set marks b left)
      set-lengths s = record { long = set-many; each = set-each marks b left long (λ x m. is_some (chain table m x) ≡ true) s (k.all_if_good s).each }

      pub walked_last : l ≡ Last → {found : Finding} → found ≡ cond (eqb left 1) Apart Broken
          → Walked table (chain table left b) marks found (set marks b left)
      unfolding chain_step
      walked_last told {found} q = go (eqb left 1) refl
        where
          e : chain table left b ≡ cond (eqb (left - 1) 0) (Some (b ∷ [])) None
          e = chain-step table left b some_left (sym of-block ∙ told)

          go : (t : Bool) → eqb left 1 ≡ t → Walked table (chain table left b) marks found (set marks b left)
          go true d =
              let f : chain table left b ≡ Some (b ∷ []) = e ∙ rw (eq-eqb (left - 1) 0 (omega (arith, eqb-true left 1 d))) in record {
                answers = q ∙ rw (d, f, unmarked);
                are_lengths = set-lengths;
                marked = λ bs g a x. let z : bs ≡ b ∷ [] = cc in marked-set marks b left long some_left x ∙ rw (z, or-false);
              }
          go false d =
              let f = ne_eqb (left - 1) 0 (λ z. omega (arith, some_left, eqb-false left 1 d)) in
              let g : found ≡ Broken = q ∙ rw d in
              rw g (walked-broken marks (set marks b left) (e ∙ rw f))

      module _ (n : ℕ) (told : l ≡ Next n) where
        e : chain table left b ≡ option_map (λ (blocks : List ℕ). b ∷ blocks) (chain table (left - 1) n)
        unfolding chain_step
        e = chain-step table left b some_left (sym of-block ∙ told)

        pub walkable_next : Walkable table (set marks b left) (left - 1) n
        walkable_next = record {
          many = set-many;
          up_to_left = set-each marks b left long (λ x m. m ≤ left - 1 → is_some (chain table m x) ≡ true)
              (λ h. absurd (omega (arith, some_left)))
              (λ x m h. k.up_to_left x m (omega arith));
          all_if_good = λ s. set-lengths (ap is_some e ∙ maps (chain table (left - 1) n) ∙ s);
        }
          where
            maps : (o : Option (List ℕ)) → is_some (option_map (λ (blocks : List ℕ). b ∷ blocks) o) ≡ is_some o
            maps None = refl
            maps (Some bs) = refl

        pub walked_next : {found : Finding} {marks' : List ℕ} → Walked table (chain table (left - 1) n) (set marks b left) found marks'
            → Walked table (chain table left b) marks found marks'
        walked_next {found} {marks'} w = go (chain table (left - 1) n) refl
          where
            go : (o : Option (List ℕ)) → chain table (left - 1) n ≡ o → Walked table (chain table left b) marks found marks'
            go None f =
                let g : found ≡ Broken = w.answers ∙ rw f in
                rw g (walked-broken marks marks' (e ∙ rw f))
            go (Some rest) f =
                let whole : chain table left b ≡ Some (b ∷ rest) = e ∙ rw f in
                let same = any_same (is_marked (set marks b left)) (is_marked marks) rest (others (chain-distinct table left b (b ∷ rest) whole).0) in record {
                  answers = w.answers ∙ rw (f, whole, same, unmarked);
                  are_lengths = λ s. w.are_lengths (ap is_some f);
                  marked = λ bs g a x.
                      let z : bs ≡ b ∷ rest = cc in
                      let a' : any_of (is_marked (set marks b left)) rest ≡ false = same ∙ or-false-right (is_marked marks b) _ (rw z at a) in
                      w.marked rest f a' x ∙ rw (z, marked-set marks b left long some_left x) (swap (eqb b x) (has x rest) (is_marked marks x));
                }
              where
                others : has b rest ≡ false → (x : ℕ) → has x rest ≡ true → is_marked (set marks b left) x ≡ is_marked marks x
                others d x h = marked-set marks b left long some_left x ∙ rw (apart (eqb b x) refl)
                  where
                    apart : (t : Bool) → eqb b x ≡ t → t ≡ false
                    apart false p = refl
                    apart true p =
                        let z : b ≡ x = eqb-true b x p in
                        absurd (false≢true (sym d ∙ (rw (← z) at h)))

                swap : (s t u : Bool) → (t || (s || u)) ≡ ((s || t) || u)
                swap true true u = refl
                swap true false u = refl
                swap false t u = refl
