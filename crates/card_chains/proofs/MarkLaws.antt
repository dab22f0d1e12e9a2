-- Laws of the marks: what the walk along an entry's file makes of the marks of the files before it. Assumes nothing.
use Prim.Native.Nat.{ℕ, zero, suc, ◌+◌, ◌-◌, ◌≤◌}
use mathlib.Core.Path.{◌≡◌, refl, sym, ap, ◌∙◌}
use mathlib.Core.Bool.{Bool, true, false, not, ◌&&◌, ◌||◌, or_comm, and-true, false≢true}
use mathlib.Core.List.{List, [], append-nil}
use Rattle.std.specs.Prelude.{Option, None, Some}
use native.Mathlib.Omega.{arith}
use native.Mathlib.Numerals.{add-one}
use lib.Dec.{eqb}
use lib.ListN.{get_or, replicate}
use borrow.Author.Tests.{eq-eqb}
use Rattle.words.specs.Lists.{any_of, has, is_some}
use Rattle.words.proofs.JoinLaws.{any_append, all-has}
use Rattle.words.proofs.Distinct.{count, one, count_next}
use Rattle.card_model.specs.declared.Link.{Link}
use Rattle.card_model.specs.Table.{link_at, free_or_damaged}
use mir.Val.{bool_byte}
use Rattle.card_model.specs.Entries.{is_used, entry_at}
use Rattle.card_model.specs.Files.{chain, chain_of, bad_chain, file_of, files_before, shares_block, is_orphan, orphans}
use Rattle.card_model.proofs.EntryLaws.{file-chain, no_file, files-snoc}
use Rattle.card_model.proofs.ChainLaws.{chain_head, chain-used}
use Rattle.card_chains.specs.declared.walking.Finding.TheVariants.{Broken}
use Rattle.card_chains.specs.Marks.{no_marks, is_marked, Lengths, Marking, MarkedFiles, outcome, answer, Walked}
use Rattle.card_chains.proofs.SetLaws.{any_same}

-- ---- the file of a used entry

module _ (table entry : List ℕ) (u : is_used entry ≡ true) where
  chain-bad : bad_chain table entry ≡ not (is_some (chain_of table entry))
  unfolding bad_chain
  chain-bad = rw u

  module _ (e : bad_chain table entry ≡ false) where
    chain-file : chain_of table entry ≡ Some (file_of table entry)
    unfolding chain_of
    chain-file = file-chain entry u table e

not-broken : (t : Bool) → Broken ≡ outcome t → ⊥
not-broken true e = cc
not-broken false e = cc

same-outcome : (s t : Bool) → outcome s ≡ outcome t → s ≡ t
same-outcome true true e = refl
same-outcome true false e = cc
same-outcome false true e = cc
same-outcome false false e = refl

-- ---- the files' marks

zero-at : (n b : ℕ) → ◌≡◌ {A = ℕ} (get_or (replicate n 0) b 0) 0
zero-at zero b = refl
zero-at (suc n) zero = refl
zero-at (suc n) (suc b) = zero-at n b

none_marked : (b : ℕ) → is_marked no_marks b ≡ false
unfolding is_marked no_marks
none_marked b = rw (zero-at 200 b)

pub lengths-start : (table : List ℕ) → Lengths table no_marks
unfolding no_marks
lengths-start table = record { long = refl; each = λ b e. absurd (false≢true (sym (none_marked b) ∙ e)) }

module _ (table : List ℕ) (directory : List (List ℕ)) where
  pub marking-start : Marking (files_before table directory 0) no_marks
  unfolding files_before
  marking-start = record { exactly = none_marked }

  -- an unused entry has no file
  pub files-stay : (k : ℕ) → is_used (entry_at directory k) ≡ false → files_before table directory (suc k) ≡ files_before table directory k
  files-stay k u = files-snoc table directory k ∙ rw (no_file table (entry_at directory k) u, append-nil)

  pub unused-shares : (k : ℕ) → is_used (entry_at directory k) ≡ false → shares_block table directory k ≡ false
  unfolding shares_block
  unused-shares k u =
      let e : file_of table (entry_at directory k) ≡ [] = no_file table (entry_at directory k) u in
      rw e

  pub unused-bad : (k : ℕ) → is_used (entry_at directory k) ≡ false → bad_chain table (entry_at directory k) ≡ false
  unfolding bad_chain
  unused-bad k u = rw u

  -- the walk along the file of entry i
  module _ (i : ℕ) (u : is_used (entry_at directory i) ≡ true) {marks marks' : List ℕ} where
    pub walk-bad : Walked table (chain_of table (entry_at directory i)) marks Broken marks' → bad_chain table (entry_at directory i) ≡ true
    walk-bad w = chain-bad table (entry_at directory i) u ∙ go (chain_of table (entry_at directory i)) w.answers
      where
        go : (o : Option (List ℕ)) → Broken ≡ answer o marks → not (is_some o) ≡ true
        go None e = refl
        go (Some bs) e = absurd (not-broken (any_of (is_marked marks) bs) e)

    module _ (t : Bool) (w : Walked table (chain_of table (entry_at directory i)) marks (outcome t) marks') where
      pub walk-good : bad_chain table (entry_at directory i) ≡ false
      walk-good = chain-bad table (entry_at directory i) u ∙ go (chain_of table (entry_at directory i)) w.answers
        where
          go : (o : Option (List ℕ)) → outcome t ≡ answer o marks → not (is_some o) ≡ false
          go None e = absurd (not-broken t (sym e))
          go (Some bs) e = refl

      there : chain_of table (entry_at directory i) ≡ Some (file_of table (entry_at directory i))
      there = chain-file table (entry_at directory i) u walk-good

      pub walk-lengths : Lengths table marks'
      walk-lengths = w.are_lengths (ap is_some there)

      shared : t ≡ any_of (is_marked marks) (file_of table (entry_at directory i))
      shared = same-outcome _ _ (w.answers ∙ rw there)

      module _ (m : Marking (files_before table directory i) marks) where
        pub walk-shares : t ≡ shares_block table directory i
        unfolding shares_block
        walk-shares = shared ∙ any_same _ _ (file_of table (entry_at directory i)) (λ b e. m.exactly b)

        pub walk-marking : t ≡ false → Marking (files_before table directory (i + 1)) marks'
        walk-marking apart = record { exactly = now-marked }
          where
            now-marked : (b : ℕ) → is_marked marks' b ≡ has b (files_before table directory (i + 1))
            now-marked b =
                let before = files_before table directory i in
                let file = file_of table (entry_at directory i) in
                w.marked file there (sym shared ∙ apart) b ∙ ap (λ (t : Bool). has b file || t) (m.exactly b) ∙ or_comm (has b file) (has b before)
                ∙ sym (any_append (λ x. eqb x b) before file) ∙ rw (add-one i, files-snoc table directory i)

-- ---- orphans

-- how many of the first blocks pass a test
unfoldable pub count_to : (ℕ → Bool) → ℕ → ℕ
count_to p n = count p 0 n

count-snoc : (p : ℕ → Bool) (k n : ℕ) → count p k (suc n) ≡ count p k n + one (p (k + n))
count-snoc p k zero =
    let e : k + 0 ≡ k = omega arith in
    omega (arith, count_next p k 0, ap (λ (i : ℕ). one (p i)) e)
count-snoc p k (suc n) =
    let e : suc k + n ≡ k + suc n = omega arith in
    omega (arith, count_next p k (suc n), count_next p k n, count-snoc p (suc k) n, ap (λ (i : ℕ). one (p i)) e)

pub count_to-next : (p : ℕ → Bool) (b : ℕ) → count_to p (b + 1) ≡ count_to p b + one (p b)
unfolding count_to
count_to-next p b =
    let z : 0 + b ≡ b = omega arith in
    rw (add-one b) (count-snoc p 0 b ∙ rw z)

-- so many of the first b blocks are in use but in no file
pub record Counted (table : List ℕ) (directory : List (List ℕ)) (count b : ℕ) : Type 0 where
  pub small : count ≤ b
  pub is_count : count ≡ count_to (is_orphan table directory) b

module _ {table : List ℕ} {directory : List (List ℕ)} where
  pub counted_none : Counted table directory 0 0
  unfolding count_to
  counted_none = record { small = omega arith; is_count = refl }

  -- one block more, by its mark and its entry
  pub counted_next : {marks : List ℕ} {count b : ℕ} → MarkedFiles table (files_before table directory 208) marks → Counted table directory count b
      → {l : Link} → l ≡ link_at table b → {unused : Bool} → unused ≡ free_or_damaged l
      → {k : ℕ} → k ≡ bool_byte (eqb (get_or marks b 0) 0 && not unused) → Counted table directory (count + k) (b + 1)
  unfolding is_orphan is_marked
  counted_next {marks} {count} {b} f c p v {k} w = record {
    small = omega (arith, c.small, one-small (is_orphan table directory b), k-is);
    is_count = omega (arith, c.is_count, count_to-next (is_orphan table directory) b, k-is);
  }
    where
      swap : (s t u : Bool) → not s ≡ u → bool_byte (s && not t) ≡ one (not t && not u)
      swap true true u e = refl
      swap true false u e = rw (← e)
      swap false true u e = refl
      swap false false u e = rw (← e)

      k-is : k ≡ one (is_orphan table directory b)
      k-is = w ∙ rw (v, p) (swap (eqb (get_or marks b 0) 0) (free_or_damaged (link_at table b)) _ (f.are_of_blocks.exactly b))

      one-small : (t : Bool) → one t ≤ 1
      one-small true = omega arith
      one-small false = omega arith

  pub counted_all : {count b : ℕ} → Counted table directory count b → b ≡ 200 → count ≡ orphans table directory
  unfolding orphans count_to
  counted_all c e = c.is_count ∙ rw e

-- ---- the same as a difference: of the blocks in use, those that are marked

-- the block is in use
abbrev pub is_in_use : List ℕ → ℕ → Bool
is_in_use table b = not (free_or_damaged (link_at table b))

-- a marked block is
in_use : {table marks : List ℕ} → Lengths table marks → (b : ℕ) → is_marked marks b ≡ true → is_in_use table b ≡ true
in_use {table} {marks} l b m = go (chain table (get_or marks b 0) b) refl (l.each b m)
  where
    go : (o : Option (List ℕ)) → chain table (get_or marks b 0) b ≡ o → is_some o ≡ true → not (free_or_damaged (link_at table b)) ≡ true
    go None e s = absurd (false≢true s)
    go (Some bs) e s = rw (all-has (λ x. free_or_damaged (link_at table x) ≡ false) bs b (chain-used table _ b bs e) (rw (chain_head table _ b bs e, eq-eqb b b refl)))

counts-add : (p q r : ℕ → Bool) → ((i : ℕ) → one (p i) + one (q i) ≡ one (r i)) → (k n : ℕ) → count p k n + count q k n ≡ count r k n
counts-add p q r e k zero = refl
counts-add p q r e k (suc n) = omega (arith, count_next p k n, count_next q k n, count_next r k n, counts-add p q r e (suc k) n, e k)

orphans-left : (table : List ℕ) (directory : List (List ℕ)) {marks : List ℕ} → MarkedFiles table (files_before table directory 208) marks
    → orphans table directory + count_to (is_marked marks) 200 ≡ count_to (is_in_use table) 200
unfolding orphans count_to is_orphan
orphans-left table directory {marks} f = counts-add (is_orphan table directory) (is_marked marks) (is_in_use table) each 0 200
  where
    each : (b : ℕ) → one (is_orphan table directory b) + one (is_marked marks b) ≡ one (is_in_use table b)
    each b = rw (← f.are_of_blocks.exactly b) (go (is_marked marks b) refl)
      where
        go : (t : Bool) → is_marked marks b ≡ t → one (not (free_or_damaged (link_at table b)) && not t) + one t ≡ one (not (free_or_damaged (link_at table b)))
        go true m = rw (in_use f.are_lengths b m)
        go false m = rw (and-true (not (free_or_damaged (link_at table b)))) (omega arith)

pub orphans-are : (table : List ℕ) (directory : List (List ℕ)) {marks : List ℕ} {used marked : ℕ} → MarkedFiles table (files_before table directory 208) marks
    → used ≡ count_to (is_in_use table) 200 → marked ≡ count_to (is_marked marks) 200 → (marked ≤ used) × (used - marked ≡ orphans table directory)
orphans-are table directory f u m =
    let e = orphans-left table directory f in
    (omega (arith, e, u, m), omega (arith, e, u, m))
