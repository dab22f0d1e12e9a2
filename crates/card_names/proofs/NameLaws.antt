-- The slots of the listed names, and what a search back from one tells. Assumes nothing.
use Prim.Native.Nat.{ℕ, zero, suc, ◌+◌, ◌-◌, ◌≤◌, ◌<◌}
use mathlib.Core.Path.{◌≡◌, refl, sym, ap, ◌∙◌}
use mathlib.Core.Bool.{Bool, true, false}
use mathlib.Core.List.{List}
use Rattle.std.specs.Prelude.{Option, None, Some, SomeIff, is_some}
use native.Mathlib.Omega.{arith}
use native.Mathlib.Decide.{ℕ_discrete}
use native.Mathlib.Numerals.{add-one}
use lib.Dec.{ltb}
use lib.ListN.{get_or, set, replicate, length-replicate, get_or-replicate, length-set}
use lib.Seq.{get_or-set_same, get_or-set_other, set-get_or}
use borrow.Author.Tests.{ltb-true, ltb-false}
use Rattle.words.specs.Words.{same_bytes}
use Rattle.words.proofs.Bools.{and-true-left, and-true-right}
use Rattle.words.proofs.JoinLaws.{any-range}
use Rattle.words.proofs.SearchLaws.{lowest-nothing}
use Rattle.words.proofs.WordLaws.{same-eq, eq-same}
use Rattle.card_model.specs.Entries.{name_of, is_used, entry_at, is_named, name_taken}
use Rattle.card_directory.specs.Listed.{reached, Listed}
use Rattle.card_directory.proofs.DirectoryLaws.{unused-name, used-name}
use Rattle.card_directory.proofs.ListedLaws.{listed-used, listed-index, listed-rises}
use Rattle.card_names.specs.Slots.{slot_of, name_at, slot_at, up_to, before, LastOf, Chained, Slots}

-- ---- where nothing is stored from n on, a store of 0 changes nothing (`name_row` stores each link all the same)

pub record NoneFrom (next : List ℕ) (n : ℕ) : Type 0 where
  pub none_at : (k : ℕ) → n ≤ k → k < 208 → get_or next k 0 ≡ 0

pub none-start : NoneFrom (replicate 208 0) 0
none-start = record { none_at = λ k a b. get_or-replicate {A = ℕ} 208 k 0 0 b }

module _ {next : List ℕ} {j : ℕ} (z : NoneFrom next j) (k : ℕ) where
  pub none-next : NoneFrom (set next j k) (j + 1)
  none-next = record { none_at = λ x a b. get_or-set_other next j x k 0 (λ e. omega arith) ∙ z.none_at x (omega arith) b }

  pub unstored : j < 208 → k ≡ 0 → next ≡ set next j k
  unstored b e = sym (ap (set next j) (e ∙ sym (z.none_at j (omega arith) b)) ∙ set-get_or next j 0)

-- ---- names

named-used : (name e : List ℕ) → is_named name e ≡ true → is_used e ≡ true
unfolding is_named
named-used name e n = and-true-left (is_used e) (same_bytes (name_of e) name) n

named-name : (name e : List ℕ) → is_named name e ≡ true → name_of e ≡ name
unfolding is_named
named-name name e n = same-eq (name_of e) name (and-true-right (is_used e) (same_bytes (name_of e) name) n)

is_named_lem : (name e : List ℕ) → is_used e ≡ true → name_of e ≡ name → is_named name e ≡ true
unfolding is_named
is_named_lem name e u n = rw u (eq-same (name_of e) name n)

pub unused-free : (directory : List (List ℕ)) (i : ℕ) → is_used (entry_at directory i) ≡ false → name_taken directory i ≡ false
unused-free directory i u = unused-name directory i (entry_at directory i) refl u

pub last-of-none : {A : Type 0} {f : ℕ → A} {x : A} {n : ℕ} → n ≡ 0 → LastOf f x n None
last-of-none z = record { within = omega arith; own = λ j q. absurd (none-some q); others = λ j a b. absurd (omega arith) }
  where
    none-some : {j : ℕ} → ◌≡◌ {A = Option ℕ} None (Some j) → ⊥
    none-some q = cc

-- ---- a byte of the tables, and what `checked_sub(1)` reads from it

pub before-read : (b : ℕ) (o : Option ℕ) → SomeIff o (1 ≤ b) (b - 1) → before b ≡ o
before-read zero None h = refl
before-read zero (Some k) h = absurd (omega (arith, h.0))
before-read (suc b) None h = absurd (h (omega arith))
before-read (suc b) (Some k) h = let e : k ≡ b = omega (arith, h.1) in cc

module _ (directory : List (List ℕ)) (used : List ℕ) where
  abbrev slot : ℕ → ℕ
  slot = slot_at directory used

  abbrev name : ℕ → List ℕ
  name = name_at directory used

  -- ---- the slots

  pub slots-start : Slots directory used (replicate 2048 0) (replicate 208 0) 0
  slots-start = record {
    slots_many = length-replicate {A = ℕ} 2048 0;
    next_many = length-replicate {A = ℕ} 208 0;
    chains = record { back = λ j h. absurd (omega arith) };
    newest = λ s h. rw (get_or-replicate {A = ℕ} 2048 s 0 0 h) (last-of-none refl);
  }

  module _ (next : List ℕ) where
    pub chained-to : {k n : ℕ} → k ≤ n → Chained directory used next n → Chained directory used next k
    chained-to h c = record { back = λ j b. c.back j (omega arith) }

    -- name j is entered
    pub slots_next : {slots : List ℕ} {j s k : ℕ} → Slots directory used slots next j → j < 208 → s ≡ slot j → s < 2048 → k ≡ get_or slots s 0
        → Slots directory used (set slots s (j + 1)) (set next j k) (j + 1)
    slots_next {slots} {j} {s} {k} t b e h q = record {
      slots_many = length-set slots s (j + 1) ∙ t.slots_many;
      next_many = length-set next j k ∙ t.next_many;
      chains = record { back = λ x c. backs x c (ℕ_discrete x j) };
      newest = λ x c. lasts x c (ℕ_discrete x s);
    }
      where
        backs : (x : ℕ) → x < j + 1 → Dec (x ≡ j) → LastOf slot (slot x) x (before (get_or (set next j k) x 0))
        backs x c (yes z) = rw (z, get_or-set_same next j k 0 (omega (arith, t.next_many)), q, ← e) (t.newest s h)
        backs x c (no z) = rw (get_or-set_other next j x k 0 z) (t.chains.back x (omega (arith, z)))

        lasts : (x : ℕ) → x < 2048 → Dec (x ≡ s) → LastOf slot x (j + 1) (before (get_or (set slots s (j + 1)) x 0))
        lasts x c (yes z) = rw (z, get_or-set_same slots s (j + 1) 0 (omega (arith, t.slots_many)), add-one) (record {
          within = omega arith;
          own = λ y p. let f : y ≡ j = cc in ap slot f ∙ sym e;
          others = λ y p r. absurd (omega arith);
        })
        lasts x c (no z) =
            let o = t.newest x c in
            rw (get_or-set_other slots s x (j + 1) 0 z) (record { within = omega (arith, o.within); own = o.own; others = other o })
          where
            other : LastOf slot x j (before (get_or slots x 0)) → (y : ℕ) → up_to (before (get_or slots x 0)) ≤ y → y < j + 1 → slot y ≡ x → ⊥
            other o y p r f = go (ℕ_discrete y j)
              where
                go : Dec (y ≡ j) → ⊥
                go (yes v) = z (sym f ∙ ap slot v ∙ sym e)
                go (no v) = o.others y p (omega (arith, v)) f

  -- ---- the search back from the last name of a slot: those from `at` on do not have the name

  module _ (x : List ℕ) (n : ℕ) where
    pub record Sought (at : Option ℕ) : Type 0 where
      pub within : up_to at ≤ n
      pub own : (j : ℕ) → at ≡ Some j → slot j ≡ slot_of x
      pub others : (j : ℕ) → up_to at ≤ j → j < n → name j ≡ x → ⊥

    pub sought-start : {at : Option ℕ} → n ≡ up_to at → ((j : ℕ) → at ≡ Some j → slot j ≡ slot_of x) → Sought at
    sought-start e o = record { within = omega (arith, e); own = o; others = λ j a b. absurd (omega (arith, e)) }

    pub sought-none : Sought None → LastOf name x n None
    sought-none s = record { within = omega arith; own = λ j q. absurd (let z : ⊥ = cc in z); others = s.others }

    module _ {k : ℕ} (s : Sought (Some k)) where
      pub sought-here : name k ≡ x → LastOf name x n (Some k)
      sought-here e = record { within = s.within; own = λ j q. let f : j ≡ k = cc in ap name f ∙ e; others = s.others }

      pub sought-back : {next : List ℕ} {o : Option ℕ} → Chained directory used next n → (name k ≡ x → ⊥) → SomeIff o (1 ≤ get_or next k 0) (get_or next k 0 - 1) → Sought o
      sought-back {next} {o} c d r =
          let w = s.within in
          let b = rw (before-read _ _ r) at (c.back k (omega arith)) in
          record { within = omega (arith, b.within); own = λ j q. b.own j q ∙ s.own k refl; others = λ j p r. other b j p r (ltb k j) refl (ℕ_discrete j k) }
        where
          other : LastOf slot (slot k) k o → (j : ℕ) → up_to o ≤ j → j < n → (t : Bool) → ltb k j ≡ t → Dec (j ≡ k) → name j ≡ x → ⊥
          other b j p r t q (yes z) e = d (ap name (sym z) ∙ e)
          other b j p r true q (no z) e = s.others j (omega (arith, ltb-true k j q)) r e
          other b j p r false q (no z) e = b.others j p (omega (arith, z, ltb-false k j q)) (ap slot_of e ∙ sym (s.own k refl))

  -- among all n names, where those behind `start` are of other slots
  pub last-named : {x : List ℕ} {s n : ℕ} {start r : Option ℕ} → LastOf slot s n start → s ≡ slot_of x → LastOf name x (up_to start) r → LastOf name x n r
  last-named {x} {s} {n} {start} {r} l e f =
      record { within = omega (arith, f.within, l.within); own = f.own; others = λ j a b. go j a b (ltb j (up_to start)) refl }
    where
      go : (j : ℕ) → up_to r ≤ j → j < n → (t : Bool) → ltb j (up_to start) ≡ t → name j ≡ x → ⊥
      go j a b true q = f.others j a (ltb-true j (up_to start) q)
      go j a b false q = λ z. l.others j (ltb-false j (up_to start) q) b (ap slot_of z ∙ sym e)

  -- ---- rule 29

  module _ {count : ℕ} (l : Listed directory 208 used count) where
    -- number j is entry i, whose name was sought among those before it
    module _ (j i : ℕ) (e : i ≡ get_or used j 0) (h : j < count) where
      pub name_free : LastOf name (name_of (entry_at directory i)) j None → name_taken directory i ≡ false
      name_free f = used-name directory i (entry_at directory i) refl (listed-used l j i e h) None (lowest-nothing test 0 i other)
        where
          test : ℕ → Bool
          test k = is_named (name_of (entry_at directory i)) (entry_at directory k)

          other : (k : ℕ) → 0 ≤ k → k < 0 + i → test k ≡ false
          other k a b = go (test k) refl
            where
              go : (t : Bool) → test k ≡ t → t ≡ false
              go false q = refl
              go true q =
                  let x = listed-index l (suc j) (omega arith) k (omega arith) (named-used _ (entry_at directory k) q) in
                  let apart : x.index ≡ j → ⊥ = λ d. omega (arith, x.is, ap (λ (y : ℕ). get_or used y 0) d) in
                  absurd (f.others x.index (omega arith) (omega (arith, x.low, apart)) (rw (← x.is) (named-name _ (entry_at directory k) q)))

      pub name-taken : {k : ℕ} → LastOf name (name_of (entry_at directory i)) j (Some k) → name_taken directory i ≡ true
      unfolding name_taken
      name-taken {k} f =
          let w = f.within in
          let b : get_or used k 0 < reached used j = listed-rises l j (omega arith) k (omega arith) in
          let c : get_or used k 0 < i = omega (arith, b, (l.each j h).from_start) in
          let u = (l.each k (omega arith)).is_used_lem in
          rw (listed-used l j i e h)
          (any-range (λ m. is_named (name_of (entry_at directory i)) (entry_at directory m)) 0 i (get_or used k 0) (omega arith) (omega arith)
          (is_named_lem _ (entry_at directory (get_or used k 0)) u (f.own k refl)))

      -- the name is sought from the last one of its slot on
      pub taken-found : {x : List ℕ} {s : ℕ} {start r : Option ℕ} → x ≡ name_of (entry_at directory i) → s ≡ slot_of x → LastOf slot s j start
          → LastOf name x (up_to start) r → name_taken directory i ≡ is_some r
      taken-found {r = r} u q b f = go r (rw u at (last-named b q f))
        where
          go : (o : Option ℕ) → LastOf name (name_of (entry_at directory i)) j o → name_taken directory i ≡ is_some o
          go None d = name_free d
          go (Some k) d = name-taken d
