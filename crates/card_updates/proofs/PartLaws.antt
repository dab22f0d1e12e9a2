-- Laws of a card with one part put anew: one law on parts, and from it what every part, byte and two-byte number is.
-- Assumes nothing.
use Prim.Native.Nat.{ℕ, ◌+◌, ◌-◌, ◌≤◌, ◌<◌}
use mathlib.Core.Path.{◌≡◌, refl, sym, ap, ◌∙◌}
use mathlib.Core.Bool.{Bool, true, false, and-false, true≢false}
use mathlib.Core.List.{List, ◌++◌, append_assoc}
use mathlib.Core.Logic.{◌⊎◌, inl, inr, ⊎_elim}
use native.Mathlib.Omega.{arith}
use lib.Dec.{leb}
use lib.ListN.{length, get_or, take, drop, length-append, length-take, length-drop}
use lib.Seq.{length-take-le, take_at, drop_at, drop-drop, drop-append-add, get_or-take, get_or-drop, ext_get_or}
use borrow.Author.Tests.{leb-true, ltb-true, leb-false, ltb-false, lt-leb, le-ltb}
use Rattle.words.specs.Lists.{any_of, has}
use Rattle.words.specs.Words.{word, word_bytes}
use Rattle.words.proofs.Bools.{and-false-either, and-true-left, and-true-right}
use Rattle.words.proofs.ListLaws.{part-front}
use Rattle.words.proofs.JoinLaws.{any-among}
use Rattle.card_updates.specs.Parts.{with_part, Within, OnlyAt}
use Rattle.card_updates.proofs.NamedBytes.{in_part, SameBut}

-- ---- the law on parts

module _ (card : List ℕ) (at : ℕ) (part : List ℕ) (fits : at + length part ≤ length card) where
  front : length (take at card) ≡ at
  front = length-take-le at card (omega arith)

  pub part_length : length (with_part card at part) ≡ length card
  unfolding with_part
  part_length =
      let n = length part in
      length-append (take at card) (part ++ drop (at + n) card)
      ∙ omega (arith, front, length-append part (drop (at + n) card), length-drop (at + n) card)

  -- the part that was put
  pub part_same : take (length part) (drop at (with_part card at part)) ≡ part
  unfolding with_part
  part_same = rw (drop_at (take at card) (part ++ drop (at + length part) card) at front) (take_at part (drop (at + length part) card) (length part) refl)

  part-before : (a n : ℕ) → a + n ≤ at → take n (drop a (with_part card at part)) ≡ take n (drop a card)
  unfolding with_part
  part-before a n h =
      let rest = part ++ drop (at + length part) card in
      part-front a n at (take at card ++ rest) h ∙ rw (take_at (take at card) rest at front) (sym (part-front a n at card h))

  part-after : (a n : ℕ) → at + length part ≤ a → take n (drop a (with_part card at part)) ≡ take n (drop a card)
  unfolding with_part
  part-after a n h =
      let m = at + length part in
      let r = a - m in
      let whole : take at card ++ (part ++ drop m card) ≡ (take at card ++ part) ++ drop m card = sym (append_assoc (take at card) part (drop m card)) in
      let k : length (take at card ++ part) ≡ m = length-append (take at card) part ∙ omega (arith, front) in
      let e : a ≡ length (take at card ++ part) + r = omega (arith, k) in
      let f : m + r ≡ a = omega arith in
      ap (take n) (ap (drop a) whole ∙ ap (λ (j : ℕ). drop j ((take at card ++ part) ++ drop m card)) e
      ∙ drop-append-add (take at card ++ part) (drop m card) r ∙ drop-drop r m card ∙ ap (λ (j : ℕ). drop j card) f)

  -- every other part
  pub part-other : (a n : ℕ) → (a + n ≤ at) ⊎ (at + length part ≤ a) → take n (drop a (with_part card at part)) ≡ take n (drop a card)
  part-other a n = ⊎_elim (part-before a n) (part-after a n)

-- ---- bytes and two-byte numbers are parts

byte-part : (l : List ℕ) (k : ℕ) → get_or l k 0 ≡ get_or (take 1 (drop k l)) 0 0
byte-part l k =
    let e : k + 0 ≡ k = omega arith in
    sym (get_or-take 1 (drop k l) 0 0 (omega arith) ∙ get_or-drop k l 0 0 ∙ ap (λ (j : ℕ). get_or l j 0) e)

pub word-part : (l : List ℕ) (i : ℕ) → word l i ≡ word (take 2 (drop i l)) 0
unfolding word
word-part l i =
    let e : i + 0 ≡ i = omega arith in
    let a : get_or (take 2 (drop i l)) 0 0 ≡ get_or l i 0 = get_or-take 2 (drop i l) 0 0 (omega arith) ∙ get_or-drop i l 0 0 ∙ ap (λ (j : ℕ). get_or l j 0) e in
    let b : get_or (take 2 (drop i l)) 1 0 ≡ get_or l (i + 1) 0 = get_or-take 2 (drop i l) 1 0 (omega arith) ∙ get_or-drop i l 1 0 in
    sym (rw (a, b))

pub word-bytes : (n : ℕ) → word (word_bytes n) 0 ≡ n
unfolding word word_bytes
word-bytes n = omega arith

-- ---- named bytes

pub in-part-out : (at n k : ℕ) → (k < at) ⊎ (at + n ≤ k) → in_part at n k ≡ false
unfolding in_part
in-part-out at n k (inl h) = rw (lt-leb at k h)
in-part-out at n k (inr h) = rw (le-ltb k (at + n) h) (and-false (leb at k))

pub out-of-part : (at n k : ℕ) → in_part at n k ≡ false → (k < at) ⊎ (at + n ≤ k)
unfolding in_part
out-of-part at n k e = ⊎_elim (λ f. inl (leb-false at k f)) (λ f. inr (ltb-false k (at + n) f)) (and-false-either (leb at k) _ e)

-- putting a part changes only that part's bytes
pub part-named : (card : List ℕ) (at : ℕ) (part : List ℕ) → at + length part ≤ length card → SameBut (in_part at (length part)) card (with_part card at part)
part-named card at part fits = record {
  same_length = part_length card at part fits;
  same_byte = λ k e.
      byte-part (with_part card at part) k
      ∙ ap (λ (l : List ℕ). get_or l 0 0) (part-other card at part fits k 1 (⊎_elim (λ h. inl (omega arith)) (λ h. inr h) (out-of-part at (length part) k e)))
      ∙ sym (byte-part card k);
}

pub same_none : (named : ℕ → Bool) (card : List ℕ) → SameBut named card card
same_none named card = record { same_length = refl; same_byte = λ k e. refl }

pub same_then : (p q r : ℕ → Bool) (a b c : List ℕ) → SameBut p a b → SameBut q b c
    → ((k : ℕ) → r k ≡ false → (p k ≡ false) × (q k ≡ false)) → SameBut r a c
same_then p q r a b c s t h = record {
  same_length = t.same_length ∙ s.same_length;
  same_byte = λ k e. t.same_byte k (h k e).1 ∙ s.same_byte k (h k e).0;
}

-- ---- places

pub in-part-tells : (at n k : ℕ) → in_part at n k ≡ true → Within at n k
unfolding in_part
in-part-tells at n k e = (leb-true at k (and-true-left (leb at k) _ e), ltb-true k (at + n) (and-true-right (leb at k) _ e))

-- the named bytes are at these places
pub only_at : (named : ℕ → Bool) (place : ℕ → Type 0) (card after : List ℕ) → SameBut named card after → ((k : ℕ) → named k ≡ true → place k)
    → OnlyAt place card after
only_at named place card after s h = record { same_length = s.same_length; same_byte = λ k n. go k n (named k) refl }
  where
    go : (k : ℕ) → (place k → ⊥) → (t : Bool) → named k ≡ t → get_or after k 0 ≡ get_or card k 0
    go k n false e = s.same_byte k e
    go k n true e = absurd (n (h k e))

-- ---- a part of which no byte is named

module _ (named : ℕ → Bool) (card after : List ℕ) (same : SameBut named card after) where
  pub same-part : (a n : ℕ) → ((k : ℕ) → a ≤ k → k < a + n → named k ≡ false) → take n (drop a after) ≡ take n (drop a card)
  same-part a n h = ext_get_or 0 (take n (drop a after)) (take n (drop a card)) lengths bytes
    where
      lengths : length (take n (drop a after)) ≡ length (take n (drop a card))
      lengths = simp (length-take, length-drop, same.same_length)

      bytes : (i : ℕ) → i < length (take n (drop a after)) → get_or (take n (drop a after)) i 0 ≡ get_or (take n (drop a card)) i 0
      bytes i l =
          let m : i < n = omega (arith, l, length-take n (drop a after)) in
          get_or-take n (drop a after) i 0 m ∙ get_or-drop a after i 0 ∙ same.same_byte (a + i) (h (a + i) (omega arith) (omega arith))
          ∙ sym (get_or-take n (drop a card) i 0 m ∙ get_or-drop a card i 0)

  pub same_word : (a : ℕ) → ((k : ℕ) → a ≤ k → k < a + 2 → named k ≡ false) → word after a ≡ word card a
  same_word a h = word-part after a ∙ ap (λ (l : List ℕ). word l 0) (same-part a 2 h) ∙ sym (word-part card a)

-- ---- a part put anew on two cards

-- a byte of the part that was put
pub put_byte : (card : List ℕ) (at : ℕ) (part : List ℕ) → at + length part ≤ length card → (j : ℕ) → j < length part
    → get_or (with_part card at part) (at + j) 0 ≡ get_or part j 0
put_byte card at part fits j h =
    let after = with_part card at part in
    sym (get_or-take (length part) (drop at after) j 0 h ∙ get_or-drop at after j 0) ∙ ap (λ (l : List ℕ). get_or l j 0) (part_same card at part fits)

module _ (named : ℕ → Bool) (card other : List ℕ) (same : SameBut named card other) (at : ℕ) (part other_part : List ℕ)
    (fits : at + length part ≤ length card) (long : length other_part ≡ length part)
    (alike : (j : ℕ) → named (at + j) ≡ false → get_or other_part j 0 ≡ get_or part j 0) where
  other_fits : at + length other_part ≤ length other
  other_fits = omega (arith, fits, long, same.same_length)

  -- the cards stay equal but for the named bytes where the parts are
  pub put_both : SameBut named (with_part card at part) (with_part other at other_part)
  put_both = record {
    same_length = part_length other at other_part other_fits ∙ same.same_length ∙ sym (part_length card at part fits);
    same_byte = λ k n. byte k n (in_part at (length part) k) refl;
  }
    where
      byte : (k : ℕ) → named k ≡ false → (t : Bool) → in_part at (length part) k ≡ t
          → get_or (with_part other at other_part) k 0 ≡ get_or (with_part card at part) k 0
      byte k n false e =
          let f : in_part at (length other_part) k ≡ false = rw long e in
          (part-named other at other_part other_fits).same_byte k f ∙ same.same_byte k n ∙ sym ((part-named card at part fits).same_byte k e)
      byte k n true e =
          let w = in-part-tells at (length part) k e in
          let j = k - at in
          let d : k ≡ at + j = omega (arith, w.0) in
          let h : j < length part = omega (arith, w.0, w.1) in
          let g : j < length other_part = omega (arith, h, long) in
          ap (λ (x : ℕ). get_or (with_part other at other_part) x 0) d ∙ put_byte other at other_part other_fits j g
          ∙ alike j (ap named (sym d) ∙ n) ∙ sym (ap (λ (x : ℕ). get_or (with_part card at part) x 0) d ∙ put_byte card at part fits j h)

-- ---- what no element of a list passes

pub none_in : (p : ℕ → Bool) (l : List ℕ) → ((x : ℕ) → has x l ≡ true → p x ≡ false) → any_of p l ≡ false
none_in p l h = go (any_of p l) refl
  where
    go : (t : Bool) → any_of p l ≡ t → t ≡ false
    go false e = refl
    go true e =
        let a = any-among p l e in
        absurd (true≢false (sym a.passes ∙ h a.found a.is_in))
