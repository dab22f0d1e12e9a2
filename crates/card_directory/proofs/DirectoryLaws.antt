-- Parts of a card, and rules 26 and 29 of an entry. Assumes nothing.
use Prim.Native.Nat.{ℕ}
use mathlib.Core.Path.{◌≡◌, sym, ap, ◌∙◌}
use mathlib.Core.Bool.{true, false, and-false}
use mathlib.Core.List.{List}
use native.Mathlib.Omega.{arith}
use lib.ListN.{length, take, drop, length-drop}
use lib.Seq.{length-take-le}
use Rattle.std.specs.Prelude.{Option, None}
use Rattle.words.specs.Lists.{is_some}
use Rattle.words.specs.Search.{lowest}
use Rattle.words.specs.Words.{same_bytes}
use Rattle.words.proofs.SearchLaws.{any-lowest, lowest-nothing}
use Rattle.words.proofs.WordLaws.{same-lengths}
use Rattle.card_model.specs.Layout.{card_length, directory_of}
use Rattle.card_model.specs.Calls.{entry_named}
use Rattle.card_model.proofs.EntryLaws.{entry_length}
use Rattle.card_model.specs.Entries.{name_of, is_used, wrong_entry, entry_at, is_named, name_taken}

pub unused-right : (directory : List (List ℕ)) (i : ℕ) → is_used (entry_at directory i) ≡ false → wrong_entry (entry_at directory i) ≡ false
unfolding wrong_entry
unused-right directory i u = rw u

-- a used entry has a name exactly if its bytes there are the name's
pub used-named : (name entry : List ℕ) → is_used entry ≡ true → same_bytes (name_of entry) name ≡ is_named name entry
unfolding is_named
used-named name entry u = rw u

pub unused-unnamed : (directory : List (List ℕ)) (name : List ℕ) (i : ℕ) → is_used (entry_at directory i) ≡ false → is_named name (entry_at directory i) ≡ false
unfolding is_named
unused-unnamed directory name i u = rw u

-- no entry has a name of another length than 12
pub no-such-length : (card name : List ℕ) → length card ≡ card_length → (length name ≡ 12 → ⊥) → entry_named (directory_of card) name ≡ None
unfolding entry_named is_named name_of
no-such-length card name long other =
    lowest-nothing (λ i. is_named name (entry_at (directory_of card) i)) 0 208
    (λ i a b.
    let e = entry_at (directory_of card) i in
    let n : length e ≡ 32 = entry_length card i long b in
    let m : length (take 12 (drop 4 e)) ≡ 12 = length-take-le 12 (drop 4 e) (omega (arith, length-drop 4 e, n)) in
    rw (same-lengths (take 12 (drop 4 e)) name (λ d. other (sym d ∙ m))) (simp and-false))

-- ---- rule 29 of the entry that stands in a part s of the card

module _ (directory : List (List ℕ)) (i : ℕ) (s : List ℕ) (e : s ≡ entry_at directory i) where
  pub unused-name : is_used s ≡ false → name_taken directory i ≡ false
  unfolding name_taken
  unused-name u = rw (← e, u)

  pub used-name : is_used s ≡ true → (o : Option ℕ) → lowest (λ j. is_named (name_of s) (entry_at directory j)) 0 i ≡ o → name_taken directory i ≡ is_some o
  unfolding name_taken
  used-name u o q = rw (← e, u) (any-lowest (λ j. is_named (name_of s) (entry_at directory j)) 0 i ∙ ap (λ (r : Option ℕ). is_some r) q)
