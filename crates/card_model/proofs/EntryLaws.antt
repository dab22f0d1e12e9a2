-- One directory entry: where its bytes are, what a right one says, and its file. Assumes nothing.
use Prim.Native.Nat.{ℕ, suc, ◌+◌, ◌≤◌, ◌<◌}
use mathlib.Core.Path.{◌≡◌, refl, sym, ap, ◌∙◌}
use mathlib.Core.Bool.{Bool, true, false, cond, false≢true}
use mathlib.Core.List.{List, [], ◌++◌, map}
use Rattle.std.specs.Prelude.{Option, None, Some}
use mathlib.Core.Logic.{◌↔◌, ◌≢◌}
use native.Mathlib.Omega.{arith}
use lib.Dec.{leb}
use lib.ListN.{length, get_or, take, drop, length-drop}
use lib.Seq.{length-take-le, get_or-take, get_or-drop}
use borrow.Author.Tests.{ltb-true, leb-true, eqb-true, eqb-false, eq-eqb, ne_eqb, not-false}
use Rattle.words.specs.Lists.{concat, is_some, numbers_from}
use Rattle.words.proofs.Bools.{or-false-left, or-false-right, and-true-left, and-true-right}
use Rattle.words.proofs.ListLaws.{map_snoc, range_at}
use Rattle.words.proofs.JoinLaws.{concat-snoc}
use Rattle.card_model.specs.declared.CopyProtection.{CopyProtection}
use Rattle.card_model.specs.declared.CopyProtection.TheVariants.{Protected, Copyable}
use Rattle.card_model.specs.Layout.{card_length, entry_block, entry_byte, entry_place, directory_of}
use Rattle.card_model.specs.Entries.{flag, is_protected, protection_of, first_block, size, is_used, wrong_kind, wrong_first, wrong_size, wrong_offset, wrong_entry, entry_at}
use Rattle.card_model.specs.Files.{chain, chain_of, bad_chain, or_empty, file_of, files_before}

pub entry-is : (card : List ℕ) (i : ℕ) → i < 208 → entry_at (directory_of card) i ≡ take 32 (drop (entry_place i) card)
unfolding entry_at directory_of
entry-is card i h = range_at (λ j. take 32 (drop (entry_place j) card)) 0 208 i [] h ∙ ap (λ (j : ℕ). take 32 (drop (entry_place j) card)) (omega arith)

pub entry_length : (card : List ℕ) (i : ℕ) → length card ≡ card_length → i < 208 → length (entry_at (directory_of card) i) ≡ 32
unfolding card_length entry_place entry_block entry_byte
entry_length card i e h =
    let after = drop (entry_place i) card in
    rw (entry-is card i h) (length-take-le 32 after (omega (arith, length-drop (entry_place i) card)))

-- a byte of it is one of the card's
pub entry-byte : (card : List ℕ) (i j : ℕ) → i < 208 → j < 32 → get_or (entry_at (directory_of card) i) j 0 ≡ get_or card (entry_place i + j) 0
entry-byte card i j h l =
    ap (λ (e : List ℕ). get_or e j 0) (entry-is card i h) ∙ get_or-take 32 (drop (entry_place i) card) j 0 l ∙ get_or-drop (entry_place i) card j 0

-- ---- the copy flag

abbrev says_protected : CopyProtection → Bool
says_protected Protected = true
says_protected Copyable = false

says-test : (t : Bool) → says_protected (cond t Protected Copyable) ≡ t
says-test true = refl
says-test false = refl

module _ (entry : List ℕ) where
  pub protected_exactly : (is_protected entry ≡ true) ↔ (flag entry ≡ 0xFF)
  unfolding is_protected
  protected_exactly = (λ e. eqb-true _ _ e, λ e. eq-eqb _ _ e)

  pub protected-says : (protection_of entry ≡ Protected) ↔ (flag entry ≡ 0xFF)
  unfolding protection_of is_protected
  protected-says = (λ e. eqb-true _ _ (sym (says-test _) ∙ ap says_protected e), λ e. rw e)

  pub copyable-says : (protection_of entry ≡ Copyable) ↔ (flag entry ≢ 0xFF)
  unfolding protection_of is_protected
  copyable-says = (λ e. eqb-false _ _ (sym (says-test _) ∙ ap says_protected e), λ n. rw (ne_eqb _ _ n))

-- ---- a used entry and its file

module _ (entry : List ℕ) (u : is_used entry ≡ true) where
  pub right-entry : wrong_entry entry ≡ false → (first_block entry < 200) × (1 ≤ size entry) × (size entry ≤ 200)
  unfolding wrong_entry wrong_first wrong_size
  right-entry e =
      let a = or-false-right (wrong_kind entry) _ (rw u at e) in
      let b = or-false-right (wrong_first entry) _ a in
      let n = not-false _ (or-false-left _ (wrong_offset entry) b) in
      (ltb-true _ _ (not-false _ (or-false-left _ _ a)), leb-true _ _ (and-true-left (leb 1 (size entry)) _ n), leb-true _ _ (and-true-right (leb 1 (size entry)) _ n))

  pub file-chain : (table : List ℕ) → bad_chain table entry ≡ false → chain table (size entry) (first_block entry) ≡ Some (file_of table entry)
  unfolding bad_chain chain_of file_of
  file-chain table e = rw u (go (chain table (size entry) (first_block entry)) (not-false _ (rw u at e)))
    where
      go : (o : Option (List ℕ)) → is_some o ≡ true → o ≡ Some (or_empty o)
      go None h = absurd (false≢true h)
      go (Some bs) h = refl

pub no_file : (table entry : List ℕ) → is_used entry ≡ false → file_of table entry ≡ []
unfolding file_of
no_file table entry u = rw u

-- the files before an entry, one entry more
pub files-snoc : (table : List ℕ) (directory : List (List ℕ)) (i : ℕ)
    → files_before table directory (suc i) ≡ files_before table directory i ++ file_of table (entry_at directory i)
unfolding files_before
files-snoc table directory i =
    let file : ℕ → List ℕ = λ j. file_of table (entry_at directory j) in
    let z : 0 + i ≡ i = omega arith in
    ap concat (map_snoc file 0 i) ∙ concat-snoc (map file (numbers_from 0 i)) (file (0 + i)) ∙ rw z
