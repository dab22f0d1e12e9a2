-- The lowest unused entry is the first number that the list of the used ones lacks. Assumes nothing.
use Prim.Native.Nat.{ℕ, zero, suc, ◌+◌, ◌≤◌, ◌<◌}
use mathlib.Core.Path.{◌≡◌, refl, sym, ap, ◌∙◌}
use mathlib.Core.Bool.{Bool, true, false, not, false≢true}
use mathlib.Core.List.{List}
use Rattle.std.specs.Prelude.{None, Some}
use native.Mathlib.Omega.{arith}
use native.Mathlib.Decide.{ℕ_discrete}
use lib.Dec.{ltb}
use lib.ListN.{length, get_or}
use borrow.Author.Tests.{ltb-true, ltb-false}
use Rattle.words.specs.Lists.{is_some}
use Rattle.words.proofs.SearchLaws.{lowest-is, lowest-nothing}
use Rattle.card_model.specs.Entries.{is_used, entry_at}
use Rattle.card_directory.specs.Listed.{reached, Listed}
use Rattle.card_updates.specs.Write.{lowest_unused}

-- the first j numbers of the list are 0, 1, 2 and on
abbrev pub Counts : List ℕ → ℕ → Type 0
Counts used j = (i : ℕ) → i < j → get_or used i 0 ≡ i

pub counts-next : (used : List ℕ) (j : ℕ) → Counts used j → get_or used j 0 ≡ j → Counts used (j + 1)
counts-next used j c e i h = go (ℕ_discrete i j)
  where
    go : Dec (i ≡ j) → get_or used i 0 ≡ i
    go (yes d) = rw d e
    go (no d) = c i (omega (arith, d))

counts-reach : (used : List ℕ) (j : ℕ) → Counts used j → reached used j ≡ j
counts-reach used zero c = refl
counts-reach used (suc j) c = ap suc (c j (omega arith))

module _ {directory : List (List ℕ)} {used : List ℕ} (l : Listed directory 208 used (length used)) (j : ℕ) (c : Counts used j) where
  used_below : j ≤ length used → (i : ℕ) → i < j → is_used (entry_at directory i) ≡ true
  used_below fits i h = rw (c i h) at (l.each i (omega arith)).is_used_lem

  lowest_here : j ≤ length used → j < 208 → is_used (entry_at directory j) ≡ false → lowest_unused directory ≡ Some j
  unfolding lowest_unused
  lowest_here fits h u =
      lowest-is (λ i. not (is_used (entry_at directory i))) 0 208 j
      (record { low = omega arith; high = omega arith; passes = ap not u; none_below = λ i a b. ap not (used_below fits i b) })

  -- the next number of the list is another one
  pub lacks_number : {x : ℕ} → j < length used → x ≡ get_or used j 0 → (x ≡ j → ⊥) → lowest_unused directory ≡ Some j
  lacks_number {x} h e n =
      let u = l.each j h in
      let low = u.from_start in
      let r = counts-reach used j c in
      let above : j < get_or used j 0 = omega (arith, low, r, n) in
      lowest_here (omega arith) (omega (arith, above, u.before_end)) (u.skipped j (omega (arith, r)) above)

  full : j ≤ length used → 208 ≤ j → lowest_unused directory ≡ None
  unfolding lowest_unused
  full fits h = lowest-nothing (λ i. not (is_used (entry_at directory i))) 0 208 (λ i a b. ap not (used_below fits i (omega arith)))

  -- the list is at its end
  at_end : j ≡ length used → is_some (lowest_unused directory) ≡ true → lowest_unused directory ≡ Some j
  at_end e some_unused = go (ltb j 208) refl
    where
      go : (t : Bool) → ltb j 208 ≡ t → lowest_unused directory ≡ Some j
      go true h = lowest_here (omega arith) (ltb-true j 208 h) (l.rest j (rw (← e) (omega (arith, counts-reach used j c))) (ltb-true j 208 h))
      go false h = absurd (false≢true (sym (ap is_some (full (omega arith) (ltb-false j 208 h))) ∙ some_unused))

  pub behind_all : length used ≤ j → j ≤ length used → is_some (lowest_unused directory) ≡ true → lowest_unused directory ≡ Some (length used)
  behind_all a b some_unused =
      let e : j ≡ length used = omega arith in
      rw e at (at_end e some_unused)

pub ruleset unused = (lacks_number, behind_all)
