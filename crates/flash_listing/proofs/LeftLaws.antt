-- What passes leave in the marks of numbers and in `kept`. Assumes nothing.
use Prim.Native.Nat.{ℕ, ◌+◌, ◌-◌, ◌≤◌}
use mathlib.Core.Path.{◌≡◌, refl, sym, ap, ◌∙◌}
use mathlib.Core.Bool.{true, cond}
use mathlib.Core.List.{List}
use Rattle.std.specs.Prelude.{None}
use mathlib.Core.Logic.{◌⊎◌, inl, inr}
use native.Mathlib.Omega.{arith}
use native.Mathlib.Decide.{ℕ_discrete, dec_le}
use lib.Dec.{eqb}
use lib.ListN.{length, get_or, take, set}
use lib.Seq.{take-set-le, take-take}
use borrow.Author.Tests.{ne_eqb, le-ltb}
use Rattle.words.specs.Lists.{is_some}
use Rattle.flash_model.specs.Measures.{capacity}
use Rattle.flash_model.specs.Partition.{holder}
use Rattle.flash_model.proofs.MeasureLaws.{legal-below}
use Rattle.flash_partition.specs.declared.opened.Partition.{Partition}
use Rattle.flash_partition.proofs.UsableLaws.{usable-measured}
use Rattle.flash_listing.specs.Passing.{PassAt, MarksAdded, ListGrown, mark_after}

-- ---- the marks

pub added_none : (image marks : List ℕ) → MarksAdded image marks marks
added_none image marks = record { each = λ n. inl refl }

pub added_then : {image a b c : List ℕ} → MarksAdded image a b → MarksAdded image b c → MarksAdded image a c
added_then {image} {a} {b} {c} x y = record { each = λ n. go n (x.each n) (y.each n) }
  where
    go : (n : ℕ) → (get_or b n 0 ≡ get_or a n 0) ⊎ ((get_or a n 0 ≡ 0) × ((get_or b n 0 ≡ 1) × (is_some (holder image n) ≡ true)))
        → (get_or c n 0 ≡ get_or b n 0) ⊎ ((get_or b n 0 ≡ 0) × ((get_or c n 0 ≡ 1) × (is_some (holder image n) ≡ true)))
        → (get_or c n 0 ≡ get_or a n 0) ⊎ ((get_or a n 0 ≡ 0) × ((get_or c n 0 ≡ 1) × (is_some (holder image n) ≡ true)))
    go n (inl p) (inl q) = inl (q ∙ p)
    go n (inl p) (inr q) = inr (sym p ∙ q.0, q.1)
    go n (inr p) (inl q) = inr (p.0, (q ∙ p.1.0, p.1.1))
    go n (inr p) (inr q) = absurd (omega (arith, p.1.0, q.0))

-- a number without a mark has no contents, where no block is left
no-holder : {marks : List ℕ} {p : Partition} → PassAt marks p 0 → (n : ℕ) → get_or marks n 0 ≡ 0 → holder p.image.now n ≡ None
no-holder {marks} {p} f n free = go (dec_le (capacity p.log.m.size) n)
  where
    go : Dec (capacity p.log.m.size ≤ n) → holder p.image.now n ≡ None
    go (yes h) = unfold holder in rw (p.usable.has_size, legal-below p.log.m.size n (usable-measured p.usable), le-ltb n (capacity p.log.m.size) h)
    go (no h) = f.unmarked n (omega (arith, h)) free

pub marks-after : {marks marks' : List ℕ} {p : Partition} → MarksAdded p.image.now marks marks' → PassAt marks' p 0
    → (n : ℕ) → get_or marks' n 0 ≡ mark_after p.image.now marks n
unfolding mark_after
marks-after {marks} {marks'} {p} x f n = go (x.each n) (ℕ_discrete (get_or marks n 0) 0)
  where
    image : List ℕ
    image = p.image.now

    go : (get_or marks' n 0 ≡ get_or marks n 0) ⊎ ((get_or marks n 0 ≡ 0) × ((get_or marks' n 0 ≡ 1) × (is_some (holder image n) ≡ true))) → Dec (get_or marks n 0 ≡ 0)
        → get_or marks' n 0 ≡ cond (eqb (get_or marks n 0) 0) (cond (is_some (holder image n)) 1 0) (get_or marks n 0)
    go (inl q) (yes e) = q ∙ e ∙ rw (e, no-holder f n (q ∙ e))
    go (inl p) (no h) = p ∙ rw (ne_eqb (get_or marks n 0) 0 h)
    go (inr p) d = p.1.0 ∙ rw (p.0, p.1.1)

-- ---- the list

pub grown-none : (count : ℕ) (kept : List ℕ) → ListGrown count count kept kept
grown-none count kept = record { no_fewer = omega arith; same_front = refl }

pub grown-stored : (count r v : ℕ) (kept : List ℕ) → ListGrown count (count + r) kept (set kept (length kept - count - 1) v)
grown-stored count r v kept = record {
  no_fewer = omega arith;
  same_front = take-set-le (length kept - (count + r) - 1) kept (length kept - count - 1) v (omega arith);
}

pub grown-then : {x y z : ℕ} {a b c : List ℕ} → ListGrown x y a b → ListGrown y z b c → length b ≡ length a → ListGrown x z a c
grown-then {x} {y} {z} {a} {b} {c} p q l =
    let less : length a - z - 1 ≤ length a - y - 1 = omega (arith, q.no_fewer) in
    let n = length a - z - 1 in
    let m = length a - y - 1 in
    let front : take n c ≡ take n b = ap (λ (i : ℕ). take (i - z - 1) c) (sym l) ∙ q.same_front ∙ ap (λ (i : ℕ). take (i - z - 1) b) l in
    record {
      no_fewer = omega (arith, p.no_fewer, q.no_fewer);
      same_front = front ∙ sym (take-take n m b less) ∙ ap (take n) p.same_front ∙ take-take n m a less;
    }
