use Prim.Native.Nat.{ℕ, ◌≤◌, ◌<◌}
use mathlib.Core.Path.{◌≡◌, refl, sym, ap₂, ◌∙◌}
use mathlib.Core.Bool.{true, false, ◌&&◌}
use mathlib.Core.List.{List, [], ◌∷◌}
use mathlib.Core.Logic.{◌≢◌}
use native.Mathlib.Omega.{arith}
use lib.Dec.{eqb}
use lib.ListN.{length, take, get_or}
use borrow.Author.Tests.{eq-eqb, ne_eqb, lt-ltb, le-ltb}
use Rattle.std.proofs.lemmas.Grind.{common_steps}
use Rattle.std.proofs.lemmas.Result.{err_from_is_err_and}
use Rattle.words.specs.Words.{same_bytes}
use Rattle.flash_model.specs.Measures.{legal_size}
use Rattle.flash_model.specs.Partition.{magic, header_number, version, length_row, header_rows}
use Rattle.flash_model.proofs.MeasureLaws.{measures-of}
use Rattle.flash_partition.specs.OpenAnswers.{header_refusal}
use Rattle.flash_partition.proofs.opening.open_header.Goals as goal

eqb-swap : (m n : ℕ) → eqb m n ≡ eqb n m
eqb-swap m n = grind (arith, common_steps)

same-swapped : (a b : List ℕ) → same_bytes a b ≡ same_bytes b a
same-swapped [] [] = refl
same-swapped [] (y ∷ b) = refl
same-swapped (x ∷ a) [] = refl
same-swapped (x ∷ a) (y ∷ b) = ap₂ ◌&&◌ (eqb-swap x y) (same-swapped a b)

module _ (image : List ℕ) (partition : ℕ) where
  unmeasured : false ≡ legal_size (length image) → 1 ≡ header_refusal image partition
  unfolding header_refusal length_row
  unmeasured l = rw (sym l)

  -- an image of a legal length has all bytes of a header
  module _ (legal : true ≡ legal_size (length image)) where
    has-header : 64 ≤ length image
    has-header = let m = measures-of (length image) (sym legal) in omega (arith, m.whole, m.top_number_lem)

    wrong-magic : same_bytes magic (take 16 image) ≡ false → 2 ≡ header_refusal image partition
    unfolding header_refusal length_row header_rows
    wrong-magic w = rw (sym legal, same-swapped (take 16 image) magic, w)

    module _ (right : same_bytes magic (take 16 image) ≡ true) where
      other-number : get_or image 16 0 ≢ partition → 3 ≡ header_refusal image partition
      unfolding header_refusal length_row header_rows header_number
      other-number n = rw (sym legal, same-swapped (take 16 image) magic, right, ne_eqb _ _ n)

      module _ (own : get_or image 16 0 ≡ partition) where
        later-version : 1 < get_or image 17 0 → 4 ≡ header_refusal image partition
        unfolding header_refusal length_row header_rows header_number version
        later-version v = rw (sym legal, same-swapped (take 16 image) magic, right, eq-eqb _ _ own, lt-ltb _ _ v)

        passed : get_or image 17 0 ≤ 1 → 0 ≡ header_refusal image partition
        unfolding header_refusal length_row header_rows header_number version
        passed v = rw (sym legal, same-swapped (take 16 image) magic, right, eq-eqb _ _ own, le-ltb _ _ v)

pub returns-in_err-m-clause-code : goal.returns-in_err-m-clause-code
returns-in_err-m-clause-code c =
    let p = err_from_is_err_and c.from_residual.result c.from_residual.ensures.1 in
    rw (p.1, p.2, c.in_err-m.ensures.1) (unmeasured c.args.image.now c.args.partition c.in_err-m.ensures.0)

pub returns-then-not-starts_with-clause-code : goal.returns-then-not-starts_with-clause-code
unfolding magic
returns-then-not-starts_with-clause-code c = wrong-magic c.args.image.now c.args.partition c.in_ok-m.ensures.0 (sym c.starts_with.ensures.value ∙ c.if-not-starts_with.true)

pub bounds-image-16 : goal.bounds-image-16
bounds-image-16 c = omega (arith, has-header c.args.image.now c.args.partition c.in_ok-m.ensures.0)

pub returns-then-image-partition-clause-code : goal.returns-then-image-partition-clause-code
unfolding magic
returns-then-image-partition-clause-code c = other-number c.args.image.now c.args.partition c.in_ok-m.ensures.0 (sym c.starts_with.ensures.value ∙ c.if-not-starts_with.false) c.if-image-partition.true

pub bounds-image-17 : goal.bounds-image-17
bounds-image-17 c = omega (arith, has-header c.args.image.now c.args.partition c.in_ok-m.ensures.0)

pub returns-then-image-gt1-clause-code : goal.returns-then-image-gt1-clause-code
unfolding magic
returns-then-image-gt1-clause-code c = later-version c.args.image.now c.args.partition c.in_ok-m.ensures.0 (sym c.starts_with.ensures.value ∙ c.if-not-starts_with.false) c.if-image-partition.false c.if-image-gt1.true

pub returns-clause-code : goal.returns-clause-code
unfolding magic
returns-clause-code c = passed c.args.image.now c.args.partition c.in_ok-m.ensures.0 (sym c.starts_with.ensures.value ∙ c.if-not-starts_with.false) c.if-image-partition.false c.if-image-gt1.false
