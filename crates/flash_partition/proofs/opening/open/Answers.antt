use Prim.Native.Nat.{ℕ}
use mathlib.Core.Path.{◌≡◌, sym, ap, ◌∙◌}
use mathlib.Core.List.{List}
use lib.ListN.{length}
use Rattle.std.specs.Prelude.{Option}
use Rattle.std.proofs.lemmas.Result.{err_from_is_err_and}
use Rattle.flash_model.specs.Partition.{lowest_free}
use Rattle.flash_bitmap.specs.Found.{lowest_allocated}
use Rattle.flash_partition.proofs.OpenLaws.{open-refused, open_full, free-low, open-gap, open_free}
use Rattle.flash_partition.proofs.opening.open.Goals as goal

-- the bytes that were measured are the image's
module _ {bytes image : List ℕ} (e : bytes ≡ image) where
  free : {o r : Option ℕ} → r ≡ lowest_free bytes → r ≡ o → lowest_free image ≡ o
  free f g = ap lowest_free (sym e) ∙ sym f ∙ g

  behind : (k : ℕ) {o r : Option ℕ} → r ≡ lowest_allocated bytes k → r ≡ o → lowest_allocated image k ≡ o
  behind k f g = ap (λ (i : List ℕ). lowest_allocated i k) (sym e) ∙ sym f ∙ g

  size : {n : ℕ} → length bytes ≡ n → n ≡ length image
  size s = sym s ∙ ap length e

pub returns-in_err-measured-clause-code : goal.returns-in_err-measured-clause-code
returns-in_err-measured-clause-code c =
    let p = err_from_is_err_and c.from_residual.result c.from_residual.ensures.1 in
    rw (p.1, p.2) (open-refused c.args.image.now c.args.partition _ c.in_err-measured.ensures.code)

pub invariant_of-result : goal.invariant_of-result
invariant_of-result c =
    let m = c.in_ok-measured in
    let e = m.ensures.image in
    record { usable = (open_full c.args.image.now c.args.partition m.ensures.code (free e c.lowest_free.ensures c.in_default.is) m.measured.m (size e m.measured.sized.has_size) c.capacity.result c.capacity.ensures).is_usable }

pub returns-in_default-clause-code : goal.returns-in_default-clause-code
returns-in_default-clause-code c =
    let m = c.in_ok-measured in
    let e = m.ensures.image in
    (open_full c.args.image.now c.args.partition m.ensures.code (free e c.lowest_free.ensures c.in_default.is) m.measured.m (size e m.measured.sized.has_size) c.capacity.result c.capacity.ensures).unrefused

pub lowest_allocated-requires : goal.lowest_allocated-requires
lowest_allocated-requires c =
    free-low c.args.image.now c.args.partition c.in_ok-measured.ensures.code _ (free c.in_ok-measured.ensures.image c.lowest_free.ensures c.in-Some.is)

pub returns-in_default-lowest_allocated-clause-code : goal.returns-in_default-lowest_allocated-clause-code
returns-in_default-lowest_allocated-clause-code c =
    let e = c.in_ok-measured.ensures.image in
    open-gap c.args.image.now c.args.partition c.in_ok-measured.ensures.code _ (free e c.lowest_free.ensures c.in-Some.is) _ (behind e c.in-Some.free c.lowest_allocated.ensures c.in_default-lowest_allocated.is)

pub overflow_sub-log : goal.overflow_sub-log
overflow_sub-log c =
    free-low c.args.image.now c.args.partition c.in_ok-measured.ensures.code _ (free c.in_ok-measured.ensures.image c.lowest_free.ensures c.in-Some.is)

pub invariant_of-result-2 : goal.invariant_of-result-2
invariant_of-result-2 c =
    let m = c.in_ok-measured in
    let e = m.ensures.image in
    record { usable = (open_free c.args.image.now c.args.partition m.ensures.code _ (free e c.lowest_free.ensures c.in-Some.is) (behind e c.in-Some.free c.lowest_allocated.ensures c.in-None.is) m.measured.m (size e m.measured.sized.has_size)).is_usable }

pub returns-clause-code : goal.returns-clause-code
returns-clause-code c =
    let m = c.in_ok-measured in
    let e = m.ensures.image in
    (open_free c.args.image.now c.args.partition m.ensures.code _ (free e c.lowest_free.ensures c.in-Some.is) (behind e c.in-Some.free c.lowest_allocated.ensures c.in-None.is) m.measured.m (size e m.measured.sized.has_size)).unrefused
