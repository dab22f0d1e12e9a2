use Prim.Native.Nat.{ℕ, ◌-◌}
use mathlib.Core.Path.{◌≡◌, sym, ap, ap₂, ◌∙◌}
use mathlib.Core.Bool.{Bool, true, false, ◌&&◌}
use mathlib.Core.List.{List}
use native.Mathlib.Omega.{arith}
use Rattle.std.specs.Prelude.{Some}
use Rattle.flash_model.specs.UserBlock.{right_checksum}
use Rattle.flash_model.specs.Partition.{block_at, copy_at}
use Rattle.flash_partition.specs.Search.{found_up_to, NextNumbered}
use Rattle.flash_partition.proofs.SearchLaws.{from-used, found_here, passed}
use Rattle.flash_partition.proofs.UsableLaws.{count_most}
use Rattle.flash_partition.proofs.opened.Partition.find.Goals as goal

-- the search comes down to block k, whose part tells whether its checksum is right
module _ {image part : List ℕ} {n top k : ℕ} {right : Bool} (s : NextNumbered image n top k) (p : part ≡ block_at image k) (e : right ≡ right_checksum part) where
  is-copy : copy_at image n k ≡ right
  is-copy = ap₂ ◌&&◌ s.has_number (ap right_checksum (sym p) ∙ sym e)

  found : right ≡ true → found_up_to image n top ≡ Some k
  found r = s.same ∙ found_here image n k s.is_block (is-copy ∙ r)

  not-found : right ≡ false → found_up_to image n top ≡ found_up_to image n (k - 1)
  not-found r = s.same ∙ passed image n k s.is_block (is-copy ∙ r)

pub loop-at-init : goal.loop-at-init
loop-at-init c = (omega arith, from-used c.args.self.usable c.args.number c.requires)

pub highest_with_number-requires : goal.highest_with_number-requires
highest_with_number-requires c = omega (arith, c.loop-at.invariant.0, count_most c.args.self.usable)

pub block-requires : goal.block-requires
block-requires c = omega (arith, c.loop-at.invariant.0, c.in-Some.ensures.below, count_most c.args.self.usable)

pub returns-then-right_checksum : goal.returns-then-right_checksum
returns-then-right_checksum c = sym (c.loop-at.invariant.1 ∙ found c.in-Some.ensures c.block.ensures c.right_checksum.ensures c.if-right_checksum.true)

pub loop-at-preserved : goal.loop-at-preserved
loop-at-preserved c = (
  omega (arith, c.in-Some.ensures.below, c.loop-at.invariant.0),
  c.loop-at.invariant.1 ∙ not-found c.in-Some.ensures c.block.ensures c.right_checksum.ensures c.if-right_checksum.false,
)
