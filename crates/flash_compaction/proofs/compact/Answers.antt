use Prim.Native.Nat.{ℕ, ◌≤◌, ◌<◌}
use mathlib.Core.Path.{◌≡◌, refl, ◌∙◌}
use mathlib.Core.List.{List}
use native.Mathlib.Omega.{arith}
use lib.ListN.{length, set}
use Rattle.flash_model.specs.Measures.{capacity, top_number}
use Rattle.flash_model.proofs.MeasureLaws.{capacity-most}
use Rattle.flash_partition.specs.Usable.{Usable}
use Rattle.flash_partition.specs.declared.opened.OpenedLog.{OpenedLog}
use Rattle.flash_partition.proofs.UsableLaws.{usable-legal, usable-has, usable-measured}
use Rattle.flash_listing.specs.BlockTests.{kept_blocks}
use Rattle.flash_listing.proofs.NoMarksLaws.{no_marks, none_marked}
use Rattle.flash_moving.specs.Moving.{AllMoved}
use Rattle.flash_compaction.proofs.CompactionLaws.{others-high, compact-is, number-low}
use Rattle.flash_compaction.proofs.compact.Goals as goal

module _ {image : List ℕ} {log : OpenedLog} (u : Usable image log) {n : ℕ} (legal : n ≤ top_number log.m.size) where
  -- the number has its place among the marks
  inside : n < 1021
  inside = omega (arith, number-low u n legal, capacity-most log.m.size (usable-legal u))

  -- and without its contents there is room for the new block
  room : (page : List ℕ) {moved : List ℕ} {next : ℕ} → length page ≡ 60 → AllMoved (kept_blocks (set no_marks n 1) image log.used) image moved next → next ≤ capacity log.m.size
  room page {moved} {next} l m = others-high u no_marks none_marked moved next n page legal l inside 1 m refl

pub bounds-marks-number : goal.bounds-marks-number
bounds-marks-number c = inside c.requires.usable c.requires.number_bound

pub write_block_at-requires : goal.write_block_at-requires
write_block_at-requires c =
    let o = usable-has c.requires.usable in record { has_measures = record { has_size = c.keep_contents-next.auto.image ∙ o.has_size; is_legal = o.is_legal }; k_bound = (omega (arith, room c.requires.usable c.requires.number_bound c.args.page.now c.told-page c.keep_contents-next.ensures, c.keep_contents-next.ensures.next_is), omega (arith, inside c.requires.usable c.requires.number_bound)) }

pub overflow_add-next : goal.overflow_add-next
overflow_add-next c = omega (arith, room c.requires.usable c.requires.number_bound c.args.page.now c.told-page c.keep_contents-next.ensures, (usable-measured c.requires.usable).two_bytes)

pub blank_rest-requires : goal.blank_rest-requires
blank_rest-requires c =
    let o = usable-has c.requires.usable in record { has_measures = record { has_size = c.write_block_at.auto.image ∙ c.keep_contents-next.auto.image ∙ o.has_size; is_legal = o.is_legal }; le_next = (omega arith, omega (arith, room c.requires.usable c.requires.number_bound c.args.page.now c.told-page c.keep_contents-next.ensures)) }

pub returns : goal.returns
returns c =
    c.blank_rest.ensures
    ∙ compact-is c.requires.usable no_marks none_marked _ c.keep_contents-next.result c.args.number c.args.page.now c.requires.number_bound c.told-page (inside c.requires.usable c.requires.number_bound)
    _ c.keep_contents-next.ensures refl _ c.write_block_at.ensures
