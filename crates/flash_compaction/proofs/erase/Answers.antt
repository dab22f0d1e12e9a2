use mathlib.Core.Path.{◌∙◌}
use native.Mathlib.Omega.{arith}
use Rattle.flash_partition.proofs.UsableLaws.{usable-has}
use Rattle.flash_listing.proofs.NoMarksLaws.{none_marked}
use Rattle.flash_compaction.proofs.CompactionLaws.{erase-low, erase-high, erase-is}
use Rattle.flash_compaction.proofs.erase.Goals as goal

pub blank_rest-requires : goal.blank_rest-requires
blank_rest-requires c =
    let o = usable-has c.requires in
    let n = erase-low c.requires _ none_marked _ c.keep_contents-next.result c.keep_contents-next.ensures in
    let h = erase-high c.requires _ none_marked _ c.keep_contents-next.result c.keep_contents-next.ensures in
    record { has_measures = record { has_size = c.keep_contents-next.auto.image ∙ o.has_size; is_legal = o.is_legal }; le_next = (omega arith, omega (arith, n, h)) }

pub returns : goal.returns
returns c =
    c.blank_rest.ensures
    ∙ erase-is c.requires _ none_marked _ c.keep_contents-next.result c.keep_contents-next.ensures
