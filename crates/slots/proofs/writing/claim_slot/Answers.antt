use mathlib.Core.Path.{sym}
use native.Mathlib.Omega.{arith}
use Rattle.slots.proofs.ClaimLaws.{claims, slot_99, opens_again, same_size, both_saved}
use Rattle.slots.proofs.writing.claim_slot.Goals as goal

pub slot_number-requires : goal.slot_number-requires
slot_number-requires c =
    let claim = claims c.requires c.in-Ok-Ok.ensures.1 c.in-Ok-Ok.ensures'.1 c.right_header.ensures c.if-not-right_header.false c.product_of.ensures c.in-Free.ensures in
    (slot_99 claim, omega arith)

pub slot_number-requires-in-Free : goal.slot_number-requires-in-Free
slot_number-requires-in-Free c =
    let claim = claims c.requires c.in-Ok-Ok.ensures.1 c.in-Ok-Ok.ensures'.1 c.right_header.ensures c.if-not-right_header.false c.product_of.ensures c.in-Free.ensures in
    (slot_99 claim, omega arith)

pub save_over-requires-in-Free-clause-image_value : goal.save_over-requires-in-Free-clause-image_value
save_over-requires-in-Free-clause-image_value c =
    let claim = claims c.requires c.in-Ok-Ok.ensures.1 c.in-Ok-Ok.ensures'.1 c.right_header.ensures c.if-not-right_header.false c.product_of.ensures c.in-Free.ensures in
    opens_again claim c.slot_number.ensures.0 c.save_over.ensures

pub save_over-requires-in-Free-clause-size_value : goal.save_over-requires-in-Free-clause-size_value
save_over-requires-in-Free-clause-size_value c =
    let claim = claims c.requires c.in-Ok-Ok.ensures.1 c.in-Ok-Ok.ensures'.1 c.right_header.ensures c.if-not-right_header.false c.product_of.ensures c.in-Free.ensures in
    same_size claim c.slot_number.ensures.0 c.save_over.ensures

pub returns-in-Free-clause-image_after : goal.returns-in-Free-clause-image_after
returns-in-Free-clause-image_after c =
    let claim = claims c.requires c.in-Ok-Ok.ensures.1 c.in-Ok-Ok.ensures'.1 c.right_header.ensures c.if-not-right_header.false c.product_of.ensures c.in-Free.ensures in
    rw (sym c.in-Ok-Ok.ensures.1.same, sym c.in-Ok-Ok.ensures'.1.same)
    (both_saved claim c.slot_number.ensures.0 c.save_over.ensures c.slot_number-in-Free.ensures.0 c.save_over-in-Free.ensures)
