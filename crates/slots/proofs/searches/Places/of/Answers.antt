use native.Mathlib.Omega.{arith}
use Rattle.flash_partition.proofs.UsableLaws.{usable-has}
use Rattle.slots.proofs.HeaderLaws.{slot_capacity}
use Rattle.slots.proofs.searches.Places.of.Goals as goal

pub invariant_of-result : goal.invariant_of-result
invariant_of-result c =
    let slots = c.args.slots.has_slots in
    let found = c.find_places.ensures in
    record {
      found = record {
        has_measures = usable-has slots.is_usable;
        size_is = slots.has_size;
        long = omega (arith, found.same_length);
        each = λ n h. found.each n (omega (arith, h, slot_capacity _ slots.has_size));
      };
    }
