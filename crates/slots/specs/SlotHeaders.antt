-- The product number of a slot, where its header is right.
-- Assumes nothing.
use Rattle.std.specs.Prelude.{ℕ, cond, List}
use Rattle.std.specs.Prelude.{Option, None, Some}
use Rattle.flash_model.specs.Slots.{slot_header, right_header, product_of}

abbrev pub product_in : Option (List ℕ) → Option (List ℕ)
product_in None = None
product_in (Some header) = cond (right_header header) (Some (product_of header)) None

-- The product number of a valid slot.
abbrev pub slot_product : List ℕ → ℕ → Option (List ℕ)
slot_product image slot = product_in (slot_header image slot)
