use Prim.Native.Nat.{ℕ}
use mathlib.Core.Path.{◌≡◌, sym}
use mathlib.Core.Bool.{true, false}
use Rattle.std.proofs.Common.{rules}
use Rattle.std.proofs.lemmas.Iterator.{first_from_Range}
use Rattle.slots.proofs.SearchLaws.{has_number, lowest_found}
use Rattle.slots.proofs.searches.next_valid.Goals as goal

pub returns : goal.returns
returns c =
    let image = c.of-places.result.partition.image.now in
    let first = first_from_Range _ _ _ c.find.result (λ (k : ℕ). has_number image k ≡ true) (λ (k : ℕ). has_number image k ≡ false) c.find.ensures.ran (λ x q k. search rules) (λ x q k. search rules) in
    rw (sym c.of-places.ensures) (sym (lowest_found image c.args.from c.find.result first))
