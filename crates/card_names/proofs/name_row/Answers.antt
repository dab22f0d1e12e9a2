use Prim.Native.Nat.{ℕ}
use mathlib.Core.Path.{refl, sym, ap, ◌∙◌}
use native.Mathlib.Omega.{arith}
use Rattle.verdicts.specs.declared.Place.TheVariants.{Entry}
use Rattle.verdicts.specs.Rows.{row_over}
use Rattle.card_model.specs.Layout.{directory_of}
use Rattle.card_model.specs.Entries.{name_of, entry_at, name_taken, name_row}
use Rattle.card_directory.proofs.ListedLaws.{first_from, found_here, found-later, found_none}
use Rattle.card_names.specs.Slots.{slot_of}
use Rattle.card_names.proofs.NameLaws.{unused-free, before-read, chained-to, slots-start, slots_next, taken-found}
use Rattle.card_names.proofs.name_row.Goals as goal

pub loop-j-init : goal.loop-j-init
loop-j-init c = record { slots = slots-start _ _; passed = refl }

pub find_back-requires-clause-chained : goal.find_back-requires-clause-chained
find_back-requires-clause-chained c =
    let newest = rw (before-read _ _ c.checked_sub.ensures) at (c.loop-j.invariant.slots.newest _ c.slot_of-slot.ensures.1) in
    chained-to _ _ _ newest.within c.loop-j.invariant.slots.chains

pub returns-then-is_some : goal.returns-then-is_some
unfolding name_row first_from
returns-then-is_some c =
    let is-name = c.name_of-name.ensures ∙ ap name_of c.entry_at.ensures in
    let newest = rw (before-read _ _ c.checked_sub.ensures) at (c.loop-j.invariant.slots.newest _ c.slot_of-slot.ensures.1) in
    let taken = taken-found _ _ c.args.directory.listed c.loop-j.j _ c.from-i.ensures (omega arith) is-name c.slot_of-slot.ensures.0 newest c.find_back.ensures ∙ sym c.is_some.ensures ∙ c.if-is_some.true in
    let found = found_here _ (name_taken (directory_of c.args.directory.card.now)) (unused-free _) c.args.directory.listed c.loop-j.j _ c.from-i.ensures (omega arith) taken in
    rw c.at.ensures (ap (row_over _ Entry) (sym (c.loop-j.invariant.passed ∙ found)))

pub loop-j-preserved : goal.loop-j-preserved
loop-j-preserved c =
    let directory = directory_of c.args.directory.card.now in
    let is-name = c.name_of-name.ensures ∙ ap name_of c.entry_at.ensures in
    let newest = rw (before-read _ _ c.checked_sub.ensures) at (c.loop-j.invariant.slots.newest _ c.slot_of-slot.ensures.1) in
    let free = taken-found _ _ c.args.directory.listed c.loop-j.j _ c.from-i.ensures (omega arith) is-name c.slot_of-slot.ensures.0 newest c.find_back.ensures ∙ sym c.is_some.ensures ∙ c.if-is_some.false in
    let slot-is = c.slot_of-slot.ensures.0 ∙ ap slot_of is-name ∙ ap (λ (i : ℕ). slot_of (name_of (entry_at directory i))) c.from-i.ensures in
    record {
      slots = slots_next _ _ _ c.loop-j.invariant.slots (omega (arith, c.args.directory.listed.fits)) slot-is c.slot_of-slot.ensures.1 refl;
      passed = c.loop-j.invariant.passed ∙ found-later _ (name_taken directory) (unused-free _) c.args.directory.listed c.loop-j.j _ c.from-i.ensures (omega arith) free;
    }

pub returns : goal.returns
unfolding name_row first_from
returns c =
    let found = found_none _ (name_taken (directory_of c.args.directory.card.now)) (unused-free _) c.args.directory.listed c.loop-j.j (omega arith) in
    ap (row_over _ Entry) (sym (c.loop-j.invariant.passed ∙ found))
