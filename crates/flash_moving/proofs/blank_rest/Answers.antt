use Prim.Native.Nat.{ℕ, ◌-◌}
use mathlib.Core.Path.{ap, ◌∙◌}
use mathlib.Core.List.{List}
use native.Mathlib.Omega.{arith}
use Rattle.flash_model.specs.Update.{bits_cleared}
use Rattle.flash_moving.proofs.MoveLaws.{filled}
use Rattle.flash_moving.proofs.BlankLaws.{blank-bitmap}
use Rattle.flash_measures.proofs.WithinLaws.{is_within}
use borrow.Author.Rules.{rules}
use Rattle.flash_moving.proofs.blank_rest.Goals as goal

pub start-at-requires : goal.start-at-requires
start-at-requires c =
    let w = is_within (c.args.next - 1) c.requires.has_measures (omega arith) in
    search rules

pub slice_bounds-fill-count : goal.slice_bounds-fill-count
slice_bounds-fill-count c =
    let w = is_within (c.args.next - 1) c.requires.has_measures (omega arith) in
    search rules

pub slice_bounds-fill-start : goal.slice_bounds-fill-start
slice_bounds-fill-start c =
    (let w = is_within (c.args.next - 1) c.requires.has_measures (omega arith) in
    search rules)

pub clear_bits-requires : goal.clear_bits-requires
clear_bits-requires c =
    let w = is_within (c.args.next - 1) c.requires.has_measures (omega arith) in
    let same = filled c.args.image.now c.args.m.size c.args.next _ c.requires.has_measures.has_size (omega arith) c.start-at.ensures (c.fill.ensures.after (λ y e. e)) in
    record { has_measures = record { has_size = search rules; is_legal = search rules }; n_bound = (search rules, blank-bitmap c.args.image.now c.args.m.size c.args.next (search rules) (omega arith) same) }

pub returns : goal.returns
returns c =
    let w = is_within (c.args.next - 1) c.requires.has_measures (omega arith) in
    let s = c.start-at in
    c.clear_bits.ensures
    ∙ ap (λ (l : List ℕ). bits_cleared l (c.args.next - 1))
    (filled c.args.image.now c.args.m.size c.args.next _ c.requires.has_measures.has_size (omega arith) s.ensures (c.fill.ensures.after (λ y e. e)))
