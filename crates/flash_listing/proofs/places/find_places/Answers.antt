use Rattle.std.proofs.Common.{◌≡◌, ◌+◌, ◌-◌, List, ap₂, ◌∙◌, ℕ, arith}
use Rattle.flash_model.specs.Measures.{capacity}
use Rattle.flash_partition.proofs.UsableLaws.{usable-measured, count_most}
use Rattle.flash_listing.specs.NumberPlaces.{entered}
use Rattle.flash_listing.proofs.MarkLaws.{pass-first}
use Rattle.flash_listing.proofs.PlaceLaws.{filled_front, none-placed, cleared-length, entered-next, all_placed}
use Rattle.flash_listing.proofs.places.find_places.Goals as goal

pub overflow_step-k : goal.overflow_step-k
overflow_step-k c = omega (arith, count_most c.args.p.usable, (usable-measured c.args.p.usable).two_bytes)

pub loop-k-init : goal.loop-k-init
loop-k-init c =
    let end = capacity c.args.p.log.m.size in
    let cleared = filled_front c.args.places.now c.capacity-end.ensures c.requires (c.fill.ensures.after (λ y e. e)) in
    let e : c.args.p.log.used + 1 - 1 ≡ c.args.p.log.used = omega arith in
    (rw e (pass-first _ c.args.p (omega (arith, cleared-length end c.args.places.now _ c.requires cleared, c.requires))), none-placed c.args.p.image.now end c.args.places.now _ cleared)

pub enter-requires : goal.enter-requires
enter-requires c =
    let u = c.args.p.usable in
    let f = c.loop-k.invariant.0 in
    (omega (arith, f.long, c.capacity-end.ensures), omega (arith, f.not_past_end, (usable-measured u).two_bytes))

pub loop-k-preserved : goal.loop-k-preserved
loop-k-preserved c =
    let next = c.enter.ensures ∙ ap₂ (λ (n : ℕ) (b : List ℕ). entered n b (c.loop-k.k - 1) c.loop-k.places) c.capacity-end.ensures c.block.ensures in
    rw next (entered-next (omega arith) c.loop-k.invariant.0 c.loop-k.invariant.1)

pub returns : goal.returns
returns c =
    let e : c.loop-k.k - 1 ≡ 0 = omega arith in
    all_placed c.args.places.now c.requires (filled_front c.args.places.now c.capacity-end.ensures c.requires (c.fill.ensures.after (λ y e. e))) (rw e at c.loop-k.invariant.0) c.loop-k.invariant.1
