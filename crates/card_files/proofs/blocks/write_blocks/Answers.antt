use Rattle.std.proofs.Common.{◌≡◌, ◌/◌, sym, arith, length, ⊎_elim, ◌∙◌}
use Rattle.card_files.proofs.BlockLaws.{chunks-start, chunks-next, no_block, no_data}
use Rattle.card_files.proofs.blocks.write_blocks.Goals as goal

pub loop-j-init : goal.loop-j-init
loop-j-init c =
    let items = c.enumerate-j-items.ensures in
    let count : length c.args.content.now / 512 ≡ length c.args.blocks.now = omega (arith, c.requires.content_len.1) in
    record {
      blocks_left = rw (c.into_iter-j-iterator.ensures.into_iter_gives, items.count, items.source, c.zip.ensures.first, c.iter.ensures.rest);
      written =
          rw (c.into_iter-j-iterator.ensures.into_iter_gives, items.source, c.zip.ensures.first, c.iter.ensures.rest, c.zip.ensures.second.0, c.as_chunks.ensures.front, count)
          (chunks-start _ _ _);
    }

pub loop-j-preserved : goal.loop-j-preserved
loop-j-preserved c =
    let step = c.in-Some.ensures.steps in
    let inv = c.loop-j.invariant in
    let n = chunks-next c.loop-j.card c.args.blocks.now _ c.in-Some.j step.1 inv.blocks_left step.0.0 step.0.1 c.link_to.ensures (rw c.from.ensures at c.write_block.ensures) in
    record { blocks_left = n.0 ∙ rw step.2; written = inv.written ∙ n.1 }

pub returns : goal.returns
returns c =
    sym (c.loop-j.invariant.written ∙ ⊎_elim (λ a. no_block c.loop-j.card _ _ a.1.0) (λ b. no_data c.loop-j.card _ _ b.1.0) c.in-None.ensures.steps.0)
