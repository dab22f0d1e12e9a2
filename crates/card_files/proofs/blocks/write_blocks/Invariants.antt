use Rattle.std.proofs.Common.{◌≡◌, drop}
use Rattle.std.specs.Iterator.Adapters.{enumerate_source, enumerate_count, zip_first, zip_second}
use Rattle.std.specs.Slice.Iter.{iter_rest}
use Rattle.card_updates.specs.Write.{with_blocks}
use Rattle.card_files.proofs.BlockLaws.{with_chunks}
use Rattle.card_files.proofs.blocks.write_blocks.Given as goal

-- what is written, and what is left to write, are all of it
abbrev pub invariant-loop-j : goal.invariant-loop-j
invariant-loop-j l =
    let left = enumerate_source l.j-iterator in
    record {
      blocks_left : iter_rest (zip_first left) ≡ drop (enumerate_count l.j-iterator) l.blocks;
      written : with_blocks l.fn.card l.blocks l.content ≡ with_chunks l.card (iter_rest (zip_first left)) (iter_rest (zip_second left));
    }
