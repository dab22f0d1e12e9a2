-- Where there is room: the file's blocks and its entry.
use Prim.Native.Nat.{ℕ, ◌*◌}
use mathlib.Core.Path.{◌≡◌, ◌∙◌}
use native.Mathlib.Omega.{arith}
use lib.ListN.{length}
use Rattle.card_updates.specs.Write.{NewFile, blocks_of}
use Rattle.card_updates.proofs.WriteLaws.{unused-at}
use Rattle.card.proofs.WriteLaws.{in_user, lowest, wrote}
use Rattle.card.proofs.write.Goals as goal

-- the size of the file in blocks
sized : {g f : NewFile} → g ≡ f → {size : ℕ} → length g.content ≡ size * 512 → {n : ℕ} → n ≡ size → blocks_of f ≡ n
sized {g} same whole {n} e =
    let blocks : blocks_of g ≡ n = omega arith in
    rw (← same) blocks

pub put_file-requires-clause-in_directory : goal.put_file-requires-clause-in_directory
put_file-requires-clause-in_directory c =
    let file = sized c.in_ok-file.ensures.file.0 c.in_ok-file.file.whole_blocks c.from-size.ensures in
    (unused-at c.args.card.now _
    (lowest _ _ _ _ _ _ c.in_ok-opened.ensures.verdict c.in_ok-file.ensures.verdict _ c.in_ok-opened.ensures.opened c.in_ok-taken_row.ensures _
    (c.as_slice-blocks.ensures ∙ c.list_free-free.ensures) _ file c.if-blocks-size.false
    c.in_ok-opened.opened.is_open.listed c.lowest_unused-i.ensures)).in_directory

pub put_file-requires-clause-user_blocks : goal.put_file-requires-clause-user_blocks
put_file-requires-clause-user_blocks c =
    let file = sized c.in_ok-file.ensures.file.0 c.in_ok-file.file.whole_blocks c.from-size.ensures in
    in_user _ _ _ _ _ _ c.in_ok-opened.ensures.verdict c.in_ok-file.ensures.verdict _ c.in_ok-opened.ensures.opened c.in_ok-taken_row.ensures _
    (c.as_slice-blocks.ensures ∙ c.list_free-free.ensures) _ file c.if-blocks-size.false

pub returns-clause-card_after : goal.returns-clause-card_after
returns-clause-card_after c =
    let file = sized c.in_ok-file.ensures.file.0 c.in_ok-file.file.whole_blocks c.from-size.ensures in
    let whole = rw c.unwrap-card.ensures at c.as_mut_array.ensures.cases in
    wrote _ _ _ _ _ _ c.in_ok-opened.ensures.verdict c.in_ok-file.ensures.verdict _ c.in_ok-opened.ensures.opened c.in_ok-taken_row.ensures _
    (c.as_slice-blocks.ensures ∙ c.list_free-free.ensures) _ file c.if-blocks-size.false
    (lowest _ _ _ _ _ _ c.in_ok-opened.ensures.verdict c.in_ok-file.ensures.verdict _ c.in_ok-opened.ensures.opened c.in_ok-taken_row.ensures _
    (c.as_slice-blocks.ensures ∙ c.list_free-free.ensures) _ file c.if-blocks-size.false
    c.in_ok-opened.opened.is_open.listed c.lowest_unused-i.ensures)
    (rw (whole.same, c.in_ok-file.ensures.file.0, c.in_ok-file.ensures.file.1) at c.put_file.ensures)
