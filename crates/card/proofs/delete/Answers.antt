use mathlib.Core.Path.{sym, ◌∙◌}
use Rattle.card.proofs.ReadLaws.{named_used}
use Rattle.card.proofs.DeleteLaws.{delete_done, without_is}
use Rattle.card.proofs.delete.Goals as goal

pub remove_file-requires : goal.remove_file-requires
remove_file-requires c =
    let whole = rw c.unwrap-card.ensures at c.as_mut_array.ensures.cases in
    rw (whole.same, ← c.in_ok-opened.ensures.opened)
    (c.in_ok-opened.opened.is_open.rows, named_used _ c.args.name.now _ (sym c.named.ensures ∙ c.in_ok-i.ensures.ok_part))

pub returns-clause-value : goal.returns-clause-value
returns-clause-value c =
    delete_done _ _ c.in_ok-opened.ensures.verdict c.if-name-ne12.false _ c.in_ok-opened.ensures.opened _ (sym c.named.ensures ∙ c.in_ok-i.ensures.ok_part)

pub returns-clause-card_after : goal.returns-clause-card_after
returns-clause-card_after c =
    let whole = rw c.unwrap-card.ensures at c.as_mut_array.ensures.cases in
    without_is _ _ c.in_ok-opened.ensures.verdict c.if-name-ne12.false _ c.in_ok-opened.ensures.opened _ (sym c.named.ensures ∙ c.in_ok-i.ensures.ok_part)
    (rw (whole.same, ← c.in_ok-opened.ensures.opened) at c.remove_file.ensures)
