use mathlib.Core.Path.{sym, ◌∙◌}
use Rattle.card_model.specs.Layout.{directory_of}
use Rattle.card.proofs.AnswerLaws.{used_below}
use Rattle.card.proofs.list.Goals as goal

pub entry_at-requires : goal.entry_at-requires
entry_at-requires c =
    used_below (directory_of c.in_ok-opened.opened.card.now) _ _
    (sym (c.first_used.ensures (directory_of c.in_ok-opened.opened.card.now) c.in_ok-opened.opened.is_open.listed) ∙ c.in_ok-i.ensures.ok_part)
