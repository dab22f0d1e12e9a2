use Rattle.card_model.specs.Layout.{card_length}
use Rattle.card_check.proofs.RowLaws.{by_30, open_card}
use Rattle.card_check.proofs.open_right_length.Goals as goal

pub invariant_of-directory : goal.invariant_of-directory
unfolding card_length
invariant_of-directory c = record { long = c.told-card; listed = c.list_used-used.ensures }

pub invariant_of-result : goal.invariant_of-result
invariant_of-result c =
    let accepted = by_30 _ c.told-card c.in_ok-table_verdict.ensures c.in_ok-entry_row.ensures c.in_ok-walk_files.ensures.value c.in_ok-name_row.ensures _ c.in_ok-game_row.ensures in
    record { is_open = open_card _ _ _ accepted c.list_used-used.ensures c.in_ok-walk_files.ensures.marked_files }
