use Rattle.std.proofs.Common.{◌≡◌, ◌+◌, ◌≤◌, length, take}
use Rattle.card_model.specs.Layout.{table_of}
use Rattle.card_files.proofs.FreeLaws.{FreeTo}
use Rattle.card_files.proofs.free.list_free.Given as goal

abbrev pub invariant-loop-b : goal.invariant-loop-b
invariant-loop-b l =
    record { long : length l.numbers ≡ 200; room : l.count + l.b ≤ 200; passed : FreeTo (table_of l.card) l.b (take l.count l.numbers) }
