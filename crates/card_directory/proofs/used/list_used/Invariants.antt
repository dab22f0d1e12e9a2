-- The list is that of the entries passed.
use Rattle.std.proofs.Common.{◌≡◌, ◌≤◌, length, take}
use Rattle.card_model.specs.Layout.{directory_of}
use Rattle.card_directory.specs.Listed.{Listed}
use Rattle.card_directory.proofs.used.list_used.Given as goal

abbrev pub invariant-loop-i : goal.invariant-loop-i
invariant-loop-i l =
    record {
      long : length l.numbers ≡ 208;
      room : l.count ≤ l.i;
      listed : Listed (directory_of l.card) l.i (take l.count l.numbers) (length (take l.count l.numbers));
    }
