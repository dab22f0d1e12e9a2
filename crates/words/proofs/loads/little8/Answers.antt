use Rattle.std.proofs.Common.{rules, arith}
use Rattle.words.proofs.BigLaws.{lent-byte}
use Rattle.words.proofs.LittleLaws.{little-bytes}
use Rattle.words.proofs.loads.little8.Goals as goal

-- `omega` would do here; `grind` also proves code that comes by the same eight bytes with stores or swaps, so that an edit of them is refused for its bytes
pub returns : goal.returns
returns c =
    let lent = lent-byte c.args.s.now c.args.at _ (rw c.unwrap.ensures at c.as_array.ensures.cases) in
    little-bytes c.args.s.now (search rules) c.args.at (grind (arith, lent))
