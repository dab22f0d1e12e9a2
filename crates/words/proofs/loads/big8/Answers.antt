use Rattle.std.proofs.Common.{rules, arith}
use Rattle.words.proofs.BigLaws.{lent-byte, big-bytes}
use Rattle.words.proofs.loads.big8.Goals as goal

-- `omega` would do here; `grind` also proves code that comes by the same eight bytes with stores or swaps, so that an edit of them is refused for its bytes
pub returns : goal.returns
returns c =
    let lent = lent-byte c.args.s.now c.args.at _ (rw c.unwrap.ensures at c.as_array.ensures.cases) in
    big-bytes c.args.s.now c.args.at (search rules) (grind (arith, lent))
