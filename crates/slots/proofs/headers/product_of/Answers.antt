use mathlib.Core.Path.{◌≡◌, ◌∙◌}
use lib.ListN.{take, drop}
use Rattle.std.proofs.Common.{rules}
use Rattle.slots.proofs.HeaderLaws.{product_in_first}
use Rattle.slots.proofs.headers.product_of.Goals as goal

pub returns : goal.returns
returns c =
    let part : c.unwrap.result.now ≡ take 10 (drop 2 c.args.first.now) = search rules in
    λ second. part ∙ product_in_first c.args.first.now second c.told-first
