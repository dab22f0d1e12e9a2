use Rattle.std.proofs.Common.{ap, ◌∙◌}
use Rattle.checksum.specs.Polynomial.{rem}
use Rattle.checksum.proofs.FourLaws.{four-remainder}
use Rattle.checksum.proofs.LittleLaws.{rem-swap-bytes}
use Rattle.checksum.proofs.block.Four.remainder.Goals as goal

pub returns : goal.returns
returns c =
    let f = c.args.self in
    let t = c.fold128-t in
    let v = c.fold128-v in
    let first = ap (rem 64) c.swap_bytes.ensures ∙ rem-swap-bytes v.result.0 in
    let second = ap (rem 64) c.swap_bytes-2.ensures ∙ rem-swap-bytes v.result.1 in
    c.remainder.ensures ∙ four-remainder f.a f.b f.c f.d t.result.0 t.result.1 v.result.0 v.result.1
    c.swap_bytes.result c.swap_bytes-2.result c.fold.result t.ensures v.ensures first c.fold.ensures.shifted second
