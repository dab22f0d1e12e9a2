use Rattle.flash_partition.proofs.UsableLaws.{usable-measured}
use native.Mathlib.Omega.{arith}
use Rattle.flash.proofs.report.Goals as goal

-- a sound partition has a header
pub bounds-p-17 : goal.bounds-p-17
bounds-p-17 c =
    let u = c.in_ok-p.p.usable in
    let m = usable-measured u in
    omega (arith, u.has_size, m.whole, m.top_number_lem)
