use mathlib.Core.Path.{sym}
use native.Mathlib.Omega.{arith}
use Rattle.flash_bitmap.proofs.LeadingLaws.{lowest-in-byte-at, none-before-end}
use Rattle.flash_bitmap.proofs.lowest_in_byte.Goals as goal

pub returns-then-end-first : goal.returns-then-end-first
returns-then-end-first c = sym (none-before-end c.highest_one-place.ensures c.args.first c.args.end (omega (arith, c.if-end-first.true, c.requires.1)))

pub returns : goal.returns
returns c = sym (lowest-in-byte-at c.highest_one-place.ensures c.args.first c.args.end (omega (arith, c.if-end-first.false, c.requires.1)))
