-- The high half of the word is folded onto the low one, twice.
use Rattle.std.proofs.Common.{ℕ, ◌≡◌, ◌<◌, ◌%◌, sym, ap, ◌∙◌, arith}
use mathlib.Core.Path.{ap₂}
use lib.Bits.{bit_xor, xor_lt}
use lib.Dec.{lit≤}
use Rattle.checksum.specs.Polynomial.{rem}
use Rattle.checksum.proofs.RemainderLaws.{rem-small, rem-xor, halves}
use Rattle.checksum.proofs.folding.remainder.Goals as goal

pub returns : goal.returns
returns c =
    let a = c.args.a in
    let lo = a % 4294967296 in
    let first = c.fold in
    let second = c.fold-2 in
    let h = bit_xor first.result lo in
    let hlt : h < 4294967296 = xor_lt 32 first.result lo first.ensures.fits (omega arith) in
    let once : rem 64 a ≡ rem 32 h =
    halves 32 a ∙ ap (λ (x : ℕ). bit_xor x (rem 32 lo)) (sym first.ensures.shifted) ∙ sym (rem-xor 32 first.result lo) in
    let twice : rem 32 h ≡ bit_xor second.result (h % 65536) =
    halves 16 h ∙ ap₂ bit_xor (sym second.ensures.shifted ∙ rem-small 16 second.result (lit≤ tt) second.ensures.fits) (rem-small 16 (h % 65536) (lit≤ tt) (omega arith)) in
    sym (once ∙ twice)
