use Rattle.std.proofs.Common.{ℕ, ◌≡◌, ◌+◌, ◌*◌, ◌/◌, ◌<◌, sym, ap, ◌∙◌, length, get_or, List, [], arith}
use mathlib.Core.Path.{subst}
use lib.Bits.{xor_lt}
use lib.Dec.{lit<, lit≤}
use Rattle.words.specs.BigEndian.{Big}
use Rattle.words.proofs.ChunkLaws.{big-chunk}
use Rattle.checksum.specs.Crc.{shifts, crc_from}
use Rattle.checksum.specs.Polynomial.{rem}
use Rattle.checksum.proofs.CrcLaws.{crc-fold, start_word}
use Rattle.checksum.proofs.RemainderLaws.{rem-small}
use Rattle.checksum.proofs.of_words.Goals as goal

pub loop-word-init : goal.loop-word-init
loop-word-init c = record { fits = lit< tt; taken = ap (λ (n : ℕ). crc_from n c.args.bytes.now) start_word }

pub loop-word-preserved : goal.loop-word-preserved
loop-word-preserved c =
    let s = c.args.bytes.now in
    let i = c.loop-word.word-index in
    let cut = c.as_chunks.ensures in
    let here : i < length s / 8 = omega arith in
    let next : i * 8 + 8 ≡ (i + 1) * 8 = omega arith in
    let known = big-chunk s _ i here (subst (λ (l : List (List ℕ)). Big 8 (get_or l i []) 0 c.big8.result) cut.front c.big8.ensures) in record {
      fits = xor_lt 64 _ _ c.fold.type_inv c.big8.type_inv;
      taken = sym (rw next at (crc-fold s (i * 8) c.loop-word.a c.fold.result c.big8.result c.fold.ensures.shifted known (omega arith))) ∙ c.loop-word.invariant.taken;
    }

pub returns : goal.returns
returns c =
    let i = c.loop-word.word-index in
    let cut = c.as_chunks.ensures in
    let all : length c.args.bytes.now / 8 ≡ i = omega arith in
    let r = c.remainder.result in
    let wide : c.into.result ≡ r = c.into.ensures in
    let last : c.fold-2.result ≡ shifts 16 r =
    sym (rem-small 16 c.fold-2.result (lit≤ tt) c.fold-2.ensures.fits) ∙ c.fold-2.ensures.shifted
    ∙ ap (shifts 16) (ap (rem 16) wide ∙ rem-small 16 r (lit≤ tt) c.remainder.type_inv) in
    c.take_bytes.ensures ∙ rw (cut.back, all, last, c.remainder.ensures) c.loop-word.invariant.taken
