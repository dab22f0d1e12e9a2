use Rattle.std.proofs.Common.{ℕ, ◌≡◌, ◌<◌, ◌+◌, ◌-◌, ◌*◌, ◌/◌, List, [], sym, ap, ◌∙◌, length, get_or, take, drop, arith}
use mathlib.Core.Path.{subst}
use Rattle.std.proofs.lemmas.List.{get_or-take, get_or-drop, length-take, length-drop}
use Rattle.std.specs.Simd.{first_chunks}
use Rattle.words.specs.LittleEndian.{Little}
use Rattle.words.proofs.ChunkLaws.{little-chunk}
use Rattle.checksum.specs.Crc.{shifts, crc_from}
use Rattle.checksum.proofs.CrcLaws.{crc-taken, crc-taken-last}
use Rattle.checksum.proofs.FourLaws.{four-lt, four-first, four-cleared}
use Rattle.checksum.proofs.runs.of_run.Goals as goal

pub loop-word-init : goal.loop-word-init
loop-word-init c =
    let s = c.args.bytes.now in
    let first = c.load-first.result in
    let loaded = c.load-first.ensures in
    four-first s first.a first.b first.c first.d loaded.a loaded.b loaded.c loaded.d (omega (arith, c.requires.0))
    ∙ ap (λ (x : ℕ). crc_from (shifts 16 x) (drop 32 s)) (four-cleared first.a first.b first.c first.d)

pub loop-word-preserved : goal.loop-word-preserved
loop-word-preserved c =
    let s = c.args.bytes.now in
    let words = c.as_chunks.result.0.now in
    let cut = c.as_chunks.ensures in
    let i = c.loop-word.word-index in
    let inside : i < length words - 4 = omega (arith, c.loop-word-test.true, length-take {A = List ℕ}, length-drop {A = List ℕ}) in
    let word : get_or (take (length words - 4) (drop 4 words)) i [] ≡ get_or (first_chunks 8 (length s / 8) s) (4 + i) [] =
    get_or-take (length words - 4) (drop 4 words) i [] inside ∙ get_or-drop 4 words i [] ∙ ap (λ (l : List (List ℕ)). get_or l (4 + i) []) cut.front in
    let known = little-chunk s (length s / 8) (4 + i) (omega (arith, cut.front_len)) (subst (λ (l : List ℕ). Little 8 l 0 c.little8.result) word c.little8.ensures) in
    c.loop-word.invariant
    ∙ crc-taken 8 _ _ ((4 + (i + 1)) * 8) (four-lt _ _ _ _) c.take_word-f.ensures known (omega (arith, cut.front_len)) (omega arith)

pub returns : goal.returns
returns c =
    let s = c.args.bytes.now in
    let i = c.loop-word.word-index in
    let cut = c.as_chunks.ensures in
    let end : length s ≡ (4 + i) * 8 + 6 = omega (arith, c.requires.0, c.requires.1, cut.front_len, c.loop-word.auto.word-index-end, c.loop-word-test.false, length-take {A = List ℕ}, length-drop {A = List ℕ}) in
    let at : length s - 8 + 2 ≡ (4 + i) * 8 = omega arith in
    let known = subst (λ (i : ℕ). Little 6 s i c.little6_of8.result) at c.little6_of8.ensures in
    sym (c.loop-word.invariant ∙ crc-taken-last _ _ (four-lt _ _ _ _) (c.remainder.ensures ∙ c.take_word.ensures) known end)
