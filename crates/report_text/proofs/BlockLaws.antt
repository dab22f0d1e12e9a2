-- The block lines from a number on: what next-live answers is the next of them. Assumes nothing.
use Prim.Native.Nat.{ℕ, zero, suc, ◌+◌, ◌-◌, ◌≤◌, ◌<◌}
use mathlib.Core.Path.{◌≡◌, refl, sym, ap, ◌∙◌}
use mathlib.Core.Bool.{Bool, true, false, ◌&&◌}
use mathlib.Core.List.{List, [], ◌∷◌, ◌++◌, map, append_assoc, append-nil}
use Rattle.std.specs.Prelude.{Option, None, Some}
use mathlib.Core.Logic.{◌≢◌}
use native.Mathlib.Omega.{arith}
use lib.ListN.{length, length-append}
use lib.Dec.{leb}
use Rattle.words.specs.Lists.{keep, concat, numbers_from, is_some, to_list}
use Rattle.words.proofs.SearchLaws.{lowest-some}
use Rattle.words.proofs.LoopLaws.{numbers-next, numbers-end}
use Rattle.flash_model.specs.Measures.{capacity, logical_numbers}
use Rattle.flash_model.specs.Partition.{refusal, Sound, contents, lowest_live}
use Rattle.flash_model.specs.Calls.{Call, Answered, code_of, Call.on_whole, WholeCall.next_live}
use Rattle.flash_model.proofs.MeaningLaws.{meanings, next_live_lem, none_live}
use Rattle.flash_model.proofs.SoundLaws.{unrefused-sound}
use Rattle.flash_model.proofs.CallLaws.{answered-code, accepted-values}
use Rattle.flash_model.proofs.MeasureLaws.{measures-of}
use Rattle.std.specs.declared.result.Result.TheVariants.{Ok, Err}
use Rattle.flash_model.specs.declared.FlashError.{FlashError}
use Rattle.flash_model.specs.Errors.{error_number, number_answer}
use Rattle.flash_model.proofs.ErrorLaws.{error-refuses}
use Rattle.report_text.specs.Text.{line, block_word, block_lines}

-- ---- kept numbers of a range

-- those before the first that passes are passed over
keep-next : (p : ℕ → Bool) (e n gap from : ℕ) → from + gap ≡ n → n < e → ((m : ℕ) → from ≤ m → m < n → p m ≡ false) → p n ≡ true
    → keep p (numbers_from from (e - from)) ≡ n ∷ keep p (numbers_from (n + 1) (e - (n + 1)))
keep-next p e n zero from g h before here =
    let same : from ≡ n = omega arith in
    rw (same, numbers-next p n e h, here)
keep-next p e n (suc gap) from g h before here =
    rw (numbers-next p from e (omega arith), before from (omega arith) (omega arith))
    (keep-next p e n gap (from + 1) (omega arith) h (λ m a b. before m (omega arith) b) here)

keep-none : (p : ℕ → Bool) (e left from : ℕ) → e - from ≡ left → ((m : ℕ) → from ≤ m → p m ≡ false) → keep p (numbers_from from (e - from)) ≡ []
keep-none p e zero from g none-passes = rw (numbers-end p from e (omega arith))
keep-none p e (suc left) from g none-passes =
    rw (numbers-next p from e (omega arith), none-passes from (omega arith))
    (keep-none p e left (from + 1) (omega arith) (λ m a. none-passes m (omega arith)))

-- ---- lines

there-some : {A : Type 0} (o : Option A) → o ≢ None → is_some o ≡ true
there-some None n = absurd (n refl)
there-some (Some x) n = refl

abbrev is_live : List ℕ → ℕ → Bool
is_live image n = is_some (contents image n)

unfoldable pub lines_from : List ℕ → ℕ → List ℕ
lines_from image from = concat (map (line block_word) (keep (is_live image) (numbers_from from (capacity (length image) - from))))

pub lines-all : (image : List ℕ) → lines_from image 0 ≡ block_lines image
unfolding lines_from block_lines logical_numbers
lines-all image =
    let e : capacity (length image) - 0 ≡ capacity (length image) = omega arith in
    ap (λ (k : ℕ). concat (map (line block_word) (keep (is_live image) (numbers_from 0 k)))) e

module _ (image : List ℕ) (sound : Sound image) (from : ℕ) where
  pub live-low : (n : ℕ) → lowest_live image from ≡ Some n → (from ≤ n) × (n < capacity (length image))
  unfolding lowest_live
  live-low n e =
      let l = lowest-some (λ m. leb from m && is_live image m) 0 (capacity (length image)) n e in
      (((next_live_lem image from n sound).0 e).not_below, omega (arith, l.high))

  pub lines_next : (n : ℕ) → lowest_live image from ≡ Some n → lines_from image from ≡ line block_word n ++ lines_from image (n + 1)
  unfolding lines_from
  lines_next n e =
      let l = (next_live_lem image from n sound).0 e in
      let within = live-low n e in
      let gap : from + (n - from) ≡ n = omega (arith, within.0) in
      let kept = keep-next (is_live image) (capacity (length image)) n (n - from) from gap within.1
      (λ m a b. ap is_some (l.none_between m a b)) (there-some (contents image n) l.is_live_lem) in
      ap (λ (k : List ℕ). concat (map (line block_word) k)) kept

  pub lines_end : lowest_live image from ≡ None → lines_from image from ≡ []
  unfolding lines_from
  lines_end e =
      ap (λ (k : List ℕ). concat (map (line block_word) k))
      (keep-none (is_live image) (capacity (length image)) (capacity (length image) - from) from refl (λ m a. ap is_some (none_live image from sound e m a)))

-- ---- what next-live answers, and so a turn of the loop that puts the lines behind a text

abbrev asked : ℕ → ℕ → Call
asked partition from = on_whole (next_live partition from)

pub lowest_is : {image : List ℕ} {partition from : ℕ} (n : ℕ) → Answered image (asked partition from) image (number_answer (Ok n) []) → lowest_live image from ≡ Some n
lowest_is {image} {partition} {from} n a = go (lowest_live image from) (accepted-values image (asked partition from) image (number_answer (Ok n) []) a refl)
  where
    go : (o : Option ℕ) → n ∷ [] ≡ to_list o → o ≡ Some n
    go None v = cc
    go (Some m) v = cc

module _ {image : List ℕ} {partition from : ℕ} (passed : refusal image partition ≡ 0) (n : ℕ) (a : Answered image (asked partition from) image (number_answer (Ok n) [])) where
  pub number_low : (from ≤ n) × ((n < capacity (length image)) × (n < 65535))
  number_low =
      let sound = unrefused-sound image partition passed in
      let l = live-low image sound from n (lowest_is n a) in
      let m = measures-of (length image) ((meanings.sound_means image).0 sound).legal_size_lem in
      (l.0, (l.1, omega (arith, l.1, m.two_bytes)))

  module _ (text whole : List ℕ) (put : text ++ lines_from image from ≡ whole) where
    pub line_put : (text ++ line block_word n) ++ lines_from image (n + 1) ≡ whole
    line_put =
        append_assoc text (line block_word n) (lines_from image (n + 1))
        ∙ rw (← (lines_next image (unrefused-sound image partition passed) from n (lowest_is n a))) put

    pub line_fits : length text + length (line block_word n) ≤ length whole
    line_fits = omega (arith, simp length-append at (ap length line_put))

module _ {image : List ℕ} {partition from : ℕ} (passed : refusal image partition ≡ 0) (e : FlashError) (a : Answered image (asked partition from) image (number_answer (Err e) [])) where
  pub no_number : lowest_live image from ≡ None
  unfolding code_of
  no_number = go (lowest_live image from) refl
    where
      code : error_number e ≡ code_of image (asked partition from)
      code = answered-code image (asked partition from) image (number_answer (Err e) []) a

      go : (o : Option ℕ) → lowest_live image from ≡ o → o ≡ None
      go None q = refl
      go (Some m) q = let z : error_number e ≡ 0 = code ∙ rw (passed, q) in let f = error-refuses e in absurd (cc)

  pub all_put : (text whole : List ℕ) → text ++ lines_from image from ≡ whole → text ≡ whole
  all_put text whole put = sym (append-nil text) ∙ rw (← (lines_end image (unrefused-sound image partition passed) from no_number)) put
