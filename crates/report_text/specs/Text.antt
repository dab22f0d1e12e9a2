-- What the report program prints: document 01, "Samples from the bench", last paragraph. Text is a list of ASCII codes.
-- Assumes nothing.
use Rattle.std.specs.Prelude.{ℕ, zero, suc, ◌+◌, ◌/◌, ◌%◌, cond, List, [], ◌∷◌, ◌++◌, map, eqb, ltb, length}
use Rattle.words.specs.Lists.{keep, concat, is_some}
use Rattle.flash_model.specs.Measures.{capacity, logical_numbers}
use Rattle.flash_model.specs.Partition.{refusal, version, contents, live, used}

-- ---- numbers and lines

abbrev pub digit : ℕ → ℕ
digit d = 48 + d

-- The decimal digits of n, none of them a 0 in front; `most` bounds how many follow the first, and n itself is enough.
abbrev pub digits_in : ℕ → ℕ → List ℕ
digits_in zero n = digit n ∷ []
digits_in (suc most) n = cond (ltb n 10) (digit n ∷ []) (digits_in most (n / 10) ++ digit (n % 10) ∷ [])

unfoldable pub decimal : ℕ → List ℕ
decimal n = digits_in n n

-- A word, a blank, a number and the line's end.
unfoldable pub line : List ℕ → ℕ → List ℕ
line label n = label ++ (32 ∷ (decimal n ++ 10 ∷ []))

-- ---- words of the output: refused, partition, version, user, used, live, block, and the line `end`. Examples.antt has them in the
-- paper's own report.

abbrev pub refused_word : List ℕ
refused_word = 114 ∷ 101 ∷ 102 ∷ 117 ∷ 115 ∷ 101 ∷ 100 ∷ []

abbrev pub partition_word : List ℕ
partition_word = 112 ∷ 97 ∷ 114 ∷ 116 ∷ 105 ∷ 116 ∷ 105 ∷ 111 ∷ 110 ∷ []

abbrev pub version_word : List ℕ
version_word = 118 ∷ 101 ∷ 114 ∷ 115 ∷ 105 ∷ 111 ∷ 110 ∷ []

abbrev pub user_word : List ℕ
user_word = 117 ∷ 115 ∷ 101 ∷ 114 ∷ []

abbrev pub used_word : List ℕ
used_word = 117 ∷ 115 ∷ 101 ∷ 100 ∷ []

abbrev pub live_word : List ℕ
live_word = 108 ∷ 105 ∷ 118 ∷ 101 ∷ []

abbrev pub block_word : List ℕ
block_word = 98 ∷ 108 ∷ 111 ∷ 99 ∷ 107 ∷ []

abbrev pub end_line : List ℕ
end_line = 101 ∷ 110 ∷ 100 ∷ 10 ∷ []

-- ---- the report

-- "names partition 2, 3 or 4 by the three lengths in order"; any other length is refused whatever is named.
unfoldable pub partition_for : ℕ → ℕ
partition_for size = cond (eqb size 16384) 2 (cond (eqb size 32768) 3 4)

-- "one block line for each live number, rising"
unfoldable pub block_lines : List ℕ → List ℕ
block_lines image = concat (map (line block_word) (keep (λ n. is_some (contents image n)) (logical_numbers (length image))))

-- The lines before them: the partition, and what a report gives, which is version, capacity, used and live.
unfoldable pub head_lines : ℕ → ℕ → ℕ → ℕ → ℕ → List ℕ
head_lines partition edition blocks allocated found =
    line partition_word partition
    ++ (line version_word edition
    ++ (line user_word blocks
    ++ (line used_word allocated
    ++ line live_word found)))

-- "prints `refused N` alone or a report"
unfoldable pub text_for : List ℕ → ℕ → List ℕ
text_for image partition =
    cond (eqb (refusal image partition) 0)
    (head_lines partition (version image) (capacity (length image)) (used image) (live image) ++ (block_lines image ++ end_line))
    (line refused_word (refusal image partition))

unfoldable pub report_text : List ℕ → List ℕ
report_text image = text_for image (partition_for (length image))
