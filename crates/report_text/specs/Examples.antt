-- The lines of document 01's sample report from its values, a report of no bytes, and numbers of one digit to four, by computation.
-- Assumes nothing.
use Rattle.std.specs.Prelude.{ℕ, ◌≡◌, refl, List, [], ◌∷◌, ◌++◌, map}
use Rattle.words.specs.Lists.{concat}
use Rattle.flash_model.specs.Measures.{sizes, legal_size}
use Rattle.flash_model.specs.Partition.{length_row, refusal}
use Rattle.report_text.specs.Text.{decimal, line, block_word, end_line, partition_for, head_lines, text_for, report_text}

-- "For partition 3, version 1, empty but for block 24 saved twice with different pages, the whole output is these lines". Here
-- they are made of the five values and the one number; that the image has these, the gate shows by running the program on it
-- (crates/report/stdin, stdout).
sample_lines : List (List ℕ)
sample_lines =
    -- partition 3
    (112 ∷ 97 ∷ 114 ∷ 116 ∷ 105 ∷ 116 ∷ 105 ∷ 111 ∷ 110 ∷ 32 ∷ 51 ∷ 10 ∷ [])
    -- version 1
    ∷ (118 ∷ 101 ∷ 114 ∷ 115 ∷ 105 ∷ 111 ∷ 110 ∷ 32 ∷ 49 ∷ 10 ∷ [])
    -- user 510
    ∷ (117 ∷ 115 ∷ 101 ∷ 114 ∷ 32 ∷ 53 ∷ 49 ∷ 48 ∷ 10 ∷ [])
    -- used 2
    ∷ (117 ∷ 115 ∷ 101 ∷ 100 ∷ 32 ∷ 50 ∷ 10 ∷ [])
    -- live 1
    ∷ (108 ∷ 105 ∷ 118 ∷ 101 ∷ 32 ∷ 49 ∷ 10 ∷ [])
    -- block 24
    ∷ (98 ∷ 108 ∷ 111 ∷ 99 ∷ 107 ∷ 32 ∷ 50 ∷ 52 ∷ 10 ∷ [])
    -- end
    ∷ (101 ∷ 110 ∷ 100 ∷ 10 ∷ []) ∷ []

sample-lines : head_lines 3 1 510 2 1 ++ (concat (map (line block_word) (24 ∷ [])) ++ end_line) ≡ concat sample_lines
unfolding sample_lines head_lines line decimal
sample-lines = refl

-- No bytes at all: refused 1.
no-input : report_text [] ≡ 114 ∷ 101 ∷ 102 ∷ 117 ∷ 115 ∷ 101 ∷ 100 ∷ 32 ∷ 49 ∷ 10 ∷ []
unfolding report_text text_for partition_for refusal length_row legal_size sizes line decimal
no-input = refl

-- 0, 9, 10, 99, 100 and 1020
some-numbers : map decimal (0 ∷ 9 ∷ 10 ∷ 99 ∷ 100 ∷ 1020 ∷ [])
    ≡ (48 ∷ []) ∷ (57 ∷ []) ∷ (49 ∷ 48 ∷ []) ∷ (57 ∷ 57 ∷ []) ∷ (49 ∷ 48 ∷ 48 ∷ []) ∷ (49 ∷ 48 ∷ 50 ∷ 48 ∷ []) ∷ []
unfolding decimal
some-numbers = refl
