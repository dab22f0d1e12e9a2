-- A new file's entry and its blocks: the fields are those given, the blocks are a chain and have the bytes given. Assumes nothing.
use Prim.Native.Nat.{ℕ, suc, ◌+◌, ◌*◌, ◌≤◌, ◌<◌}
use mathlib.Core.Path.{◌≡◌, refl, sym, ap, ◌∙◌}
use mathlib.Core.Bool.{Bool, true, false, ◌||◌, true≢false}
use mathlib.Core.List.{List, [], ◌∷◌, ◌++◌, map}
use mathlib.Core.Logic.{◌≢◌, ◌⊎◌, inl, inr, ⊎_elim}
use native.Mathlib.Omega.{arith}
use lib.ListN.{length, take, drop, replicate, length-append, length-drop, take-append-drop}
use lib.Seq.{take_at, drop_at, drop-drop, get_or-drop, length-take-le}
use borrow.Author.Tests.{eqb-true}
use Rattle.words.specs.Lists.{has, Distinct, concat}
use Rattle.words.specs.Words.{word, word_bytes}
use Rattle.words.proofs.Bools.{or-false-left, or-false-right}
use Rattle.words.proofs.ListLaws.{All}
use Rattle.words.proofs.JoinLaws.{all-has}
use Rattle.card_model.specs.Layout.{card_length, block_at, fat_place, table_of}
use Rattle.card_model.specs.Table.{fat_entry, link_of, link_at}
use Rattle.card_model.specs.Entries.{kind, flag, first_block, name_of, time_of, size, header_offset, is_data, wrong_entry}
use Rattle.card_model.specs.Theorems.{WrongFields, wrong_type, wrong_first_block, no_block, too_many, wrong_header_offset}
use Rattle.card_model.proofs.ChainLaws.{Links, ends, goes}
use Rattle.card_model.proofs.TableLaws.{next_of}
use Rattle.card_model.proofs.TestLaws.{entry-tells}
use Rattle.card_updates.specs.Parts.{with_part}
use Rattle.card_updates.specs.Write.{NewFile, blocks_of, entry_of, new_entry, link_to, with_block, with_blocks}
use Rattle.card_updates.proofs.NamedBytes.{in_part, SameBut, in_blocks}
use Rattle.card_updates.proofs.PartLaws.{same_none, same_then, none_in}
use Rattle.card_updates.proofs.PlaceLaws.{fat-inside, fat-apart, block_apart, apart_out, same-fat, same_block}
use Rattle.card_updates.proofs.PlaceLaws.{put-link, link-named, link-block, block-named, block-put}

-- ---- the entry

pub word-drop : (l : List ℕ) (n i : ℕ) → word l (n + i) ≡ word (drop n l) i
unfolding word
word-drop l n i =
    let e : n + i + 1 ≡ n + (i + 1) = omega arith in
    rw (e, get_or-drop n l i 0, get_or-drop n l (i + 1) 0)

module _ (k : ℕ) (f : NewFile) (offset first : ℕ) (named : length f.name ≡ 12) (timed : length f.time ≡ 8) where
  abbrev entry : List ℕ
  entry = new_entry k f offset first

  abbrev behind : List ℕ
  behind = word_bytes (blocks_of f) ++ (word_bytes offset ++ replicate 4 0)

  from-name : drop 4 entry ≡ f.name ++ (f.time ++ behind)
  unfolding entry_of word_bytes
  from-name = refl

  from-time : drop 16 entry ≡ f.time ++ behind
  unfolding entry_of word_bytes
  from-time = drop_at f.name (f.time ++ behind) 12 named

  from-size : drop 24 entry ≡ behind
  unfolding entry_of word_bytes
  from-size = drop20 ∙ drop_at f.time behind 8 timed
    where
      drop20 : drop 20 (f.name ++ (f.time ++ behind)) ≡ drop 8 (f.time ++ behind)
      drop20 = sym (drop-drop 8 12 (f.name ++ (f.time ++ behind))) ∙ ap (drop 8) (drop_at f.name (f.time ++ behind) 12 named)

  pub new-length : length (new_entry k f offset first) ≡ 32
  unfolding entry_of word_bytes
  new-length =
      let a = length-append f.name (f.time ++ behind) in
      let b = length-append f.time behind in
      omega (arith, a, b)

  pub new-kind : kind (new_entry k f offset first) ≡ k
  unfolding entry_of kind
  new-kind = refl

  pub new-flag : flag (new_entry k f offset first) ≡ f.flag
  unfolding entry_of flag
  new-flag = refl

  pub new-first : first_block (new_entry k f offset first) ≡ first
  unfolding entry_of first_block word word_bytes
  new-first = omega arith

  pub new_name : name_of (new_entry k f offset first) ≡ f.name
  unfolding name_of
  new_name = rw from-name (take_at f.name (f.time ++ behind) 12 named)

  pub new-time : time_of (new_entry k f offset first) ≡ f.time
  unfolding time_of
  new-time = rw from-time (take_at f.time behind 8 timed)

  pub new-size : size (new_entry k f offset first) ≡ blocks_of f
  unfolding size word word_bytes
  new-size = word-drop entry 24 0 ∙ ap (λ (l : List ℕ). word l 0) from-size ∙ omega arith

  pub new-offset : header_offset (new_entry k f offset first) ≡ offset
  unfolding header_offset word word_bytes
  new-offset = word-drop entry 24 2 ∙ ap (λ (l : List ℕ). word l 2) from-size ∙ omega arith

  pub new-reserved : drop 0x1c (new_entry k f offset first) ≡ replicate 4 0
  unfolding word_bytes
  new-reserved = sym (drop-drop 4 24 entry) ∙ ap (drop 4) from-size

-- an entry of right fields
pub right-fields : (entry : List ℕ) → (kind entry ≡ 0x33) ⊎ (kind entry ≡ 0xCC) → first_block entry < 200
    → 1 ≤ size entry → size entry ≤ 200 → (kind entry ≡ 0x33 → header_offset entry < size entry) → wrong_entry entry ≡ false
unfolding is_data
right-fields entry k b l m o = go (wrong_entry entry) refl
  where
    wrong : WrongFields entry → ⊥
    wrong (wrong_type a c) = ⊎_elim a c k
    wrong (wrong_first_block h) = omega arith
    wrong (no_block h) = omega arith
    wrong (too_many h) = omega arith
    wrong (wrong_header_offset d h) = omega (arith, o (eqb-true (kind entry) 0x33 d))

    go : (t : Bool) → wrong_entry entry ≡ t → t ≡ false
    go false e = refl
    go true e = absurd (wrong (entry-tells entry e).1)

-- ---- one block with its bytes and its table entry

-- the bytes that it names
abbrev in_block_or_link : ℕ → ℕ → Bool
in_block_or_link b k = in_part (b * 512) 512 k || in_part (fat_place b) 2 k

module _ (card : List ℕ) (b : ℕ) (bytes : List ℕ) (e : ℕ) (long : length card ≡ card_length) (h : b < 200) (wide : length bytes ≡ 512) where
  first_part : SameBut (in_part (b * 512) 512) card (with_part card (b * 512) bytes)
  first_part = block-named card b bytes wide long h

  first-long : length (with_part card (b * 512) bytes) ≡ card_length
  first-long = first_part.same_length ∙ long

  in_table : b < 256
  in_table = omega arith

  pub with-block-named : SameBut (λ k. in_part (b * 512) 512 k || in_part (fat_place b) 2 k) card (with_block card b bytes e)
  unfolding with_block
  with-block-named =
      same_then (in_part (b * 512) 512) (in_part (fat_place b) 2) (in_block_or_link b) card (with_part card (b * 512) bytes) _ first_part
      (link-named (with_part card (b * 512) bytes) b e first-long in_table)
      (λ k f. (or-false-left (in_part (b * 512) 512 k) _ f, or-false-right (in_part (b * 512) 512 k) _ f))

  pub with-block-link : fat_entry (table_of (with_block card b bytes e)) b ≡ e
  unfolding with_block
  with-block-link = put-link (with_part card (b * 512) bytes) b e first-long in_table

  pub with-block-bytes : block_at (with_block card b bytes e) b ≡ bytes
  unfolding with_block
  with-block-bytes = link-block (with_part card (b * 512) bytes) b e first-long in_table b (λ d. omega arith) ∙ block-put card b bytes wide long h

-- ---- what blocks name

module _ (blocks : List ℕ) (low : All (λ b. b < 200) blocks) where
  -- no byte of a part that lies apart from each of their bytes and table entries
  pub blocks_apart : (c n k : ℕ) → c ≤ k → k < c + n
      → ((b : ℕ) → has b blocks ≡ true → b < 200 → ((b * 512 + 512 ≤ c) ⊎ (c + n ≤ b * 512)) × ((fat_place b + 2 ≤ c) ⊎ (c + n ≤ fat_place b)))
      → in_blocks blocks k ≡ false
  unfolding in_blocks
  blocks_apart c n k l h f = none_in (named_by k) blocks each
    where
      named_by : ℕ → ℕ → Bool
      named_by k b = in_block_or_link b k

      each : (b : ℕ) → has b blocks ≡ true → in_block_or_link b k ≡ false
      each b e =
          let d = f b e (all-has (λ b. b < 200) blocks b low e) in
          rw (apart_out (b * 512) 512 c n k d.0 l h, apart_out (fat_place b) 2 c n k d.1 l h)

  differ : (b c : ℕ) → has b blocks ≡ true → has c blocks ≡ false → b ≢ c
  differ b c e n d = true≢false (sym e ∙ ap (λ (x : ℕ). has x blocks) d ∙ n)

  -- not the table entry of another block
  pub blocks-other-link : (c : ℕ) → c < 256 → has c blocks ≡ false → (k : ℕ) → fat_place c ≤ k → k < fat_place c + 2 → in_blocks blocks k ≡ false
  blocks-other-link c m n k l h =
      blocks_apart (fat_place c) 2 k l h (λ b e q. (inl (omega (arith, fat-inside c m)), fat-apart b c (differ b c e n)))

  -- not the bytes of another user block
  pub blocks-other-bytes : (c : ℕ) → c < 200 → has c blocks ≡ false → (k : ℕ) → c * 512 ≤ k → k < c * 512 + 512 → in_blocks blocks k ≡ false
  blocks-other-bytes c m n k l h =
      blocks_apart (c * 512) 512 k l h (λ b e q. (block_apart b c (differ b c e n), inr (omega (arith, fat-inside b (wide b q)))))
    where
      wide : (b : ℕ) → b < 200 → b < 256
      wide b q = omega arith

  -- neither the directory nor the root
  pub blocks-directory : (k : ℕ) → 241 * 512 ≤ k → k < 254 * 512 → in_blocks blocks k ≡ false
  blocks-directory k l h =
      blocks_apart (241 * 512) (13 * 512) k l (omega arith) (λ b e q. (inl (omega arith), inr (omega (arith, fat-inside b (wide b q)))))
    where
      wide : (b : ℕ) → b < 200 → b < 256
      wide b q = omega arith

  pub blocks-root : (k : ℕ) → 255 * 512 ≤ k → in_blocks blocks k ≡ false
  blocks-root k l =
      blocks_apart (255 * 512) (suc k) k l (omega arith) (λ b e q. (inl (omega arith), inl (omega (arith, fat-inside b (wide b q)))))
    where
      wide : (b : ℕ) → b < 200 → b < 256
      wide b q = omega arith

-- ---- all blocks of the file

-- room for these bytes
pub record HoldsBytes (blocks bytes : List ℕ) : Type 0 where
  pub low : All (λ b. b < 200) blocks
  pub apart : Distinct blocks
  pub wide : length bytes ≡ length blocks * 512

pub holds-part : (b : ℕ) (blocks bytes : List ℕ) → HoldsBytes (b ∷ blocks) bytes → length (take 512 bytes) ≡ 512
holds-part b blocks bytes h = length-take-le 512 bytes (omega (arith, h.wide))

pub holds-rest : (b : ℕ) (blocks bytes : List ℕ) → HoldsBytes (b ∷ blocks) bytes → HoldsBytes blocks (drop 512 bytes)
holds-rest b blocks bytes h = record { low = h.low.1; apart = h.apart.1; wide = length-drop 512 bytes ∙ omega (arith, h.wide) }

pub blocks-named : (blocks card bytes : List ℕ) → length card ≡ card_length → HoldsBytes blocks bytes → SameBut (in_blocks blocks) card (with_blocks card blocks bytes)
unfolding with_blocks in_blocks
blocks-named [] card bytes l h = same_none _ card
blocks-named (b ∷ blocks) card bytes l h =
    let next = with_block card b (take 512 bytes) (link_to blocks) in
    let s = with-block-named card b (take 512 bytes) (link_to blocks) l h.low.0 (holds-part b blocks bytes h) in
    same_then (in_block_or_link b) (in_blocks blocks) (in_blocks (b ∷ blocks)) card next (with_blocks next blocks (drop 512 bytes))
    s (blocks-named blocks next (drop 512 bytes) (s.same_length ∙ l) (holds-rest b blocks bytes h))
    (λ k e. (or-false-left (in_block_or_link b k) _ e, or-false-right (in_block_or_link b k) _ e))

-- the first block, once all are written
module _ (b : ℕ) (blocks card bytes : List ℕ) (l : length card ≡ card_length) (h : HoldsBytes (b ∷ blocks) bytes) where
  abbrev next : List ℕ
  next = with_block card b (take 512 bytes) (link_to blocks)

  next-long : length next ≡ card_length
  next-long = (with-block-named card b (take 512 bytes) (link_to blocks) l h.low.0 (holds-part b blocks bytes h)).same_length ∙ l

  later : SameBut (in_blocks blocks) next (with_blocks next blocks (drop 512 bytes))
  later = blocks-named blocks next (drop 512 bytes) next-long (holds-rest b blocks bytes h)

  head-link : fat_entry (table_of (with_blocks next blocks (drop 512 bytes))) b ≡ link_to blocks
  head-link =
      same-fat (in_blocks blocks) next _ later b (omega (arith, h.low.0)) (blocks-other-link blocks h.low.1 b (omega (arith, h.low.0)) h.apart.0)
      ∙ with-block-link card b (take 512 bytes) (link_to blocks) l h.low.0 (holds-part b blocks bytes h)

  head_bytes : block_at (with_blocks next blocks (drop 512 bytes)) b ≡ take 512 bytes
  head_bytes =
      same_block (in_blocks blocks) next _ later b (blocks-other-bytes blocks h.low.1 b h.low.0 h.apart.0)
      ∙ with-block-bytes card b (take 512 bytes) (link_to blocks) l h.low.0 (holds-part b blocks bytes h)

-- "The new file reads as given"
pub blocks-links : (b : ℕ) (blocks card bytes : List ℕ) → length card ≡ card_length → HoldsBytes (b ∷ blocks) bytes
    → Links (table_of (with_blocks card (b ∷ blocks) bytes)) (suc (length blocks)) b (b ∷ blocks)
unfolding with_blocks link_at link_of
blocks-links b [] card bytes l h = ends (ap link_of (head-link b [] card bytes l h))
blocks-links b (n ∷ blocks) card bytes l h =
    goes (next_of _ n (head-link b (n ∷ blocks) card bytes l h) (omega (arith, head-link b (n ∷ blocks) card bytes l h, h.low.1.0)))
    (blocks-links n blocks (next b (n ∷ blocks) card bytes l h) (drop 512 bytes) (next-long b (n ∷ blocks) card bytes l h) (holds-rest b (n ∷ blocks) bytes h))

pub blocks-bytes : (blocks card bytes : List ℕ) → length card ≡ card_length → HoldsBytes blocks bytes → concat (map (block_at (with_blocks card blocks bytes)) blocks) ≡ bytes
unfolding with_blocks
blocks-bytes [] card bytes l h = sym (empty bytes h.wide)
  where
    empty : (bytes : List ℕ) → length bytes ≡ 0 * 512 → bytes ≡ []
    empty [] e = refl
    empty (x ∷ bytes) e = absurd (omega arith)
blocks-bytes (b ∷ blocks) card bytes l h =
    rw (head_bytes b blocks card bytes l h, blocks-bytes blocks (next b blocks card bytes l h) (drop 512 bytes) (next-long b blocks card bytes l h) (holds-rest b blocks bytes h))
    (take-append-drop 512 bytes)
