-- One call against the page store. Assumes nothing.
use Prim.Native.Nat.{ℕ, zero, suc, ◌≤◌, ◌<◌}
use mathlib.Core.Path.{◌≡◌, refl, sym, ap, ◌∙◌}
use mathlib.Core.Bool.{Bool, true, false, not, cond, ◌&&◌, ◌||◌, true≢false}
use mathlib.Core.List.{List, [], ◌∷◌, ◌++◌}
use Rattle.std.specs.Prelude.{Option, None, Some}
use mathlib.Core.Logic.Dec
use mathlib.Core.Logic.{◌≢◌, ite, if_pos, if_neg}
use native.Mathlib.Omega.{arith}
use native.Mathlib.Decide.{ℕ_discrete, dec_lt}
use lib.Dec.{eqb, ltb, eqb-suc-zero}
use lib.ListN.{length}
use borrow.Author.Tests.{eqb-true, eqb-false, eq-eqb, ne_eqb, lt-ltb, le-ltb, le-leb}
use Rattle.words.specs.Lists.{is_some, to_list}
use Rattle.words.proofs.Bools.{and-true-left, and-true-right}
use Rattle.flash_model.specs.Measures.{top_number, legal_number}
use Rattle.flash_model.specs.Partition.{row, first, refusal, header_number, Sound, contents}
use Rattle.flash_model.specs.Update.{saved}
use Rattle.flash_model.specs.Slots.{slot_number, data_number, slot_size, slot_partition, joined, slot_header, right_header, is_right, valid_slot, slot_refusal, no_slot, no_block}
use Rattle.flash_model.specs.Calls.{PageCall, WholeCall, Call, Reply, differs, changed_since, wrong_lengths, read_rows, save_rows, slot_read_rows, slot_save_rows, code_of, accepted, page_image, after_page, after_pages, calls_made, changed_image, reply_to, after}
use Rattle.flash_model.specs.Calls.{PageCall.read, PageCall.save, PageCall.slot_read, PageCall.slot_save, WholeCall.check, WholeCall.report, WholeCall.next_live, WholeCall.erase, WholeCall.slot_find, WholeCall.slot_list, Call.on_page, Call.on_whole, Call.on_pages}
use Rattle.flash_model.specs.PageStore.{PageMap, given, expected_page, both_pages, RightBytes, dec_right, kept_header, slot_front_given, slot_given, same_page, store_code, read_buffer, store_reply, pages_after, store_after}
use Rattle.flash_model.specs.Runs.{owns_header, names_data, on_owned}
use Rattle.flash_model.specs.Demands.{Keeps}
use Rattle.flash_model.proofs.MeasureLaws.{le-legal, above-illegal}
use Rattle.flash_model.proofs.RefusalLaws.{tested-refusal}
use Rattle.flash_model.proofs.SoundLaws.{tests-of, header-number, keeps-refl}
use Rattle.flash_model.proofs.SlotLaws.{right-bytes, bytes-right, slot-refused}
use Rattle.flash_model.proofs.SaveLaws.{erased-keeps, erased-contents, saved-keeps, saved-contents}
use Rattle.flash_model.proofs.CallLaws.{same_seen, seen_same}
use Rattle.flash_model.proofs.MeaningLaws.{contents-length}
use Rattle.flash_model.proofs.CodeLaws.{read-rows, AcceptedSave, save-rows, slot-read-rows, slot-save-rows}

-- ---- a row's test and a fact that is decided

not_equal : (a b : ℕ) → (b ≢ a) → not (eqb a b) ≡ true
not_equal a b n = rw (ne_eqb a b (λ e. n (sym e)))

equal-not : (a b : ℕ) → ((b ≢ a) → ⊥) → not (eqb a b) ≡ false
equal-not a b n = go (eqb a b) refl
  where
    go : (t : Bool) → eqb a b ≡ t → not t ≡ false
    go true e = refl
    go false e = absurd (n (λ d. eqb-false a b e (sym d)))

-- where they agree, and so do the later ones
same_row : {P : Type 0} (fact : Dec P) (t : Bool) (refused a b : ℕ) → (P → t ≡ true) → ((P → ⊥) → t ≡ false) → a ≡ b → row refused t a ≡ given fact refused b
same_row (yes p) t refused a b f g e = rw (f p)
same_row (no n) t refused a b f g e = rw (g n) e

-- the same, where the later ones need agree only past this one
same-row-past : {P : Type 0} (fact : Dec P) (t : Bool) (refused a b : ℕ) → (P → t ≡ true) → ((P → ⊥) → t ≡ false) → ((P → ⊥) → a ≡ b) → row refused t a ≡ given fact refused b
same-row-past (yes p) t refused a b f g e = rw (f p)
same-row-past (no n) t refused a b f g e = rw (g n) (e n)

-- two numbers that should be equal
differ-row : (x y refused a b : ℕ) → a ≡ b → row refused (not (eqb x y)) a ≡ given (Dec.not (ℕ_discrete x y)) refused b
differ-row x y refused a b e = same_row (Dec.not (ℕ_discrete x y)) (not (eqb x y)) refused a b (λ n. rw (ne_eqb x y n)) (λ n. equal-not x y (λ d. n (λ q. d (sym q)))) e

-- a number that should not be above
above-row : (x y refused a b : ℕ) → ((y ≤ x) → a ≡ b) → row refused (ltb x y) a ≡ given (dec_lt x y) refused b
above-row x y refused a b e = same-row-past (dec_lt x y) (ltb x y) refused a b (λ h. lt-ltb x y h) (λ d. le-ltb x y (omega (arith, d))) (λ d. e (omega (arith, d)))

row-or : (refused later : ℕ) (a b : Bool) → row refused (a || b) later ≡ row refused a (row refused b later)
row-or refused later true b = refl
row-or refused later false b = refl

first_row : (t : Bool) (later : ℕ) → first (row 3 t 0) later ≡ row 3 t later
first_row true later = refl
first_row false later = refl

first_rows : (a b c : Bool) (later : ℕ) → first (row 1 a (row 3 b (row 3 c 0))) later ≡ row 1 a (row 3 b (row 3 c later))
first_rows true b c later = refl
first_rows false true c later = refl
first_rows false false true later = refl
first_rows false false false later = refl

-- the lengths of a save's buffers
lengths-row : (expected page : List ℕ) (a b : ℕ) → a ≡ b → row 8 (wrong_lengths expected page) a
    ≡ given (Dec.not (ℕ_discrete (length page) 60)) 8
    (given (Dec.and (Dec.not (ℕ_discrete (length expected) 0)) (Dec.not (ℕ_discrete (length expected) 60))) 8 b)
unfolding wrong_lengths
lengths-row expected page a b e =
    row-or 8 _ (not (eqb (length page) 60)) (not (eqb (length expected) 0 || eqb (length expected) 60))
    ∙ differ-row (length page) 60 8 _ _ (same_row both-lengths (not (eqb (length expected) 0 || eqb (length expected) 60)) 8 a b neither one_of e)
  where
    both-lengths : Dec ((length expected ≢ 0) × (length expected ≢ 60))
    both-lengths = Dec.and (Dec.not (ℕ_discrete (length expected) 0)) (Dec.not (ℕ_discrete (length expected) 60))

    neither : (length expected ≢ 0) × (length expected ≢ 60) → not (eqb (length expected) 0 || eqb (length expected) 60) ≡ true
    neither d = rw (ne_eqb (length expected) 0 d.0, ne_eqb (length expected) 60 d.1)

    one_of : ((length expected ≢ 0) × (length expected ≢ 60) → ⊥) → not (eqb (length expected) 0 || eqb (length expected) 60) ≡ false
    one_of d = go (eqb (length expected) 0) refl (eqb (length expected) 60) refl
      where
        go : (t : Bool) → eqb (length expected) 0 ≡ t → (u : Bool) → eqb (length expected) 60 ≡ u → not (t || u) ≡ false
        go true e u f = refl
        go false e true f = refl
        go false e false f = absurd (d (eqb-false (length expected) 0 e, eqb-false (length expected) 60 f))

-- a fact that can't be refuted, where it is decided
is-so : {P : Type 0} → Dec P → ((P → ⊥) → ⊥) → P
is-so (yes p) d = p
is-so (no n) d = absurd (d n)

-- ---- slots

-- a slot's header by its tests and by plain facts
right-true : (a b : Option (List ℕ)) → RightBytes (both_pages a b) → is_right (joined a b) ≡ true
right-true None b r = absurd (omega (arith, r.0))
right-true (Some a) None r = absurd (omega (arith, r.0))
right-true (Some a) (Some b) r = bytes-right (a ++ b) r

right-false : (a b : Option (List ℕ)) → (RightBytes (both_pages a b) → ⊥) → is_right (joined a b) ≡ false
right-false None b d = refl
right-false (Some a) None d = refl
right-false (Some a) (Some b) d = go (right_header (a ++ b)) refl
  where
    go : (t : Bool) → right_header (a ++ b) ≡ t → t ≡ false
    go false e = refl
    go true e = absurd (d (right-bytes (a ++ b) e))

-- what an owned slot call tells
record OwnedSlot (owned : ℕ → Bool) (slot block : ℕ) : Type 0 where
  first_header : owned (slot_number slot 0) ≡ true
  second_header : owned (slot_number slot 1) ≡ true
  data_block : slot ≤ 99 → block ≤ 1 → owned (data_number slot block) ≡ true

pub names-data : (slot block : ℕ) → slot ≤ 99 → block ≤ 1 → names_data slot block ≡ true
names-data slot block a b = rw (le-leb slot 99 a, le-leb block 1 b)

owned-slot : (owned : ℕ → Bool) (slot block : ℕ) → (owns_header owned slot && (not (names_data slot block) || owned (data_number slot block))) ≡ true → OwnedSlot owned slot block
owned-slot owned slot block e =
    let h = and-true-left (owns_header owned slot) _ e in
    let d = and-true-right (owns_header owned slot) _ e in
    record {
      first_header = and-true-left (owned (slot_number slot 0)) _ h;
      second_header = and-true-right (owned (slot_number slot 0)) _ h;
      data_block = λ a b. ap (λ (t : Bool). not t || owned (data_number slot block)) (sym (names-data slot block a b)) ∙ d;
    }

-- ---- replies

pub same-reply : {a b : Reply} → a.code ≡ b.code → a.values ≡ b.values → a.buffers ≡ b.buffers → a ≡ b
same-reply p q r = λ i. record { code = p i; values = q i; buffers = r i }

same-buffers : (l : List (List ℕ)) (t : Bool) → cond t l l ≡ l
same-buffers l true = refl
same-buffers l false = refl

no-values : (t : Bool) → cond {A = List ℕ} t [] [] ≡ []
no-values true = refl
no-values false = refl

module _ (size header : ℕ) (owned : ℕ → Bool) where
  -- the image and the store agree on the owned numbers
  pub record Agree (image : List ℕ) (pages : PageMap) : Type 0 where
    pub is_sound : Sound image
    pub length_is : length image ≡ size
    pub number_is : header_number image ≡ header
    pub same_pages : (n : ℕ) → owned n ≡ true → contents image n ≡ pages n

  module _ (image : List ℕ) (pages : PageMap) (agree : Agree image pages) where
    -- rows 1 to 5 come down to 3, and 6 tests the same number
    front-rows : (partition n later : ℕ) → first (refusal image partition) (row 6 (not (legal_number (length image) n)) later)
        ≡ row 3 (not (eqb header partition)) (row 6 (not (legal_number size n)) later)
    front-rows partition n later =
        ap (λ (r : ℕ). first r (row 6 (not (legal_number (length image) n)) later)) (tested-refusal image (tests-of image agree.is_sound) partition)
        ∙ first_row (not (eqb (header_number image) partition)) (row 6 (not (legal_number (length image) n)) later)
        ∙ rw (agree.length_is, agree.number_is)

    front_same : (partition n a b : ℕ) → a ≡ b
        → row 3 (not (eqb header partition)) (row 6 (not (legal_number size n)) a)
        ≡ given (Dec.not (ℕ_discrete partition header)) 3 (given (dec_lt (top_number size) n) 6 b)
    front_same partition n a b e =
        same_row (Dec.not (ℕ_discrete partition header)) (not (eqb header partition)) 3 _ _ (not_equal header partition) (equal-not header partition)
        (same_row (dec_lt (top_number size) n) (not (legal_number size n)) 6 a b (λ h. rw (above-illegal size n h)) (λ h. legal-again (legal_number size n) refl h) e)
      where
        legal-again : (t : Bool) → legal_number size n ≡ t → (top_number size < n → ⊥) → not t ≡ false
        legal-again true q h = refl
        legal-again false q h = absurd (true≢false (sym (le-legal size n (omega (arith, h))) ∙ q))

    -- the last row of a read and of a save, of a number whose page is the same
    read-last : (n : ℕ) → contents image n ≡ pages n → row 7 (not (is_some (contents image n))) 0 ≡ given (same_page (pages n) None) 7 0
    read-last n q = rw q (same_row (same_page (pages n) None) (not (is_some (pages n))) 7 0 0 (λ e. rw e) (λ d. there (pages n) d) refl)
      where
        there : (o : Option (List ℕ)) → (o ≡ None → ⊥) → not (is_some o) ≡ false
        there None d = absurd (d refl)
        there (Some page) d = refl

    save-last : (n : ℕ) (expected : List ℕ) → contents image n ≡ pages n
        → row 9 (changed_since image n expected) 0 ≡ given (Dec.not (same_page (expected_page expected) (pages n))) 9 0
    unfolding changed_since
    save-last n expected q = rw q (same_row (Dec.not (same_page (expected_page expected) (pages n))) (differs (pages n) expected) 9 0 0 changed unchanged refl)
      where
        long : (page : List ℕ) → pages n ≡ Some page → length page ≡ 60
        long page e = contents-length image agree.is_sound n page (q ∙ e)

        changed : (expected_page expected ≢ pages n) → differs (pages n) expected ≡ true
        changed d = go (differs (pages n) expected) refl
          where
            go : (t : Bool) → differs (pages n) expected ≡ t → t ≡ true
            go true e = refl
            go false e = absurd (d (same_seen (pages n) long expected e))

        unchanged : ((expected_page expected ≢ pages n) → ⊥) → differs (pages n) expected ≡ false
        unchanged d = go (same_page (expected_page expected) (pages n))
          where
            go : Dec (expected_page expected ≡ pages n) → differs (pages n) expected ≡ false
            go (yes e) = seen_same (pages n) long expected e
            go (no n) = absurd (d n)

    -- 1 to 5 of a slot call come down to its length and number
    slot-front : (partition a b : ℕ) → a ≡ b → first (slot_refusal image partition) a ≡ slot_front_given size header partition b
    unfolding slot_size slot_partition
    slot-front partition a b e =
        ap (λ (r : ℕ). first r a) (slot-refused image partition agree.is_sound)
        ∙ first_rows (not (eqb (length image) 32768)) (not (eqb partition 3)) (not (eqb (header_number image) partition)) a
        ∙ rw (agree.length_is, agree.number_is) (differ-row size 32768 1 _ _ (differ-row partition 3 3 _ _
        (same_row (Dec.not (ℕ_discrete partition header)) (not (eqb header partition)) 3 a b (not_equal header partition) (equal-not header partition) e)))

    -- 42 and 43 look at the header's pages and at the numbers named
    slot-rest : (slot block a b : ℕ) → owned (slot_number slot 0) ≡ true → owned (slot_number slot 1) ≡ true → (slot ≤ 99 → block ≤ 1 → a ≡ b)
        → row 42 (no_slot image slot) (row 43 (no_block block) a) ≡ slot_given pages slot block b
    unfolding no_slot no_block valid_slot slot_header
    slot-rest slot block a b o0 o1 e =
        row-or 42 _ (ltb 99 slot) (not (is_right (joined (contents image (slot_number slot 0)) (contents image (slot_number slot 1)))))
        ∙ above-row 99 slot 42 _ _ (λ h. rw (agree.same_pages (slot_number slot 0) o0, agree.same_pages (slot_number slot 1) o1) (
        same_row (Dec.not (dec_right (kept_header pages slot))) (not (is_right (joined (pages (slot_number slot 0)) (pages (slot_number slot 1))))) 42 _ _
        (λ d. rw (right-false (pages (slot_number slot 0)) (pages (slot_number slot 1)) d))
        (λ d. rw (right-true (pages (slot_number slot 0)) (pages (slot_number slot 1)) (is-so (dec_right (kept_header pages slot)) d)))
        (above-row 1 block 43 a b (λ k. e h k))))

    -- ---- the number

    code-agrees : (p : PageCall) → on_owned owned p ≡ true → code_of image (on_page p) ≡ store_code size header pages p
    unfolding code_of read_rows save_rows slot_read_rows slot_save_rows store_code
    code-agrees (read partition n buffer) o =
        front-rows partition n _
        ∙ front_same partition n _ _ (differ-row (length buffer) 60 8 _ _ (read-last n (agree.same_pages n o)))
    code-agrees (save partition n expected page) o =
        front-rows partition n _
        ∙ front_same partition n _ _ (lengths-row expected page _ _ (save-last n expected (agree.same_pages n o)))
    code-agrees (slot_read partition slot block buffer) o =
        let w = owned-slot owned slot block o in
        slot-front partition _ _ (differ-row (length buffer) 60 8 _ _ (slot-rest slot block _ _ w.first_header w.second_header
        (λ a b. read-last (data_number slot block) (agree.same_pages (data_number slot block) (w.data_block a b)))))
    code-agrees (slot_save partition slot block expected page) o =
        let w = owned-slot owned slot block o in
        slot-front partition _ _ (lengths-row expected page _ _ (slot-rest slot block _ _ w.first_header w.second_header
        (λ a b. save-last (data_number slot block) expected (agree.same_pages (data_number slot block) (w.data_block a b)))))

    -- ---- the reply

    -- of a read of number n, where its page is the same
    read-agrees : (answered n : ℕ) (buffer : List ℕ) → (answered ≡ 0 → (contents image n ≡ pages n) × (contents image n ≢ None))
        → cond (eqb answered 0) (to_list (contents image n)) (buffer ∷ []) ≡ read_buffer answered (pages n) buffer ∷ []
    read-agrees zero n buffer h = rw (h refl).0 (go (pages n) (λ e. (h refl).1 ((h refl).0 ∙ e)))
      where
        go : (o : Option (List ℕ)) → o ≢ None → to_list o ≡ read_buffer zero o buffer ∷ []
        go None t = absurd (t refl)
        go (Some page) t = refl
    read-agrees (suc refused) n buffer h = rw (eqb-suc-zero refused)

    pub reply-agrees : (p : PageCall) → on_owned owned p ≡ true → reply_to image (on_page p) ≡ store_reply size header pages p
    unfolding reply_to store_reply accepted
    reply-agrees (read partition n buffer) o =
        let c = code-agrees (read partition n buffer) o in
        same-reply c (no-values (eqb (code_of image (on_page (read partition n buffer))) 0))
        (ap (λ (z : ℕ). cond (eqb z 0) (to_list (contents image n)) (buffer ∷ [])) c
        ∙ read-agrees (store_code size header pages (read partition n buffer)) n buffer
        (λ e. (agree.same_pages n o, (read-rows image partition n buffer (c ∙ e)).there)))
    reply-agrees (save partition n expected page) o =
        same-reply (code-agrees (save partition n expected page) o) (no-values (eqb (code_of image (on_page (save partition n expected page))) 0))
        (same-buffers (expected ∷ page ∷ []) (eqb (code_of image (on_page (save partition n expected page))) 0))
    reply-agrees (slot_read partition slot block buffer) o =
        let n = data_number slot block in
        let c = code-agrees (slot_read partition slot block buffer) o in
        same-reply c (no-values (eqb (code_of image (on_page (slot_read partition slot block buffer))) 0))
        (ap (λ (z : ℕ). cond (eqb z 0) (to_list (contents image n)) (buffer ∷ [])) c
        ∙ read-agrees (store_code size header pages (slot_read partition slot block buffer)) n buffer
        (λ e. let r = slot-read-rows image partition slot block buffer (c ∙ e) in
        (agree.same_pages n ((owned-slot owned slot block o).data_block r.0.is_there.slot_most r.0.block_0_1), r.1.there)))
    reply-agrees (slot_save partition slot block expected page) o =
        same-reply (code-agrees (slot_save partition slot block expected page) o) (no-values (eqb (code_of image (on_page (slot_save partition slot block expected page))) 0))
        (same-buffers (expected ∷ page ∷ []) (eqb (code_of image (on_page (slot_save partition slot block expected page))) 0))

-- ---- what every call keeps

-- A save of an owned number, whether it is accepted or not.
abbrev pub saves_owned : (ℕ → Bool) → PageCall → Bool
saves_owned owned (read partition n buffer) = false
saves_owned owned (save partition n expected page) = owned n
saves_owned owned (slot_read partition slot block buffer) = false
saves_owned owned (slot_save partition slot block expected page) = names_data slot block && owned (data_number slot block)

pub after-done : (image : List ℕ) (c : Call) → code_of image c ≡ 0 → after image c ≡ changed_image image c
unfolding after accepted
after-done image c e = rw e

after-refused : (image : List ℕ) (c : Call) (refused : ℕ) → code_of image c ≡ suc refused → after image c ≡ image
unfolding after accepted
after-refused image c refused e = rw (e, eqb-suc-zero refused)

module _ (image : List ℕ) (s : Sound image) where
  -- of a call: what its image keeps, whether it is accepted or not
  either : (P : List ℕ → Type 0) (c : Call) → P image → (code_of image c ≡ 0 → P (changed_image image c)) → P (after image c)
  unfolding after accepted
  either P c same done = go (eqb (code_of image c) 0) refl
    where
      go : (t : Bool) → eqb (code_of image c) 0 ≡ t → P (cond t (changed_image image c) image)
      go true e = done (eqb-true (code_of image c) 0 e)
      go false e = same

  -- what an accepted save leaves
  rows-keep : (partition n : ℕ) (page : List ℕ) → AcceptedSave image partition n page → Keeps image (saved image n page)
  rows-keep partition n page r = saved-keeps image s n page r.in_range r.page_60

  pub rows-contents : (partition n : ℕ) (page : List ℕ) → AcceptedSave image partition n page → (m : ℕ)
      → contents (saved image n page) m ≡ cond (eqb n m) (Some page) (contents image m)
  rows-contents partition n page r m = saved-contents image s n page r.in_range r.page_60 m

  changed-page-keeps : (p : PageCall) → code_of image (on_page p) ≡ 0 → Keeps image (page_image image p)
  changed-page-keeps (read partition n buffer) e = keeps-refl image s
  changed-page-keeps (save partition n expected page) e = rows-keep partition n page (save-rows image partition n expected page e)
  changed-page-keeps (slot_read partition slot block buffer) e = keeps-refl image s
  changed-page-keeps (slot_save partition slot block expected page) e =
      rows-keep partition (data_number slot block) page (slot-save-rows image partition slot block expected page e).1

  pub page-keeps : (p : PageCall) → Keeps image (after_page image p)
  unfolding after_page after accepted code_of
  page-keeps p = either (λ r. Keeps image r) (on_page p) (keeps-refl image s) (changed-page-keeps p)

keeps-trans : (image image₁ image₂ : List ℕ) → Keeps image image₁ → Keeps image₁ image₂ → Keeps image image₂
keeps-trans image image₁ image₂ k l = record {
  still_sound = l.still_sound;
  same_length = l.same_length ∙ k.same_length;
  same_header = l.same_header ∙ k.same_header;
}

pub pages-keep : (ps : List PageCall) (image : List ℕ) → Sound image → Keeps image (after_pages image ps)
pages-keep [] image s = keeps-refl image s
pages-keep (p ∷ ps) image s =
    let k = page-keeps image s p in
    keeps-trans image (after_page image p) (after_pages (after_page image p) ps) k (pages-keep ps (after_page image p) k.still_sound)

module _ (image : List ℕ) (s : Sound image) where
  changed-keeps : (c : Call) → code_of image c ≡ 0 → Keeps image (changed_image image c)
  changed-keeps (on_page p) e = changed-page-keeps image s p e
  changed-keeps (on_whole (check partition)) e = keeps-refl image s
  changed-keeps (on_whole (report partition)) e = keeps-refl image s
  changed-keeps (on_whole (next_live partition start)) e = keeps-refl image s
  changed-keeps (on_whole (erase partition)) e = erased-keeps image s
  changed-keeps (on_whole (slot_find partition product)) e = keeps-refl image s
  changed-keeps (on_whole (slot_list partition start)) e = keeps-refl image s
  changed-keeps (on_pages c) e = pages-keep (calls_made image c) image s

  call-keeps : (c : Call) → Keeps image (after image c)
  call-keeps c = either image s (λ r. Keeps image r) c (keeps-refl image s) (changed-keeps c)

  -- a call that looks at the whole partition leaves every page alone
  changed-whole : (w : WholeCall) (m : ℕ) → contents (changed_image image (on_whole w)) m ≡ contents image m
  changed-whole (check partition) m = refl
  changed-whole (report partition) m = refl
  changed-whole (next_live partition start) m = refl
  changed-whole (erase partition) m = erased-contents image s m
  changed-whole (slot_find partition product) m = refl
  changed-whole (slot_list partition start) m = refl

  pub whole-alone : (w : WholeCall) (m : ℕ) → contents (after image (on_whole w)) m ≡ contents image m
  whole-alone w m = either image s (λ r. contents r m ≡ contents image m) (on_whole w) refl (λ e. changed-whole w m)

  -- a page call that saves no owned number leaves their pages alone
  changed-page : (owned : ℕ → Bool) (p : PageCall) → saves_owned owned p ≡ false → (m : ℕ) → owned m ≡ true → code_of image (on_page p) ≡ 0
      → contents (changed_image image (on_page p)) m ≡ contents image m
  changed-page owned (read partition n buffer) f m o e = refl
  changed-page owned (save partition n expected page) f m o e =
      rows-contents image s partition n page (save-rows image partition n expected page e) m
      ∙ rw (ne_eqb n m (λ d. true≢false (sym o ∙ ap owned (sym d) ∙ f)))
  changed-page owned (slot_read partition slot block buffer) f m o e = refl
  changed-page owned (slot_save partition slot block expected page) f m o e =
      let n = data_number slot block in
      let r = slot-save-rows image partition slot block expected page e in
      let named = names-data slot block r.0.is_there.slot_most r.0.block_0_1 in
      rows-contents image s partition n page r.1 m
      ∙ rw (ne_eqb n m (λ d. true≢false (sym o ∙ ap owned (sym d) ∙ ap (λ (t : Bool). t && owned n) (sym named) ∙ f)))

  page-alone : (owned : ℕ → Bool) (p : PageCall) → saves_owned owned p ≡ false → (m : ℕ) → owned m ≡ true → contents (after image (on_page p)) m ≡ contents image m
  page-alone owned p f m o = either image s (λ r. contents r m ≡ contents image m) (on_page p) refl (changed-page owned p f m o)

-- ---- the agreement goes on

module _ (size header : ℕ) (owned : ℕ → Bool) (image : List ℕ) (pages : PageMap) (agree : Agree size header owned image pages) where
  pub agree_after : (c : Call) (pages' : PageMap) → ((m : ℕ) → owned m ≡ true → contents (after image c) m ≡ pages' m) → Agree size header owned (after image c) pages'
  agree_after c pages' same =
      let k = call-keeps image agree.is_sound c in
      record {
        is_sound = k.still_sound;
        length_is = k.same_length ∙ agree.length_is;
        number_is = header-number image (after image c) k.same_header ∙ agree.number_is;
        same_pages = same;
      }

  pub agree-between : (p : PageCall) → saves_owned owned p ≡ false → Agree size header owned (after image (on_page p)) pages
  agree-between p f = agree_after (on_page p) pages (λ m o. page-alone image agree.is_sound owned p f m o ∙ agree.same_pages m o)

  -- an accepted save of an owned number, in the image and in the store
  fed-save : (partition n : ℕ) (page : List ℕ) (p : PageCall) → changed_image image (on_page p) ≡ saved image n page
      → (code_of image (on_page p) ≡ 0 → AcceptedSave image partition n page) → (m : ℕ) → owned m ≡ true → (answered : ℕ) → code_of image (on_page p) ≡ answered
      → contents (after image (on_page p)) m ≡ cond (eqb answered 0) (ite (ℕ_discrete m n) (Some page) (pages m)) (pages m)
  fed-save partition n page p image_is rows m om zero e =
      ap (λ (r : List ℕ). contents r m) (after-done image (on_page p) e ∙ image_is)
      ∙ rows-contents image agree.is_sound partition n page (rows e) m
      ∙ stored (ℕ_discrete m n) (agree.same_pages m om)
    where
      stored : Dec (m ≡ n) → contents image m ≡ pages m → cond (eqb n m) (Some page) (contents image m) ≡ ite (ℕ_discrete m n) (Some page) (pages m)
      stored (yes e) q = rw (eq-eqb n m (sym e)) (sym (if_pos (ℕ_discrete m n) e (Some page) (pages m)))
      stored (no d) q = rw (ne_eqb n m (λ e. d (sym e))) (q ∙ sym (if_neg (ℕ_discrete m n) d (Some page) (pages m)))
  fed-save partition n page p image_is rows m om (suc refused) e =
      ap (λ (r : List ℕ). contents r m) (after-refused image (on_page p) refused e) ∙ agree.same_pages m om ∙ rw (eqb-suc-zero refused)

  fed-pages : (p : PageCall) → on_owned owned p ≡ true → (m : ℕ) → owned m ≡ true → contents (after image (on_page p)) m ≡ store_after size header pages p m
  unfolding store_after
  fed-pages (read partition n buffer) o m om =
      page-alone image agree.is_sound owned (read partition n buffer) refl m om ∙ agree.same_pages m om
  fed-pages (save partition n expected page) o m om =
      fed-save partition n page (save partition n expected page) refl (save-rows image partition n expected page) m om _
      (code-agrees size header owned image pages agree (save partition n expected page) o)
      ∙ go (store_code size header pages (save partition n expected page))
    where
      go : (answered : ℕ) → cond (eqb answered 0) (ite (ℕ_discrete m n) (Some page) (pages m)) (pages m)
          ≡ pages_after answered pages (save partition n expected page) m
      go zero = refl
      go (suc refused) = rw (eqb-suc-zero refused)
  fed-pages (slot_read partition slot block buffer) o m om =
      page-alone image agree.is_sound owned (slot_read partition slot block buffer) refl m om ∙ agree.same_pages m om
  fed-pages (slot_save partition slot block expected page) o m om =
      fed-save partition (data_number slot block) page (slot_save partition slot block expected page) refl
      (λ e. (slot-save-rows image partition slot block expected page e).1) m om _
      (code-agrees size header owned image pages agree (slot_save partition slot block expected page) o)
      ∙ go (store_code size header pages (slot_save partition slot block expected page))
    where
      go : (answered : ℕ) → cond (eqb answered 0) (ite (ℕ_discrete m (data_number slot block)) (Some page) (pages m)) (pages m)
          ≡ pages_after answered pages (slot_save partition slot block expected page) m
      go zero = refl
      go (suc refused) = rw (eqb-suc-zero refused)

  pub agree-fed : (p : PageCall) → on_owned owned p ≡ true → Agree size header owned (after image (on_page p)) (store_after size header pages p)
  agree-fed p o = agree_after (on_page p) (store_after size header pages p) (fed-pages p o)
