-- Demand 2, from the laws of saves and of answered calls. Assumes nothing.
use Prim.Native.Nat.{ℕ, suc, ◌≤◌}
use mathlib.Core.Path.{◌≡◌, refl, sym, ap, subst, ◌∙◌}
use mathlib.Core.Bool.{true, false, not, true≢false, false≢true}
use mathlib.Core.List.{List, [], ◌∷◌, ◌++◌}
use Rattle.std.specs.Prelude.{Option, None, Some}
use mathlib.Core.Logic.{◌↔◌, ◌≢◌, ◌⊎◌, inl, inr}
use native.Mathlib.Omega.{arith}
use native.Mathlib.Nat.{add-zero}
use native.Mathlib.Decide.{ℕ_discrete}
use lib.ListN.{length, get_or, length-append}
use lib.Seq.{get_or-append-add}
use borrow.Author.Tests.{eq-eqb, ne_eqb}
use Rattle.words.specs.Lists.{is_some, to_list}
use Rattle.flash_model.specs.Measures.{capacity, top_number}
use Rattle.flash_model.specs.UserBlock.{new_block}
use Rattle.flash_model.specs.Partition.{block_at, header_number, version, bitmap_of, allocated, row, first, refusal, Sound, contents, live, used, lowest_live}
use Rattle.flash_model.specs.Update.{append_block, appended, holders, other_holders, compacted, saved_at, page_written, saved, erased}
use Rattle.flash_model.specs.Calls.{Call, Reply, code_of, values_of, buffers_of, filled_buffers, changed_image, Answered}
use Rattle.flash_model.specs.Calls.{PageCall.read, PageCall.save, PageCall.slot_read, PageCall.slot_save, WholeCall.check, WholeCall.report, WholeCall.next_live, WholeCall.erase, WholeCall.slot_find, WholeCall.slot_list, CompoundCall.claim, Call.on_page, Call.on_whole, Call.on_pages}
use Rattle.flash_model.specs.Slots.{slot_refusal}
use Rattle.flash_model.specs.PageStore.{expected_page}
use Rattle.flash_model.specs.Meanings.{NextLiveIs}
use Rattle.flash_model.specs.Demands.{fills_buffer, SavedAs, ErasedAs, LowestFreeBlank, SaveCases, AppendedAt, CompactedAs, ProperSave, LengthsTaken, SaveCodes, named_by, on_slots, ReadOnly, SaveDone, Demand2}
use Rattle.flash_model.proofs.RowLaws.{first-zero, first-refused}
use Rattle.flash_model.proofs.BitmapLaws.{free-bit}
use Rattle.flash_model.proofs.BlockLaws.{new-length}
use Rattle.flash_model.proofs.SoundLaws.{unrefused-sound, sound-measured}
use Rattle.flash_model.proofs.AppendLaws.{bit_falls, bit-other, appended-block, bytes_below, bytes_above, appended-length}
use Rattle.flash_model.proofs.CompactLaws.{compacted-as}
use Rattle.flash_model.proofs.SaveLaws.{either-saved, saved-idle, saved-written, append-blank, blank-append, blank-used, Writable, holders-writable, others-writable, erased-keeps, erased-contents, saved-keeps, saved-contents}
use Rattle.flash_model.proofs.UsedLaws.{appended-used, compacted-used, compaction-used, erased-used}
use Rattle.flash_model.proofs.CallLaws.{answered-code, accepted-image, accepted-values, accepted-buffers, refused-image, refused-values, refused-buffers}
use Rattle.flash_model.proofs.MeaningLaws.{contents-length, next_live_lem, none_live}
use Rattle.flash_model.proofs.CodeLaws.{read_codes, save_codes, read-rows, save-rows}

pub refused_first : (image : List ℕ) (c : Call) → on_slots c ≡ false → refusal image (named_by c) ≢ 0 → code_of image c ≡ refusal image (named_by c)
unfolding code_of
refused_first image (on_page (read partition n buffer)) o h = first-refused (refusal image partition) _ h
refused_first image (on_page (save partition n expected page)) o h = first-refused (refusal image partition) _ h
refused_first image (on_page (slot_read partition slot block buffer)) o h = absurd (true≢false o)
refused_first image (on_page (slot_save partition slot block expected page)) o h = absurd (true≢false o)
refused_first image (on_whole (check partition)) o h = refl
refused_first image (on_whole (report partition)) o h = refl
refused_first image (on_whole (next_live partition start)) o h = first-refused (refusal image partition) _ h
refused_first image (on_whole (erase partition)) o h = refl
refused_first image (on_whole (slot_find partition product)) o h = absurd (true≢false o)
refused_first image (on_whole (slot_list partition start)) o h = absurd (true≢false o)
refused_first image (on_pages (claim partition one other)) o h = absurd (true≢false o)

pub slots_refused_first : (image : List ℕ) (c : Call) → on_slots c ≡ true → slot_refusal image (named_by c) ≢ 0 → code_of image c ≡ slot_refusal image (named_by c)
unfolding code_of
slots_refused_first image (on_page (read partition n buffer)) o h = absurd (false≢true o)
slots_refused_first image (on_page (save partition n expected page)) o h = absurd (false≢true o)
slots_refused_first image (on_page (slot_read partition slot block buffer)) o h = first-refused (slot_refusal image partition) _ h
slots_refused_first image (on_page (slot_save partition slot block expected page)) o h = first-refused (slot_refusal image partition) _ h
slots_refused_first image (on_whole (check partition)) o h = absurd (false≢true o)
slots_refused_first image (on_whole (report partition)) o h = absurd (false≢true o)
slots_refused_first image (on_whole (next_live partition start)) o h = absurd (false≢true o)
slots_refused_first image (on_whole (erase partition)) o h = absurd (false≢true o)
slots_refused_first image (on_whole (slot_find partition product)) o h = first-refused (slot_refusal image partition) _ h
slots_refused_first image (on_whole (slot_list partition start)) o h = first-refused (slot_refusal image partition) _ h
slots_refused_first image (on_pages (claim partition one other)) o h = first-refused (slot_refusal image partition) _ h

whole_accepted : (image : List ℕ) → Sound image
    → (code_of image (on_whole (check (header_number image))) ≡ 0)
    × (code_of image (on_whole (report (header_number image))) ≡ 0)
    × (code_of image (on_whole (erase (header_number image))) ≡ 0)
unfolding code_of
whole_accepted image s = (s, s, s)

buffers_kept : (image : List ℕ) (c : Call) (image' : List ℕ) (answer : Reply) → fills_buffer c ≡ false → Answered image c image' answer → answer.buffers ≡ buffers_of c
buffers_kept image c image' answer fills a = go (ℕ_discrete answer.code 0)
  where
    unfilled : (c : Call) → fills_buffer c ≡ false → filled_buffers image c ≡ buffers_of c
    unfilled (on_page (read partition n buffer)) f = absurd (true≢false f)
    unfilled (on_page (save partition n expected page)) f = refl
    unfilled (on_page (slot_read partition slot block buffer)) f = absurd (true≢false f)
    unfilled (on_page (slot_save partition slot block expected page)) f = refl
    unfilled (on_whole w) f = refl
    unfilled (on_pages c) f = refl

    go : Dec (answer.code ≡ 0) → answer.buffers ≡ buffers_of c
    go (yes e) = accepted-buffers image c image' answer a e ∙ unfilled c fills
    go (no n) = refused-buffers image c image' answer a n

no-values : (image : List ℕ) (c : Call) (image' : List ℕ) (answer : Reply) → values_of image c ≡ [] → Answered image c image' answer → answer.values ≡ []
no-values image c image' answer hands_none a = go (ℕ_discrete answer.code 0)
  where
    go : Dec (answer.code ≡ 0) → answer.values ≡ []
    go (yes e) = accepted-values image c image' answer a e ∙ hands_none
    go (no n) = refused-values image c image' answer a n

read_only_keeps : (image : List ℕ) (c : Call) (image' : List ℕ) (answer : Reply) → ReadOnly c → Answered image c image' answer → image' ≡ image
read_only_keeps image c image' answer looks a = go (ℕ_discrete answer.code 0)
  where
    unchanged : (c : Call) → ReadOnly c → changed_image image c ≡ image
    unchanged (on_page (read partition n buffer)) l = refl
    unchanged (on_page (save partition n expected page)) l = absurd l
    unchanged (on_page (slot_read partition slot block buffer)) l = refl
    unchanged (on_page (slot_save partition slot block expected page)) l = absurd l
    unchanged (on_whole (check partition)) l = refl
    unchanged (on_whole (report partition)) l = refl
    unchanged (on_whole (next_live partition start)) l = refl
    unchanged (on_whole (erase partition)) l = absurd l
    unchanged (on_whole (slot_find partition product)) l = refl
    unchanged (on_whole (slot_list partition start)) l = refl
    unchanged (on_pages (claim partition one other)) l = absurd l

    go : Dec (answer.code ≡ 0) → image' ≡ image
    go (yes e) = accepted-image image c image' answer a e ∙ unchanged c looks
    go (no n) = refused-image image c image' answer a n

report_gives : (image : List ℕ) (partition : ℕ) (image' : List ℕ) (answer : Reply)
    → Answered image (on_whole (report partition)) image' answer → answer.code ≡ 0
    → answer.values ≡ version image ∷ capacity (length image) ∷ used image ∷ live image ∷ []
report_gives image partition image' answer a e = accepted-values image (on_whole (report partition)) image' answer a e

next_live_gives : (image : List ℕ) (partition start : ℕ) (image' : List ℕ) (answer : Reply)
    → Answered image (on_whole (next_live partition start)) image' answer → answer.code ≡ 0
    → (n : ℕ) × (answer.values ≡ n ∷ []) × NextLiveIs image start n
unfolding code_of
next_live_gives image partition start image' answer a e =
    let c = on_whole (next_live partition start) in
    let z = first-zero (refusal image partition) (row 7 (not (is_some (lowest_live image start))) 0) (sym (answered-code image c image' answer a) ∙ e) in
    go (lowest_live image start) refl z.1 (accepted-values image c image' answer a e) (unrefused-sound image partition z.0)
  where
    go : (o : Option ℕ) → lowest_live image start ≡ o → row 7 (not (is_some o)) 0 ≡ 0 → answer.values ≡ to_list (lowest_live image start) → Sound image
        → (n : ℕ) × (answer.values ≡ n ∷ []) × NextLiveIs image start n
    go None q t v s = absurd (omega (arith, t))
    go (Some n) q t v s = (n, v ∙ ap to_list q, (next_live_lem image start n s).0 q)

next_live_none : (image : List ℕ) (start : ℕ) → Sound image → code_of image (on_whole (next_live (header_number image) start)) ≢ 0
    → (code_of image (on_whole (next_live (header_number image) start)) ≡ 7) × ((n : ℕ) → start ≤ n → contents image n ≡ None)
unfolding code_of
next_live_none image start s refused = go (lowest_live image start) refl
  where
    go : (o : Option ℕ) → lowest_live image start ≡ o
        → (first (refusal image (header_number image)) (row 7 (not (is_some (lowest_live image start))) 0) ≡ 7) × ((n : ℕ) → start ≤ n → contents image n ≡ None)
    go None q = (rw (s, q), none_live image start s q)
    go (Some n) q = absurd (refused (rw (s, q)))

read_gives : (image : List ℕ) (partition n : ℕ) (buffer image' : List ℕ) (answer : Reply)
    → Answered image (on_page (read partition n buffer)) image' answer → answer.code ≡ 0
    → (page : List ℕ) × (answer.buffers ≡ page ∷ []) × (contents image n ≡ Some page) × (length page ≡ 60)
read_gives image partition n buffer image' answer a e =
    let c = on_page (read partition n buffer) in
    let r = read-rows image partition n buffer (sym (answered-code image c image' answer a) ∙ e) in
    go (contents image n) refl r.there (accepted-buffers image c image' answer a e) (unrefused-sound image partition r.unrefused_1_5)
  where
    go : (o : Option (List ℕ)) → contents image n ≡ o → contents image n ≢ None → answer.buffers ≡ to_list (contents image n) → Sound image
        → (page : List ℕ) × (answer.buffers ≡ page ∷ []) × (contents image n ≡ Some page) × (length page ≡ 60)
    go None q t b s = absurd (t q)
    go (Some page) q t b s = (page, b ∙ ap to_list q, q, contents-length image s n page q)

-- ---- an accepted save

module _ (image : List ℕ) (n : ℕ) (page image' : List ℕ) (done : SaveDone image n page image') where
  abbrev it : Call
  it = on_page (save done.0 n done.1 page)

  no-refusal : code_of image it ≡ 0
  no-refusal = sym (answered-code image it image' done.2 done.3) ∙ done.4

  is_sound : Sound image
  is_sound = unrefused-sound image done.0 (save-rows image done.0 n done.1 page no-refusal).unrefused_1_5

  legal : n ≤ top_number (length image)
  legal = (save-rows image done.0 n done.1 page no-refusal).in_range

  long : length page ≡ 60
  long = (save-rows image done.0 n done.1 page no-refusal).page_60

  is-saved : image' ≡ saved image n page
  is-saved = accepted-image image it image' done.2 done.3 done.4

  pub save_keeps : SavedAs image n page image'
  save_keeps =
      let k = saved-keeps image is_sound n page legal long in
      let contents-of = saved-contents image is_sound n page legal long in
      rw is-saved (record {
        saved_page = contents-of n ∙ rw (eq-eqb n n refl);
        other_pages = λ m d. contents-of m ∙ rw (ne_eqb n m (λ e. d (sym e)));
        keeps_rest = k;
      })

  save_idles : contents image n ≡ Some page → (image' ≡ image) × (contents image' n ≡ Some page)
  save_idles e = (is-saved ∙ saved-idle image n page e, save_keeps.saved_page)

  as_written : contents image n ≢ Some page → image' ≡ page_written image n page
  as_written d = is-saved ∙ saved-written image n page d

  save_appends : contents image n ≢ Some page → (k : ℕ) → LowestFreeBlank image k → AppendedAt image k (new_block n page) image' × (used image' ≡ suc (used image))
  save_appends d k b =
      let new = new_block n page in
      let l = new-length n page long in
      let m = sound-measured image is_sound in
      rw (as_written d, way) (
        record {
          is_written = appended-block image new k m b.low b.high l;
          bit_was_1 = free-bit (bitmap_of image) k (unfold allocated in b.is_free_lem);
          bit_falls = bit_falls image new k m b.low b.high l b.is_free_lem;
          other_bits = bit-other image new k m b.low b.high l;
          bytes_below = bytes_below image new k m b.low b.high l;
          bytes_above = bytes_above image new k m b.low b.high l;
          same_length = appended-length image new k m b.low b.high l;
        },
        one_more,
      )
    where
      way : page_written image n page ≡ appended image k (new_block n page)
      way = unfold page_written in ap (saved_at image n page) (blank-append image k b)

      one_more : used (appended image k (new_block n page)) ≡ suc (used image)
      one_more =
          let u = blank-used image is_sound k b in
          rw u (appended-used image is_sound (new_block n page) (new-length n page long) (omega (arith, u, b.high)))

  -- where there is no block to append to
  module _ (d : contents image n ≢ Some page) (full : append_block image ≡ None) where
    as-compacted : image' ≡ compacted image (other_holders image n ++ new_block n page ∷ [])
    unfolding page_written
    as-compacted = as_written d ∙ ap (saved_at image n page) full

    writable : Writable image is_sound (other_holders image n ++ new_block n page ∷ [])
    writable = others-writable image is_sound n page legal long

    compacts : CompactedAs image (other_holders image n ++ new_block n page ∷ []) image'
    compacts = rw as-compacted (compacted-as image (other_holders image n ++ new_block n page ∷ []) (sound-measured image is_sound) writable.room writable.whole)

    -- the new block is the last one kept
    compacted-place : block_at image' (used image') ≡ new_block n page
    compacted-place =
        let others = other_holders image n in
        let l = length-append others (new_block n page ∷ []) in
        let u : used image' ≡ suc (length others) = ap used as-compacted ∙ compacted-used image is_sound (others ++ new_block n page ∷ []) writable ∙ l ∙ omega arith in
        ap (block_at image') u ∙ compacts.blocks_are (length others) (omega (arith, l))
        ∙ ap (λ (i : ℕ). get_or (others ++ new_block n page ∷ []) i []) (sym (add-zero (length others))) ∙ get_or-append-add others (new_block n page ∷ []) 0 []

  save_compacts : contents image n ≢ Some page → ((k : ℕ) → LowestFreeBlank image k → ⊥)
      → CompactedAs image (other_holders image n ++ new_block n page ∷ []) image' × (used image' ≡ live image')
  save_compacts d none-blank = go (append_block image) refl
    where
      go : (o : Option ℕ) → append_block image ≡ o → CompactedAs image (other_holders image n ++ new_block n page ∷ []) image' × (used image' ≡ live image')
      go None e = (compacts d e, rw (as-compacted d e) (compaction-used image is_sound n page legal long))
      go (Some k) e = absurd (none-blank k (append-blank image k e))

  save_place : contents image n ≢ Some page → block_at image' (used image') ≡ new_block n page
  save_place d = go (append_block image) refl
    where
      go : (o : Option ℕ) → append_block image ≡ o → block_at image' (used image') ≡ new_block n page
      go None e = compacted-place d e
      go (Some k) e =
          let b = append-blank image k e in
          let a = save_appends d k b in
          ap (block_at image') (a.1 ∙ sym (blank-used image is_sound k b)) ∙ a.0.is_written

save_cases : (image : List ℕ) (n : ℕ) (page : List ℕ) → SaveCases image n page
save_cases image n page = either-saved image n page (λ r. SaveCases image n page) (λ e. inl e) (λ d. inr (d, go (append_block image) refl))
  where
    go : (o : Option ℕ) → append_block image ≡ o → ((k : ℕ) × LowestFreeBlank image k) ⊎ ((k : ℕ) → LowestFreeBlank image k → ⊥)
    go None e = inr (λ k b. let q = sym e ∙ blank-append image k b in let z : ◌≡◌ {A = ℕ} 0 1 = cc in omega (arith, z))
    go (Some k) e = inl (k, append-blank image k e)

-- ---- refused as changed

module _ (image : List ℕ) (partition n : ℕ) (expected page : List ℕ) (p : ProperSave image partition n expected page) where
  codes : SaveCodes image n expected page (code_of image (on_page (save partition n expected page)))
  codes = save_codes image partition n expected page (subst (λ (q : ℕ). refusal image q ≡ 0) p.is_named_lem p.is_sound)

  right-lengths : LengthsTaken expected page
  right-lengths = (p.page_length, go (ℕ_discrete (length expected) 0))
    where
      go : Dec (length expected ≡ 0) → (length expected ≡ 0) ⊎ (length expected ≡ 60)
      go (yes e) = inl e
      go (no d) = inr (p.expected_length d)

  refused_as_changed : (code_of image (on_page (save partition n expected page)) ≡ 9) ↔ (expected_page expected ≢ contents image n)
  refused_as_changed = (λ c. (codes.row_9.0 c).2, λ d. codes.row_9.1 (p.in_range, right-lengths, d))

  accepted_unchanged : (code_of image (on_page (save partition n expected page)) ≡ 0) ↔ (expected_page expected ≡ contents image n)
  accepted_unchanged = (λ c. (codes.row_0.0 c).2, λ d. codes.row_0.1 (p.in_range, right-lengths, d))

-- ---- an accepted erase

erase_keeps : (image : List ℕ) (partition : ℕ) (image' : List ℕ) (answer : Reply)
    → Answered image (on_whole (erase partition)) image' answer → answer.code ≡ 0
    → ErasedAs image image' × CompactedAs image (holders image) image' × (used image' ≡ live image')
erase_keeps image partition image' answer a e =
    let c = on_whole (erase partition) in
    let s : Sound image = unrefused-sound image partition (unfold code_of in sym (answered-code image c image' answer a) ∙ e) in
    let k = erased-keeps image s in
    let w = holders-writable image s in
    rw (accepted-image image c image' answer a e) (
      record {
        all_pages = erased-contents image s;
        keeps_rest = k;
      },
      unfold erased in compacted-as image (holders image) (sound-measured image s) w.room w.whole,
      erased-used image s,
    )

pub demand2 : Demand2
demand2 = record {
  refused_first = refused_first;
  slots_refused_first = slots_refused_first;
  whole_accepted = whole_accepted;
  buffers_kept = buffers_kept;
  page_values = λ image p image' answer a. no-values image (on_page p) image' answer refl a;
  check_values = λ image partition image' answer a. no-values image (on_whole (check partition)) image' answer refl a;
  erase_values = λ image partition image' answer a. no-values image (on_whole (erase partition)) image' answer refl a;
  save_buffers = λ image partition n expected page image' answer a. buffers_kept image _ image' answer refl a;
  slot_save_buffers = λ image partition slot block expected page image' answer a. buffers_kept image _ image' answer refl a;
  find_buffers = λ image partition product image' answer a. buffers_kept image _ image' answer refl a;
  claim_buffers = λ image partition one other image' answer a. buffers_kept image _ image' answer refl a;
  read_codes = read_codes;
  save_codes = save_codes;
  read_only_keeps = read_only_keeps;
  report_gives = report_gives;
  next_live_gives = next_live_gives;
  next_live_none = next_live_none;
  read_gives = read_gives;
  save_keeps = save_keeps;
  save_idles = save_idles;
  save_appends = λ image n page image' k done d b. save_appends image n page image' done d k b;
  save_compacts = save_compacts;
  save_place = save_place;
  save_cases = save_cases;
  refused_as_changed = refused_as_changed;
  accepted_unchanged = accepted_unchanged;
  erase_keeps = erase_keeps;
}
