-- A writer's page is read back, by demand 3's run theorem with its number the only one owned. Assumes nothing.
use Prim.Native.Nat.{ℕ}
use mathlib.Core.Path.{◌≡◌, refl, sym, ap, subst, ◌∙◌}
use mathlib.Core.List.{List, [], ◌∷◌}
use Rattle.std.specs.Prelude.{Option, None, Some}
use mathlib.Core.Logic.Dec
use mathlib.Core.Logic.{if_pos, if_neg}
use native.Mathlib.Omega.{arith}
use native.Mathlib.Decide.{ℕ_discrete, dec_lt}
use lib.Dec.{eqb}
use lib.ListN.{length}
use borrow.Author.Tests.{eq-eqb}
use Rattle.flash_model.specs.Measures.{top_number}
use Rattle.flash_model.specs.Partition.{header_number}
use Rattle.flash_model.specs.Calls.{PageCall, Reply, after, Answered}
use Rattle.flash_model.specs.Calls.{PageCall.read, PageCall.save, Call.on_page, Call.on_whole, WholeCall.erase}
use Rattle.flash_model.specs.PageStore.{PageMap, owned_pages, same_page, store_code, store_reply, store_after, store_replies, store_final}
use Rattle.flash_model.specs.Runs.{Step, Chain, final, owned_steps, calls_of, answers_of, MayStand}
use Rattle.flash_model.proofs.RunLaws.{store-accepts, own-page, demand3}
use Rattle.readback.specs.OwnPage.{OwnSave, OwnPageBack, image_before}

-- the images that the calls left, one after another
pub final-read : (image : List ℕ) (partition n : ℕ) (expected page : List ℕ) (other : ℕ) (others back i1 i2 i3 : List ℕ) (r1 r2 r3 r4 : Reply)
    → Answered image (on_page (save partition n expected page)) i1 r1 → Answered i1 (on_page (save partition other page others)) i2 r2
    → Answered i2 (on_whole (erase partition)) i3 r3 → Answered i3 (on_page (read partition n back)) i3 r4
    → Answered (image_before image partition n expected page other others) (on_page (read partition n back)) i3 r4
unfolding image_before
final-read image partition n expected page other others back i1 i2 i3 r1 r2 r3 r4 a b c d =
    let e : i3 ≡ after (after (after image (on_page (save partition n expected page))) (on_page (save partition other page others))) (on_whole (erase partition)) =
    c.image_is ∙ ap (λ (x : List ℕ). after x (on_whole (erase partition))) (b.image_is ∙ ap (λ (x : List ℕ). after x (on_page (save partition other page others))) a.image_is) in
    subst (λ (x : List ℕ). Answered x (on_page (read partition n back)) i3 r4) e d

module _ (image : List ℕ) (partition n : ℕ) (expected page back : List ℕ) (own : OwnSave image partition n expected page back) where
  abbrev saving : PageCall
  saving = save (header_number image) n expected page

  abbrev reading : PageCall
  reading = read (header_number image) n back

  abbrev pages : PageMap
  pages = owned_pages (eqb n) image

  store-reads : (kept : PageMap) → kept n ≡ Some page → store_code (length image) (header_number image) kept reading ≡ 0
  unfolding store_code
  store-reads kept q =
      if_neg (Dec.not (ℕ_discrete (header_number image) (header_number image))) (λ d. d refl) 3 _
      ∙ if_neg (dec_lt (top_number (length image)) n) (λ h. omega (arith, h, own.is_legal)) 6 _
      ∙ if_neg (Dec.not (ℕ_discrete (length back) 60)) (λ d. d own.back_60) 8 _
      ∙ if_neg (same_page (kept n) None) (λ h. absurd (different (sym q ∙ h))) 7 0
    where
      different : ◌≡◌ {A = Option (List ℕ)} (Some page) None → ⊥
      different e = let z : ◌≡◌ {A = ℕ} 0 1 = cc in omega (arith, z)

  store_keeps : store_after (length image) (header_number image) pages saving n ≡ Some page
  unfolding store_after
  store_keeps =
      rw (store-accepts image n expected page image (record { code = 0; values = []; buffers = [] }) own.is_sound own.is_legal own.page_60 own.up_to_date pages (own-page image n expected page image (record { code = 0; values = []; buffers = [] }) own.is_sound own.is_legal own.page_60 own.up_to_date))
      (if_pos (ℕ_discrete n n) refl (Some page) (pages n))

  read_keeps : (kept : PageMap) → store_after (length image) (header_number image) kept reading n ≡ kept n
  unfolding store_after
  read_keeps kept = refl

  pub own-page-back : (steps : List Step) → Chain image steps → MayStand (eqb n) steps
      → calls_of (owned_steps (eqb n) image steps) ≡ save partition n expected page ∷ read partition n back ∷ []
      → (a b : Reply) (back' : List ℕ) → answers_of (owned_steps (eqb n) image steps) ≡ a ∷ b ∷ [] → b.buffers ≡ back' ∷ []
      → OwnPageBack image n page (final image steps) b.code back'
  unfolding store_replies store_final store_reply
  own-page-back steps linked stand calls a b back' answers buffers =
      let kept = store_after (length image) (header_number image) pages saving in
      let named : calls_of (owned_steps (eqb n) image steps) ≡ saving ∷ reading ∷ [] = calls ∙ ap (λ (p : ℕ). save p n expected page ∷ read p n back ∷ []) own.names_it in
      let runs = demand3.runs_as_store (eqb n) image steps own.is_sound linked stand in
      let all : a ∷ b ∷ [] ≡ store_replies (length image) (header_number image) pages (saving ∷ reading ∷ []) =
      sym answers ∙ runs.answers ∙ ap (store_replies (length image) (header_number image) pages) named in
      let last : b ≡ store_reply (length image) (header_number image) kept reading = cc in
      let code = store-reads kept store_keeps in
      let left : back' ∷ [] ≡ page ∷ [] = sym buffers ∙ ap (λ (x : Reply). x.buffers) last ∙ rw (code, store_keeps) in
      record {
        is_read = ap (λ (x : Reply). x.code) last ∙ code;
        is_own = cc;
        is_there = runs.pages n (eq-eqb n n refl) ∙ ap (λ (ps : List PageCall). store_final (length image) (header_number image) pages ps n) named ∙ read_keeps kept ∙ store_keeps;
        ends_sound = runs.ends_sound;
        same_length = runs.same_length;
        same_number = runs.same_number;
      }
