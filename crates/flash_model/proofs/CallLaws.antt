-- What an answered call tells: refused or accepted, and what the expected page is compared with. Assumes nothing.
use Prim.Native.Nat.{ℕ, suc}
use mathlib.Core.Path.{◌≡◌, refl, sym, ap, subst, ◌∙◌}
use mathlib.Core.Bool.{Bool, true, false, cond}
use mathlib.Core.List.{List, [], ◌∷◌}
use Rattle.std.specs.Prelude.{Option, None, Some}
use mathlib.Core.Logic.{◌≢◌}
use native.Mathlib.Omega.{arith}
use lib.Dec.{eqb}
use lib.ListN.{length}
use borrow.Author.Tests.{eqb-true, eq-eqb, ne_eqb, not-false}
use Rattle.words.specs.Words.{same_bytes}
use Rattle.words.proofs.WordLaws.{same-eq, same_refl}
use Rattle.flash_model.specs.Calls.{Call, Reply, differs, code_of, accepted, values_of, buffers_of, filled_buffers, changed_image, reply_to, after, Answered}
use Rattle.flash_model.specs.PageStore.{expected_page}

-- ---- an answered call

module _ (image : List ℕ) (c : Call) (image' : List ℕ) (answer : Reply) (a : Answered image c image' answer) where
  pub answered-code : answer.code ≡ code_of image c
  unfolding reply_to
  answered-code = ap (λ (r : Reply). r.code) a.answer_is

  is-accepted : answer.code ≡ 0 → accepted image c ≡ true
  unfolding accepted
  is-accepted e = eq-eqb (code_of image c) 0 (sym answered-code ∙ e)

  is-refused : answer.code ≢ 0 → accepted image c ≡ false
  unfolding accepted
  is-refused n = ne_eqb (code_of image c) 0 (λ e. n (answered-code ∙ e))

  pub accepted-image : answer.code ≡ 0 → image' ≡ changed_image image c
  unfolding after
  accepted-image e = a.image_is ∙ ap (λ (t : Bool). cond t (changed_image image c) image) (is-accepted e)

  pub accepted-values : answer.code ≡ 0 → answer.values ≡ values_of image c
  unfolding reply_to
  accepted-values e = ap (λ (r : Reply). r.values) a.answer_is ∙ ap (λ (t : Bool). cond t (values_of image c) []) (is-accepted e)

  pub accepted-buffers : answer.code ≡ 0 → answer.buffers ≡ filled_buffers image c
  unfolding reply_to
  accepted-buffers e =
      ap (λ (r : Reply). r.buffers) a.answer_is ∙ ap (λ (t : Bool). cond t (filled_buffers image c) (buffers_of c)) (is-accepted e)

  pub refused-image : answer.code ≢ 0 → image' ≡ image
  unfolding after
  refused-image n = a.image_is ∙ ap (λ (t : Bool). cond t (changed_image image c) image) (is-refused n)

  pub refused-buffers : answer.code ≢ 0 → answer.buffers ≡ buffers_of c
  unfolding reply_to
  refused-buffers n =
      ap (λ (r : Reply). r.buffers) a.answer_is ∙ ap (λ (t : Bool). cond t (filled_buffers image c) (buffers_of c)) (is-refused n)

  pub refused-values : answer.code ≢ 0 → answer.values ≡ []
  unfolding reply_to
  refused-values n = ap (λ (r : Reply). r.values) a.answer_is ∙ ap (λ (t : Bool). cond t (values_of image c) []) (is-refused n)

-- ---- how a call is answered: refused, or done

module _ (image : List ℕ) (c : Call) where
  pub answer-refused : (n : ℕ) → code_of image c ≡ n → n ≢ 0 → Answered image c image (record { code = n; values = []; buffers = buffers_of c })
  unfolding reply_to after accepted
  answer-refused n e h = record { answer_is = rw (e, ne_eqb n 0 h); image_is = rw (e, ne_eqb n 0 h) }

  pub answer-done : code_of image c ≡ 0 → Answered image c (changed_image image c) (record { code = 0; values = values_of image c; buffers = filled_buffers image c })
  unfolding reply_to after accepted
  answer-done e = record { answer_is = rw e; image_is = rw e }

-- ---- the expected page

-- the bytes compared, and what they stand for
module _ (kept : Option (List ℕ)) (long : (page : List ℕ) → kept ≡ Some page → length page ≡ 60) where
  pub same_seen : (expected : List ℕ) → differs kept expected ≡ false → expected_page expected ≡ kept
  same_seen expected d = go kept long expected d
    where
      go : (o : Option (List ℕ)) → ((page : List ℕ) → o ≡ Some page → length page ≡ 60) → (expected : List ℕ) → differs o expected ≡ false → expected_page expected ≡ o
      go None l [] d = refl
      go None l (x ∷ xs) d = absurd (omega (arith, eqb-true (suc (length xs)) 0 (not-false (eqb (suc (length xs)) 0) d)))
      go (Some page) l [] d =
          let e = same-eq page [] (not-false (same_bytes page []) d) in
          absurd (omega (arith, l page refl, ap length e))
      go (Some page) l (x ∷ xs) d = ap (λ (p : List ℕ). Some p) (sym (same-eq page (x ∷ xs) (not-false (same_bytes page (x ∷ xs)) d)))

  pub seen_same : (expected : List ℕ) → expected_page expected ≡ kept → differs kept expected ≡ false
  seen_same expected d = subst (λ (o : Option (List ℕ)). differs o expected ≡ false) d (go expected)
    where
      go : (expected : List ℕ) → differs (expected_page expected) expected ≡ false
      go [] = refl
      go (x ∷ xs) = rw (same_refl (x ∷ xs))
