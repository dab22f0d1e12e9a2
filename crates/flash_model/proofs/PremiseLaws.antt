-- What the premises on runs mean: which calls may stand in a run, which are on owned numbers, which may stand between.
-- Assumes nothing.
use Prim.Native.Nat.{ℕ, ◌+◌, ◌*◌, ◌≤◌}
use mathlib.Core.Path.{◌≡◌, refl, sym, ap, ◌∙◌}
use mathlib.Core.Bool.{Bool, true, false, not, cond, ◌&&◌, ◌||◌, false≢true}
use mathlib.Core.List.{List, [], ◌∷◌}
use mathlib.Core.Logic.{◌↔◌, inl, inr}
use Rattle.words.specs.Lists.{keep, any_of}
use Rattle.flash_model.specs.Calls.{PageCall, Call, Call.on_page, Call.on_whole, Call.on_pages, after_page, reply_to}
use lib.Dec.{leb}
use borrow.Author.Tests.{leb-true, le-leb}
use Rattle.words.proofs.Bools.{and-true-left, and-true-right}
use Rattle.flash_model.specs.Slots.{slot_number, data_number}
use Rattle.flash_model.specs.Runs.{Step, owns_header, names_data, counts_as, answered_pages, page_steps, on_owned, is_save, owned_of, calls_of}
use Rattle.flash_model.specs.Premises.{HeaderOwned, SlotMayStand, SlotOwned, OneOf, PremisesMean}
use Rattle.flash_model.proofs.SlotLaws.{header-first, header-second, data_is}

stand-test : (named own headers : Bool) → ((not (named && own) || headers) ≡ true) ↔ (named ≡ true → own ≡ true → headers ≡ true)
stand-test false own headers = (λ e n o. absurd (false≢true n), λ f. refl)
stand-test true false headers = (λ e n o. absurd (false≢true o), λ f. refl)
stand-test true true headers = (λ e n o. e, λ f. f refl refl)

owned-test : (named own headers : Bool) → ((headers && (not named || own)) ≡ true) ↔ ((headers ≡ true) × (named ≡ true → own ≡ true))
owned-test named own false = (λ e. absurd (false≢true e), λ w. absurd (false≢true w.0))
owned-test false own true = (λ e. (refl, λ n. absurd (false≢true n)), λ w. refl)
owned-test true own true = (λ e. (refl, λ n. e), λ w. w.1 refl)

names-data : (slot block : ℕ) → (names_data slot block ≡ true) ↔ ((slot ≤ 99) × (block ≤ 1))
names-data slot block = (
  λ e. (leb-true slot 99 (and-true-left (leb slot 99) _ e), leb-true block 1 (and-true-right (leb slot 99) _ e)),
  λ w. rw (le-leb slot 99 w.0, le-leb block 1 w.1),
)

module _ (owned : ℕ → Bool) (slot : ℕ) where
  owns-header : (owns_header owned slot ≡ true) ↔ HeaderOwned owned slot
  owns-header =
      let a = header-first slot in
      let b = header-second slot in (
        λ e. (ap owned (sym a) ∙ and-true-left (owned (slot_number slot 0)) _ e, ap owned (sym b) ∙ and-true-right (owned (slot_number slot 0)) _ e),
        λ w. let p = ap owned a ∙ w.0 in let q = ap owned b ∙ w.1 in rw (p, q),
      )

  owns-data : (block : ℕ) → (owned (data_number slot block) ≡ true) ↔ (owned (26 + 4 * slot + block) ≡ true)
  owns-data block = (λ e. ap owned (sym (data_is slot block)) ∙ e, λ e. ap owned (data_is slot block) ∙ e)

  slot-stands : (block : ℕ) → ((not (names_data slot block && owned (data_number slot block)) || owns_header owned slot) ≡ true) ↔ SlotMayStand owned slot block
  slot-stands block =
      let t = stand-test (names_data slot block) (owned (data_number slot block)) (owns_header owned slot) in (
        λ e s b o. owns-header.0 (t.0 e ((names-data slot block).1 (s, b)) ((owns-data block).1 o)),
        λ f. t.1 (λ n o. owns-header.1 (f ((names-data slot block).0 n).0 ((names-data slot block).0 n).1 ((owns-data block).0 o))),
      )

  owned-slot : (block : ℕ) → ((owns_header owned slot && (not (names_data slot block) || owned (data_number slot block))) ≡ true) ↔ SlotOwned owned slot block
  owned-slot block =
      let t = owned-test (names_data slot block) (owned (data_number slot block)) (owns_header owned slot) in (
        λ e. (owns-header.0 (t.0 e).0, λ s b. (owns-data block).0 ((t.0 e).1 ((names-data slot block).1 (s, b)))),
        λ w. t.1 (owns-header.1 w.0, λ n. (owns-data block).1 (w.1 ((names-data slot block).0 n).0 ((names-data slot block).0 n).1)),
      )

kept-calls : (owned : ℕ → Bool) (ps : List PageCall) (image : List ℕ) → calls_of (keep (λ x. on_owned owned x.call) (answered_pages image ps)) ≡ keep (on_owned owned) ps
kept-calls owned [] image = refl
kept-calls owned (p ∷ ps) image = go (kept-calls owned ps (after_page image p)) (on_owned owned p)
  where
    go : calls_of (keep (λ x. on_owned owned x.call) (answered_pages (after_page image p) ps)) ≡ keep (on_owned owned) ps
        → (t : Bool) → calls_of (cond t (record { call = p; answer = reply_to image (on_page p) } ∷ keep (λ x. on_owned owned x.call) (answered_pages (after_page image p) ps))
        (keep (λ x. on_owned owned x.call) (answered_pages (after_page image p) ps))) ≡ cond t (p ∷ keep (on_owned owned) ps) (keep (on_owned owned) ps)
    go e true = ap (λ (l : List PageCall). p ∷ l) e
    go e false = e

step_counts : (owned : ℕ → Bool) (image : List ℕ) (s : Step) → calls_of (owned_of owned image s) ≡ keep (on_owned owned) (counts_as image s.made)
step_counts owned image s = go s.made
  where
    go : (c : Call) → calls_of (keep (λ x. on_owned owned x.call) (page_steps image c s.answer)) ≡ keep (on_owned owned) (counts_as image c)
    go (on_page p) = one (on_owned owned p)
      where
        one : (t : Bool) → calls_of (cond t (record { call = p; answer = s.answer } ∷ []) []) ≡ cond t (p ∷ []) []
        one true = refl
        one false = refl
    go (on_whole w) = refl
    go (on_pages c) = kept-calls owned (counts_as image (on_pages c)) image

no-save : (ps : List PageCall) → ((p : PageCall) → is_save p ≡ true → OneOf p ps → ⊥) → any_of is_save ps ≡ false
no-save [] f = refl
no-save (p ∷ ps) f = go (no-save ps (λ q s a. f q s (inr a))) (is_save p) refl
  where
    go : any_of is_save ps ≡ false → (t : Bool) → is_save p ≡ t → (t || any_of is_save ps) ≡ false
    go r true e = absurd (f p e (inl refl))
    go r false e = r

pub premises_mean : (owned : ℕ → Bool) → PremisesMean owned
premises_mean owned = record {
  none_stand = tt;
  more_stand = λ s steps here rest. (here, rest);
  read_stands = λ partition n buffer. refl;
  save_stands = λ partition n expected page. refl;
  slot_read_stands = λ partition slot block buffer. slot-stands owned slot block;
  slot_save_stands = λ partition slot block expected page. slot-stands owned slot block;
  whole_stands = λ w. refl;
  compound_stands = λ c. refl;
  read_owned = λ partition n buffer. (λ e. e, λ e. e);
  save_owned = λ partition n expected page. (λ e. e, λ e. e);
  slot_read_owned = λ partition slot block buffer. owned-slot owned slot block;
  slot_save_owned = λ partition slot block expected page. owned-slot owned slot block;
  read_between = λ partition n buffer. refl;
  slot_read_between = λ partition slot block buffer. refl;
  save_not_between = λ partition n expected page. refl;
  slot_save_not_between = λ partition slot block expected page. names-data slot block;
  page_itself = λ image p. refl;
  whole_nothing = λ image w. refl;
  step_counts = step_counts owned;
  page_counts = λ image p answer image' o. rw o;
  no_counts = λ image. refl;
  more_counts = λ image s steps. refl;
  no_items = refl;
  both_item = λ s items. refl;
  between_item = λ s items. refl;
  none_in_both = λ image. refl;
  more_in_both = λ image s items. refl;
  not_in_both = λ image s items. refl;
  none_marked = λ image. tt;
  both_marked = λ image s items w. (tt, w);
  between_marked = λ image s items None w. (no-save (calls_of (owned_of owned image s)) None, w);
  none_alike = tt;
  same_alike = λ x y xs ys e m. (inl e, m);
  done_alike = λ x y xs ys partition n seen other page e f a b m.
      (inr (record { partition = partition; number = n; page = page; seen_in_one = seen; seen_in_other = other; one_is = e; other_is = f; one_done = a; other_done = b }), m);
}
