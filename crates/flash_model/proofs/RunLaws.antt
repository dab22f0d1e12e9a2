-- Demand 3: runs of calls against the page store. Assumes nothing.
use Prim.Native.Nat.{ℕ, zero, suc, ◌≤◌, ◌<◌}
use mathlib.Core.Path.{◌≡◌, refl, sym, ap, subst, ◌∙◌, fun_ext}
use mathlib.Core.Bool.{Bool, true, false, not, cond, ◌&&◌, ◌||◌, true≢false, false≢true}
use mathlib.Core.List.{List, [], ◌∷◌, ◌++◌}
use Rattle.std.specs.Prelude.{Option, None, Some}
use mathlib.Core.Logic.Dec
use mathlib.Core.Logic.{◌≢◌, ⊎_elim, if_pos, if_neg}
use native.Mathlib.Omega.{arith}
use native.Mathlib.Decide.{ℕ_discrete, dec_lt}
use lib.Dec.{eqb, leb}
use lib.ListN.{length}
use borrow.Author.Tests.{eq-eqb, leb-false}
use Rattle.words.specs.Lists.{keep, any_of}
use Rattle.words.proofs.Bools.{or-false-left, or-false-right}
use Rattle.flash_model.specs.Measures.{top_number}
use Rattle.flash_model.specs.Partition.{header_number, Sound, contents}
use Rattle.flash_model.specs.Slots.{data_number, written_slot}
use Rattle.flash_model.specs.Calls.{PageCall, Call, Reply, code_of, accepted, after_page, after_pages, saves_at, calls_made, reply_to, after, Answered}
use Rattle.flash_model.specs.Calls.{PageCall.read, PageCall.save, PageCall.slot_read, PageCall.slot_save, CompoundCall.claim, Call.on_page, Call.on_whole, Call.on_pages}
use Rattle.flash_model.specs.PageStore.{PageMap, given, owned_pages, expected_page, same_page, dec_right, kept_header, pages_after, store_code, store_reply, store_after, store_replies, store_final}
use Rattle.flash_model.specs.Runs.{Step, Chain, final, PageStep, counts_as, answered_pages, page_steps, owns_header, names_data, page_stands, call_stands, MayStand, on_owned, is_save, owned_of, owned_steps, calls_of, answers_of, Item, Item.both, Item.between, steps_of, steps_in_both, WellMarked, DoneBoth, SameButSeen}
use Rattle.flash_model.specs.Demands.{RunsAsStore, SameForOwned, Demand3}
use Rattle.flash_model.proofs.MeaningLaws.{contents-length}
use Rattle.flash_model.proofs.PremiseLaws.{premises_mean}
use Rattle.flash_model.proofs.StoreLaws.{saves_owned, whole-alone, Agree, reply-agrees, agree_after, agree-between, agree-fed}

-- ---- page calls one after the other

-- each page call got the image's answer
PageChain : List ℕ → List PageStep → Type 0
PageChain image [] = Unit {0}
PageChain image (x ∷ xs) = (x.answer ≡ reply_to image (on_page x.call)) × PageChain (after image (on_page x.call)) xs

after_steps : List ℕ → List PageStep → List ℕ
after_steps image [] = image
after_steps image (x ∷ xs) = after_steps (after image (on_page x.call)) xs

-- page calls that a call makes got the image's answers, and leave the image that they leave
made-answers : (ps : List PageCall) (image : List ℕ) → PageChain image (answered_pages image ps)
unfolding PageChain after accepted code_of after_page
made-answers [] image = tt
made-answers (p ∷ ps) image = (refl, made-answers ps (after_page image p))

after-made : (ps : List PageCall) (image : List ℕ) → after_steps image (answered_pages image ps) ≡ after_pages image ps
unfolding after_steps after accepted code_of after_page
after-made [] image = refl
after-made (p ∷ ps) image = after-made ps (after_page image p)

-- what a call counts as got the image's answers, and leaves the same contents
module _ (image : List ℕ) (s : Sound image) where
  counted-answers : (c : Call) (answer : Reply) → answer ≡ reply_to image c → PageChain image (page_steps image c answer)
  unfolding PageChain
  counted-answers (on_page p) answer e = (e, tt)
  counted-answers (on_whole w) answer e = tt
  counted-answers (on_pages c) answer e = made-answers (counts_as image (on_pages c)) image

  counted-contents : (c : Call) (answer : Reply) (m : ℕ) → contents (after image c) m ≡ contents (after_steps image (page_steps image c answer)) m
  unfolding after_steps after
  counted-contents (on_page p) answer m = refl
  counted-contents (on_whole w) answer m = whole-alone image s w m
  counted-contents (on_pages c) answer m = go (accepted image (on_pages c))
    where
      go : (t : Bool) → contents (cond t (after_pages image (calls_made image c)) image) m
          ≡ contents (after_steps image (answered_pages image (cond t (calls_made image c) []))) m
      go true = ap (λ (i : List ℕ). contents i m) (sym (after-made (calls_made image c) image))
      go false = refl

module _ (size header : ℕ) (owned : ℕ → Bool) where
  -- what a run against a store fed with these calls comes to
  record Comes (pages : PageMap) (steps : List PageStep) (end : List ℕ) : Type 0 where
    same_answers : answers_of steps ≡ store_replies size header pages (calls_of steps)
    agrees : Agree size header owned end (store_final size header pages (calls_of steps))

  fed : (pages : PageMap) (x : PageStep) (steps : List PageStep) (end : List ℕ)
      → x.answer ≡ store_reply size header pages x.call → Comes (store_after size header pages x.call) steps end → Comes pages (x ∷ steps) end
  unfolding store_replies store_final
  fed pages x steps end e c =
      let f = c.same_answers in
      record { same_answers = rw (e, f); agrees = c.agrees }

  -- a call that may stand in the run and is not on owned numbers saves none
  not-owned : (p : PageCall) → page_stands owned p ≡ true → on_owned owned p ≡ false → saves_owned owned p ≡ false
  not-owned (read partition n buffer) s e = refl
  not-owned (save partition n expected page) s e = e
  not-owned (slot_read partition slot block buffer) s e = refl
  not-owned (slot_save partition slot block expected page) s e = go (names_data slot block) (owned (data_number slot block)) (owns_header owned slot) e s
    where
      go : (named own headers : Bool) → (headers && (not named || own)) ≡ false → (not (named && own) || headers) ≡ true → (named && own) ≡ false
      go false own headers e s = refl
      go true false headers e s = refl
      go true true true e s = e
      go true true false e s = absurd (false≢true s)

  -- every one of these may stand
  AllStand : List PageStep → Type 0
  AllStand [] = Unit {0}
  AllStand (x ∷ xs) = (page_stands owned x.call ≡ true) × AllStand xs

  all-stand : (image : List ℕ) (c : Call) (answer : Reply) → call_stands owned c ≡ true → AllStand (page_steps image c answer)
  unfolding AllStand calls_made
  all-stand image (on_page p) answer e = (e, tt)
  all-stand image (on_whole w) answer e = tt
  all-stand image (on_pages (claim partition one other)) answer e = go (accepted image (on_pages (claim partition one other)))
    where
      saves : (o : Option ℕ) → AllStand (answered_pages image (saves_at image partition one other o))
      saves None = tt
      saves (Some slot) = (refl, (refl, tt))

      go : (t : Bool) → AllStand (answered_pages image (cond t (calls_made image (claim partition one other)) []))
      go true = saves (written_slot image (one ++ other))
      go false = tt

  -- page calls one after the other, and what comes of the rest
  page-steps : (xs : List PageStep) (image : List ℕ) (pages : PageMap) → Agree size header owned image pages → PageChain image xs → AllStand xs
      → (later : List PageStep) (end : List ℕ)
      → ((pages' : PageMap) → Agree size header owned (after_steps image xs) pages' → Comes pages' later end)
      → Comes pages (keep (λ x. on_owned owned x.call) xs ++ later) end
  unfolding PageChain after_steps AllStand
  page-steps [] image pages agree c a later end rest = rest pages agree
  page-steps (x ∷ xs) image pages agree c a later end rest = go (λ pages' agree'. page-steps xs (after image (on_page x.call)) pages' agree' c.1 a.1 later end rest) (on_owned owned x.call) refl
    where
      go : ((pages' : PageMap) → Agree size header owned (after image (on_page x.call)) pages' → Comes pages' (keep (λ x. on_owned owned x.call) xs ++ later) end)
          → (t : Bool) → on_owned owned x.call ≡ t
          → Comes pages (cond t (x ∷ keep (λ x. on_owned owned x.call) xs) (keep (λ x. on_owned owned x.call) xs) ++ later) end
      go next true o =
          fed pages x _ end (c.0 ∙ reply-agrees size header owned image pages agree x.call o)
          (next (store_after size header pages x.call) (agree-fed size header owned image pages agree x.call o))
      go next false o = next pages (agree-between size header owned image pages agree x.call (not-owned x.call a.0 o))

  run : (steps : List Step) (image : List ℕ) (pages : PageMap) → Agree size header owned image pages → Chain image steps → MayStand owned steps
      → Comes pages (owned_steps owned image steps) (final image steps)
  unfolding store_replies store_final
  run [] image pages agree c a = record { same_answers = refl; agrees = agree }
  run (s ∷ steps) image pages agree c a =
      page-steps (page_steps image s.made s.answer) image pages agree (counted-answers image agree.is_sound s.made s.answer c.0.answer_is)
      (all-stand image s.made s.answer a.0)
      (owned_steps owned s.image' steps) (final s.image' steps)
      (λ pages' agree'. run steps s.image' pages' (next pages' agree') c.1 a.1)
    where
      next : (pages' : PageMap) → Agree size header owned (after_steps image (page_steps image s.made s.answer)) pages' → Agree size header owned s.image' pages'
      next pages' agree' =
          subst (λ (r : List ℕ). Agree size header owned r pages') (sym c.0.image_is)
          (agree_after size header owned image pages agree s.made pages'
          (λ m o. counted-contents image agree.is_sound s.made s.answer m ∙ agree'.same_pages m o))

owned-start : (owned : ℕ → Bool) (image : List ℕ) → Sound image → Agree (length image) (header_number image) owned image (owned_pages owned image)
unfolding owned_pages
owned-start owned image s = record { is_sound = s; length_is = refl; number_is = refl; same_pages = λ n o. rw o }

runs_as_store : (owned : ℕ → Bool) (image : List ℕ) (steps : List Step) → Sound image → Chain image steps → MayStand owned steps → RunsAsStore owned image steps
runs_as_store owned image steps s c a =
    let r = run (length image) (header_number image) owned steps image (owned_pages owned image) (owned-start owned image s) c a in
    record {
      answers = r.same_answers;
      pages = r.agrees.same_pages;
      ends_sound = r.agrees.is_sound;
      same_length = r.agrees.length_is;
      same_number = r.agrees.number_is;
    }

heads : {a b : Reply} {l m : List Reply} → a ∷ l ≡ b ∷ m → a ≡ b
heads e = cc

tails : {a b : Reply} {l m : List Reply} → a ∷ l ≡ b ∷ m → l ≡ m
tails e = cc

-- ---- two runs, from that theorem

given-passed : {P : Type 0} (fact : Dec P) (refused later : ℕ) → given fact (suc refused) later ≡ 0 → (P → ⊥) × (later ≡ 0)
given-passed (yes p) refused later e = absurd (omega (arith, e))
given-passed (no n) refused later e = (n, e)

not-above : (top n : ℕ) → (top < n → ⊥) → leb n top ≡ true
not-above top n h = go (leb n top) refl
  where
    go : (t : Bool) → leb n top ≡ t → t ≡ true
    go true e = refl
    go false e = absurd (h (leb-false n top e))

module _ (size header : ℕ) (owned : ℕ → Bool) where
  -- the store's answers to the calls made in both, from those to all calls on owned numbers
  record Sifted (pages : PageMap) (all sifted : List PageStep) : Type 0 where
    both_answers : answers_of sifted ≡ store_replies size header pages (calls_of sifted)
    same_final : store_final size header pages (calls_of all) ≡ store_final size header pages (calls_of sifted)

  abbrev Answers : PageMap → List PageStep → Type 0
  Answers pages xs = answers_of xs ≡ store_replies size header pages (calls_of xs)

  -- the store takes a slot save only where it names a data block
  store-names : (pages : PageMap) (partition slot block : ℕ) (expected page : List ℕ)
      → store_code size header pages (slot_save partition slot block expected page) ≡ 0 → names_data slot block ≡ true
  unfolding store_code
  store-names pages partition slot block expected page e =
      let a = given-passed (Dec.not (ℕ_discrete size 32768)) 0 _ e in
      let b = given-passed (Dec.not (ℕ_discrete partition 3)) 2 _ a.1 in
      let c = given-passed (Dec.not (ℕ_discrete partition header)) 2 _ b.1 in
      let d = given-passed (Dec.not (ℕ_discrete (length page) 60)) 7 _ c.1 in
      let f = given-passed (Dec.and (Dec.not (ℕ_discrete (length expected) 0)) (Dec.not (ℕ_discrete (length expected) 60))) 7 _ d.1 in
      let g = given-passed (dec_lt 99 slot) 41 _ f.1 in
      let h = given-passed (Dec.not (dec_right (kept_header pages slot))) 41 _ g.1 in
      let i = given-passed (dec_lt 1 block) 42 _ h.1 in
      rw (not-above 99 slot g.0, not-above 1 block i.0)

  -- a read changes nothing in the store, nor does a slot save that names no data block
  read-alone : (pages : PageMap) (p : PageCall) → is_save p ≡ false → store_after size header pages p ≡ pages
  unfolding store_after
  read-alone pages (read partition n buffer) f = refl
  read-alone pages (save partition n expected page) f = absurd (true≢false f)
  read-alone pages (slot_read partition slot block buffer) f = refl
  read-alone pages (slot_save partition slot block expected page) f = go (store_code size header pages (slot_save partition slot block expected page)) refl
    where
      go : (code : ℕ) → store_code size header pages (slot_save partition slot block expected page) ≡ code
          → pages_after code pages (slot_save partition slot block expected page) ≡ pages
      go zero e = absurd (true≢false (sym (store-names pages partition slot block expected page e) ∙ f))
      go (suc code) e = refl

  -- reads of a step between
  passed : (xs : List PageStep) (pages : PageMap) (all sifted : List PageStep) → any_of is_save (calls_of xs) ≡ false
      → (Answers pages all → Sifted pages all sifted) → Answers pages (xs ++ all) → Sifted pages (xs ++ all) sifted
  unfolding store_replies store_final
  passed [] pages all sifted f next e = next e
  passed (x ∷ xs) pages all sifted f next e =
      let same = read-alone pages x.call (or-false-left (is_save x.call) _ f) in
      let r = passed xs pages all sifted (or-false-right (is_save x.call) _ f) next (rw same at (tails e)) in
      record { both_answers = r.both_answers; same_final = ap (λ (f : PageMap). store_final size header f (calls_of (xs ++ all))) same ∙ r.same_final }

  -- calls of a step made in both
  shared : (xs : List PageStep) (pages : PageMap) (all sifted : List PageStep)
      → ((pages' : PageMap) → Answers pages' all → Sifted pages' all sifted) → Answers pages (xs ++ all) → Sifted pages (xs ++ all) (xs ++ sifted)
  unfolding store_replies store_final
  shared [] pages all sifted next e = next pages e
  shared (x ∷ xs) pages all sifted next e =
      let r = shared xs (store_after size header pages x.call) all sifted next (tails e) in
      let h = heads e in
      let t = r.both_answers in
      record { both_answers = rw (h, t); same_final = r.same_final }

  sift : (items : List Item) (image : List ℕ) (pages : PageMap) → WellMarked owned image items
      → Answers pages (owned_steps owned image (steps_of items)) → Sifted pages (owned_steps owned image (steps_of items)) (steps_in_both owned image items)
  unfolding store_replies store_final
  sift [] image pages w e = record { both_answers = refl; same_final = refl }
  sift (both s ∷ items) image pages w e =
      shared (owned_of owned image s) pages (owned_steps owned s.image' (steps_of items)) (steps_in_both owned s.image' items)
      (λ pages' f. sift items s.image' pages' w.1 f) e
  sift (between s ∷ items) image pages w e =
      passed (owned_of owned image s) pages (owned_steps owned s.image' (steps_of items)) (steps_in_both owned s.image' items) w.0
      (λ f. sift items s.image' pages w.1 f) e

same_start : (owned : ℕ → Bool) (s t : List ℕ) → ((n : ℕ) → owned n ≡ true → contents s n ≡ contents t n) → owned_pages owned s ≡ owned_pages owned t
unfolding owned_pages
same_start owned s t h = fun_ext (λ n. go n (owned n) refl)
  where
    go : (n : ℕ) (o : Bool) → owned n ≡ o → cond o (contents s n) None ≡ cond o (contents t n) None
    go n true e = h n e
    go n false e = refl

two_runs : (owned : ℕ → Bool) (s t : List ℕ) (xs ys : List Item)
    → Sound s → Sound t → length s ≡ length t → header_number s ≡ header_number t
    → ((n : ℕ) → owned n ≡ true → contents s n ≡ contents t n)
    → Chain s (steps_of xs) → Chain t (steps_of ys) → MayStand owned (steps_of xs) → MayStand owned (steps_of ys)
    → WellMarked owned s xs → WellMarked owned t ys
    → calls_of (steps_in_both owned s xs) ≡ calls_of (steps_in_both owned t ys)
    → SameForOwned owned s t xs ys
two_runs owned s t xs ys sound-s sound-t l h same chain-s chain-t stand-s stand-t marked-s marked-t calls =
    let a = runs_as_store owned s (steps_of xs) sound-s chain-s stand-s in
    let b = runs_as_store owned t (steps_of ys) sound-t chain-t stand-t in
    let start = same_start owned s t same in
    let x = sift (length s) (header_number s) owned xs s (owned_pages owned s) marked-s a.answers in
    let y = sift (length t) (header_number t) owned ys t (owned_pages owned t) marked-t b.answers in
    let ends : store_final (length s) (header_number s) (owned_pages owned s) (calls_of (steps_in_both owned s xs))
    ≡ store_final (length t) (header_number t) (owned_pages owned t) (calls_of (owned_steps owned t (steps_of ys))) = rw (l, h, start, calls) (sym y.same_final) in
    record {
      answers = x.both_answers ∙ rw (l, h, start, calls) (sym y.both_answers);
      pages = λ n o. a.pages n o ∙ ap (λ (f : PageMap). f n) (x.same_final ∙ ends) ∙ sym (b.pages n o);
      one = a;
      other = b;
    }

-- ---- what saves that are done in both last saw

same-expected : (a b : List ℕ) → expected_page a ≡ expected_page b → a ≡ b
same-expected [] [] e = refl
same-expected [] (y ∷ ys) e = let z : ◌≡◌ {A = ℕ} 0 1 = cc in absurd (omega (arith, z))
same-expected (x ∷ xs) [] e = let z : ◌≡◌ {A = ℕ} 0 1 = cc in absurd (omega (arith, z))
same-expected (x ∷ xs) (y ∷ ys) e = cc

module _ (size header : ℕ) where
  -- the store takes a save only with what it keeps as last seen
  store-seen : (pages : PageMap) (partition n : ℕ) (expected page : List ℕ) → store_code size header pages (save partition n expected page) ≡ 0
      → expected_page expected ≡ pages n
  unfolding store_code
  store-seen pages partition n expected page e =
      let a = given-passed (Dec.not (ℕ_discrete partition header)) 2 _ e in
      let b = given-passed (dec_lt (top_number size) n) 5 _ a.1 in
      let c = given-passed (Dec.not (ℕ_discrete (length page) 60)) 7 _ b.1 in
      let d = given-passed (Dec.and (Dec.not (ℕ_discrete (length expected) 0)) (Dec.not (ℕ_discrete (length expected) 60))) 7 _ c.1 in
      let f = given-passed (Dec.not (same_page (expected_page expected) (pages n))) 8 0 d.1 in
      go (same_page (expected_page expected) (pages n)) f.0
    where
      go : Dec (expected_page expected ≡ pages n) → ((expected_page expected ≢ pages n) → ⊥) → expected_page expected ≡ pages n
      go (yes q) f = q
      go (no d) f = absurd (f d)

  done-seen : (pages : PageMap) (x : PageStep) (partition n : ℕ) (expected page : List ℕ) → x.call ≡ save partition n expected page
      → x.answer.code ≡ 0 → x.answer ≡ store_reply size header pages x.call → expected_page expected ≡ pages n
  unfolding store_reply
  done-seen pages x partition n expected page e z a =
      store-seen pages partition n expected page (ap (λ (p : PageCall). store_code size header pages p) (sym e) ∙ sym (ap (λ (r : Reply). r.code) a) ∙ z)

  same-calls : (xs ys : List PageStep) (pages : PageMap) → answers_of xs ≡ store_replies size header pages (calls_of xs)
      → answers_of ys ≡ store_replies size header pages (calls_of ys) → SameButSeen xs ys → calls_of xs ≡ calls_of ys
  unfolding store_replies
  same-calls [] [] pages a b m = refl
  same-calls [] (y ∷ ys) pages a b m = absurd m
  same-calls (x ∷ xs) [] pages a b m = absurd m
  same-calls (x ∷ xs) (y ∷ ys) pages a b m =
      let here = ⊎_elim {C = x.call ≡ y.call} (λ e. e) seen m.0 in
      let rest = same-calls xs ys (store_after size header pages x.call) (tails a) (rw (sym here) at (tails b)) m.1 in
      rw (here, rest)
    where
      seen : DoneBoth x y → x.call ≡ y.call
      seen d =
          let p = done-seen pages x d.partition d.number d.seen_in_one d.page d.one_is d.one_done (heads a) in
          let q = done-seen pages y d.partition d.number d.seen_in_other d.page d.other_is d.other_done (heads b) in
          let e = same-expected d.seen_in_one d.seen_in_other (p ∙ sym q) in
          d.one_is ∙ ap (λ (l : List ℕ). save d.partition d.number l d.page) e ∙ sym d.other_is

seen_alike : (owned : ℕ → Bool) (s t : List ℕ) (xs ys : List Item)
    → Sound s → Sound t → length s ≡ length t → header_number s ≡ header_number t
    → ((n : ℕ) → owned n ≡ true → contents s n ≡ contents t n)
    → Chain s (steps_of xs) → Chain t (steps_of ys) → MayStand owned (steps_of xs) → MayStand owned (steps_of ys)
    → WellMarked owned s xs → WellMarked owned t ys
    → SameButSeen (steps_in_both owned s xs) (steps_in_both owned t ys)
    → calls_of (steps_in_both owned s xs) ≡ calls_of (steps_in_both owned t ys)
seen_alike owned s t xs ys sound-s sound-t l h same chain-s chain-t stand-s stand-t marked-s marked-t alike =
    let a = runs_as_store owned s (steps_of xs) sound-s chain-s stand-s in
    let b = runs_as_store owned t (steps_of ys) sound-t chain-t stand-t in
    let start = same_start owned s t same in
    let x = sift (length s) (header_number s) owned xs s (owned_pages owned s) marked-s a.answers in
    let y = sift (length t) (header_number t) owned ys t (owned_pages owned t) marked-t b.answers in
    same-calls (length s) (header_number s) (steps_in_both owned s xs) (steps_in_both owned t ys) (owned_pages owned s) x.both_answers
    (y.both_answers ∙ rw (l, h, start)) alike

-- ---- never refused, from that theorem: the run of one save, with its number the only one owned

module _ (image : List ℕ) (n : ℕ) (expected page image' : List ℕ) (answer : Reply) (s : Sound image) (legal : n ≤ top_number (length image))
    (l : length page ≡ 60) (e : expected_page expected ≡ contents image n) where
  abbrev it : PageCall
  it = save (header_number image) n expected page

  right-length : (o : Option (List ℕ)) → contents image n ≡ o → (xs : List ℕ) → expected_page xs ≡ o → (length xs ≢ 0) × (length xs ≢ 60) → ⊥
  right-length o q [] f d = d.0 refl
  right-length o q (x ∷ xs) f d = d.1 (contents-length image s n (x ∷ xs) (q ∙ sym f))

  -- the store that owns just this number takes the page
  pub store-accepts : (pages : PageMap) → pages n ≡ contents image n → store_code (length image) (header_number image) pages it ≡ 0
  unfolding store_code
  store-accepts pages q =
      if_neg (Dec.not (ℕ_discrete (header_number image) (header_number image))) (λ d. d refl) 3 _
      ∙ if_neg (dec_lt (top_number (length image)) n) (λ h. omega (arith, h, legal)) 6 _
      ∙ if_neg (Dec.not (ℕ_discrete (length page) 60)) (λ d. d l) 8 _
      ∙ if_neg (Dec.and (Dec.not (ℕ_discrete (length expected) 0)) (Dec.not (ℕ_discrete (length expected) 60))) (right-length (contents image n) refl expected e) 8 _
      ∙ if_neg (Dec.not (same_page (expected_page expected) (pages n))) (λ d. d (e ∙ sym q)) 9 0

  pub own-page : owned_pages (eqb n) image n ≡ contents image n
  unfolding owned_pages
  own-page = rw (eq-eqb n n refl)

  never_refused : Answered image (on_page it) image' answer → (answer.code ≡ 0) × (contents image' n ≡ Some page)
  unfolding store_replies store_final store_reply store_after
  never_refused a =
      let own : ℕ → Bool = eqb n in
      let o : eqb n n ≡ true = eq-eqb n n refl in
      let r = runs_as_store own image (record { made = on_page it; answer = answer; image' = image' } ∷ []) s (a, tt) (refl, tt) in
      let pages = owned_pages own image in
      let z = store-accepts pages own-page in
      let f : answer ∷ [] ≡ store_reply (length image) (header_number image) pages it ∷ [] = rw o at r.answers in
      let g : contents image' n ≡ store_after (length image) (header_number image) pages it n = rw o at (r.pages n o) in (
        ap (λ (x : Reply). x.code) (heads f) ∙ z,
        g ∙ rw z (if_pos (ℕ_discrete n n) refl (Some page) (pages n)),
      )

pub demand3 : Demand3
demand3 = record {
  premises_mean = premises_mean;
  runs_as_store = runs_as_store;
  two_runs = two_runs;
  seen_alike = seen_alike;
  never_refused = λ image n expected page image' answer s legal l e a. never_refused image n expected page image' answer s legal l e a;
}
