-- What the definitions mean, in plain logic. Assumes nothing.
use Prim.Native.Nat.{ℕ, ◌≤◌, ◌<◌}
use mathlib.Core.Path.{◌≡◌, refl, sym, ap, subst, ◌∙◌}
use mathlib.Core.Bool.{Bool, true, false, ◌&&◌, true≢false, false≢true}
use mathlib.Core.List.{List}
use Rattle.std.specs.Prelude.{Option, None, Some}
use mathlib.Core.Logic.{◌↔◌, ◌≢◌}
use native.Mathlib.Omega.{arith}
use native.Mathlib.Decide.{dec_le}
use lib.Dec.{leb}
use lib.ListN.{length, take}
use borrow.Author.Tests.{eqb-true, eq-eqb, leb-true, le-leb, lt-leb}
use Rattle.words.specs.Lists.{is_some, keep}
use Rattle.words.specs.Words.{word}
use Rattle.checksum.specs.Crc.{checksum_of}
use Rattle.words.proofs.Bools.{and-true-left, and-true-right}
use Rattle.words.proofs.WordLaws.{same-eq, eq-same}
use Rattle.words.proofs.SearchLaws.{lowest-some, lowest-is, lowest-none, lowest-nothing}
use Rattle.flash_model.specs.Measures.{capacity, user_blocks}
use Rattle.flash_model.specs.UserBlock.{right_checksum}
use Rattle.flash_model.specs.Update.{is_holder}
use Rattle.flash_model.specs.Partition.{block_at, header_number, allocated, refusal, Sound, contents, used, lowest_live}
use Rattle.flash_model.specs.Meanings.{NextLiveIs, Meanings}
use Rattle.flash_model.proofs.BlockLaws.{payload-length}
use Rattle.flash_model.proofs.SoundLaws.{tests-of, tested-sound, unrefused-sound, sound-measured, used_most, allocated-used}
use Rattle.flash_model.proofs.HolderLaws.{contents_are, holders-at}
use Rattle.flash_model.proofs.RefusalLaws.{refusals_mean, unrefused}
use Rattle.flash_model.proofs.ImageLaws.{block-length}
use Rattle.flash_model.proofs.RoomLaws.{live-holders}

refused_not : (image : List ℕ) (partition : ℕ) → (refusal image partition ≡ 0) ↔ (Sound image × (header_number image ≡ partition))
refused_not image partition =
    (λ e. (unrefused-sound image partition e, (unrefused image partition e).1), λ s. subst (λ (p : ℕ). refusal image p ≡ 0) s.1 s.0)

pub contents-length : (image : List ℕ) → Sound image → (n : ℕ) (page : List ℕ) → contents image n ≡ Some page → length page ≡ 60
contents-length image s n page e =
    let h = (contents_are image n page).0 e in
    ap length h.page_is
    ∙ payload-length (block_at image h.at) (block-length image h.at (omega (arith, h.here.high, (sound-measured image s).whole)))

used_are : (image : List ℕ) → Sound image → (k : ℕ) → 1 ≤ k → k ≤ capacity (length image) → (allocated image k ≡ true) ↔ (k ≤ used image)
used_are image s k lo hi =
    (λ e. leb-true k (used image) (sym (allocated-used image s k lo hi) ∙ e), λ h. allocated-used image s k lo hi ∙ le-leb k (used image) h)

right_checksum_lem : (block : List ℕ) → (right_checksum block ≡ true) ↔ (word block 62 ≡ checksum_of (take 62 block))
unfolding right_checksum
right_checksum_lem block = (eqb-true (word block 62) (checksum_of (take 62 block)), eq-eqb (word block 62) (checksum_of (take 62 block)))

-- ---- the next live number

some_there : {A : Type 0} (o : Option A) → is_some o ≡ true → o ≢ None
some_there None e q = false≢true e
some_there (Some x) e q = let z : ◌≡◌ {A = ℕ} 0 1 = cc in absurd (omega arith)

there-some : {A : Type 0} (o : Option A) → o ≢ None → is_some o ≡ true
there-some None n = absurd (n refl)
there-some (Some x) n = refl

pub none_there : {A : Type 0} (o : Option A) → is_some o ≡ false → o ≡ None
none_there None e = refl
none_there (Some x) e = absurd (true≢false e)

live-low : (image : List ℕ) → Sound image → (n : ℕ) → contents image n ≢ None → n < capacity (length image)
live-low image s n l = go (contents image n) refl
  where
    go : (o : Option (List ℕ)) → contents image n ≡ o → n < capacity (length image)
    go None e = absurd (l e)
    go (Some page) e = omega (arith, ((contents_are image n page).0 e).in_range, (sound-measured image s).top_number_lem)

abbrev passes : List ℕ → ℕ → ℕ → Bool
passes image start m = leb start m && is_some (contents image m)

pub none_live : (image : List ℕ) (start : ℕ) → Sound image → lowest_live image start ≡ None → (n : ℕ) → start ≤ n → contents image n ≡ None
unfolding lowest_live
none_live image start s e n h = go (contents image n) refl
  where
    go : (o : Option (List ℕ)) → contents image n ≡ o → o ≡ None
    go None q = refl
    go (Some page) q =
        let low = live-low image s n (λ d. some_there (Some page) refl (sym q ∙ d)) in
        let f = lowest-none (passes image start) 0 (capacity (length image)) e n (omega arith) (omega (arith, low)) in
        absurd (true≢false (sym (rw (le-leb start n h, q)) ∙ f))

pub live-none : (image : List ℕ) (start : ℕ) → ((n : ℕ) → start ≤ n → n < capacity (length image) → contents image n ≡ None) → lowest_live image start ≡ None
unfolding lowest_live
live-none image start h = lowest-nothing (passes image start) 0 (capacity (length image)) (λ n a b. go n (omega (arith, b)) (dec_le start n))
  where
    go : (n : ℕ) → n < capacity (length image) → Dec (start ≤ n) → passes image start n ≡ false
    go n b (yes a) = rw (h n a b, le-leb start n a)
    go n b (no a) = rw (lt-leb start n (omega (arith, a)))

pub next_live_lem : (image : List ℕ) (start n : ℕ) → Sound image → (lowest_live image start ≡ Some n) ↔ NextLiveIs image start n
unfolding lowest_live
next_live_lem image start n s = (found, is)
  where
    between : (m : ℕ) → start ≤ m → passes image start m ≡ false → contents image m ≡ None
    between m a e = none_there (contents image m) (rw (le-leb start m a) at e)

    found : lowest_live image start ≡ Some n → NextLiveIs image start n
    found e =
        let l = lowest-some (passes image start) 0 (capacity (length image)) n e in
        record {
          not_below = leb-true start n (and-true-left (leb start n) (is_some (contents image n)) l.passes);
          is_live_lem = some_there (contents image n) (and-true-right (leb start n) (is_some (contents image n)) l.passes);
          none_between = λ m a b. between m a (l.none_below m (omega arith) b);
        }

    below : NextLiveIs image start n → (m : ℕ) → m < n → Dec (start ≤ m) → passes image start m ≡ false
    below l m b (yes a) = rw (l.none_between m a b, le-leb start m a)
    below l m b (no a) = rw (lt-leb start m (omega (arith, a)))

    is : NextLiveIs image start n → lowest_live image start ≡ Some n
    is l =
        lowest-is (passes image start) 0 (capacity (length image)) n (record {
          low = omega arith;
          high = omega (arith, live-low image s n l.is_live_lem);
          passes = rw (le-leb start n l.not_below, there-some (contents image n) l.is_live_lem);
          none_below = λ m a b. below l m b (dec_le start m);
        })

pub meanings : Meanings
meanings = record {
  refusals_mean = refusals_mean;
  sound_means = λ image. (tests-of image, tested-sound image);
  refused_not = refused_not;
  contents_are = contents_are;
  page_length = λ image n page s e. contents-length image s n page e;
  right_checksum_lem = right_checksum_lem;
  used_most = used_most;
  used_are = used_are;
  holders_are = λ image. (keep (is_holder image) (user_blocks (length image)), holders-at image);
  live_are = λ image s. live-holders image (sound-measured image s);
  next_live_lem = next_live_lem;
  same_bytes_lem = λ a b. (same-eq a b, eq-same a b);
}
