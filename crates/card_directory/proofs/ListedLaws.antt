-- The list of the used entries: how it grows, and what a walk along it finds. Assumes nothing.
use Prim.Native.Nat.{ℕ, zero, suc, ◌+◌, ◌-◌, ◌≤◌, ◌<◌}
use mathlib.Core.Path.{◌≡◌, refl, sym, ap, ◌∙◌}
use mathlib.Core.Bool.{Bool, true, false, cond, true≢false}
use mathlib.Core.List.{List, [], ◌∷◌, ◌++◌}
use Rattle.std.specs.Prelude.{Option, None, Some}
use native.Mathlib.Omega.{arith}
use native.Mathlib.Decide.{ℕ_discrete}
use native.Mathlib.Numerals.{add-one}
use lib.Dec.{leb, ltb}
use lib.ListN.{length, get_or, drop, length-append, get_or-append, drop_of_length-le}
use lib.Seq.{drop-cons, get_or-append-add}
use borrow.Author.Tests.{ltb-true, ltb-false, leb-true, leb-false}
use Rattle.std.specs.List.{find}
use Rattle.words.specs.Search.{lowest}
use Rattle.words.proofs.SearchLaws.{lowest-is, lowest-nothing}
use Rattle.words.proofs.LoopLaws.{lowest-here, lowest-next, lowest-end}
use Rattle.card_model.specs.Entries.{is_used, entry_at}
use Rattle.card_model.specs.Calls.{first_used}
use Rattle.card_directory.specs.Listed.{NextUsed, reached, Listed}

pub reached-next : (used : List ℕ) (j i : ℕ) → i ≡ get_or used j 0 → i + 1 ≡ reached used (j + 1)
reached-next used j i e = rw (add-one j, add-one i, e)

-- a number behind the list leaves those in front of it
before-pushed : (used : List ℕ) (x j : ℕ) → j < length used → get_or (used ++ x ∷ []) j 0 ≡ get_or used j 0
before-pushed used x j h = get_or-append used (x ∷ []) 0 j h

pushed : (used : List ℕ) (x : ℕ) → get_or (used ++ x ∷ []) (length used) 0 ≡ x
pushed used x = let e : length used ≡ length used + 0 = omega arith in ap (λ (n : ℕ). get_or (used ++ x ∷ []) n 0) e ∙ get_or-append-add used (x ∷ []) 0 0

reached-pushed : (used : List ℕ) (x j : ℕ) → j ≤ length used → reached (used ++ x ∷ []) j ≡ reached used j
reached-pushed used x zero h = refl
reached-pushed used x (suc j) h = ap suc (before-pushed used x j h)

module _ (directory : List (List ℕ)) where
  later : {start i end n : ℕ} → i ≤ end → NextUsed directory start i n → NextUsed directory start end n
  later h u = record { from_start = u.from_start; before_end = omega (arith, u.before_end); is_used_lem = u.is_used_lem; skipped = u.skipped }

  pub listed_start : (used : List ℕ) → Listed directory 0 used 0
  listed_start used = record { long = omega arith; fits = omega arith; each = λ j h. absurd (omega arith); rest = λ k a b. absurd (omega arith) }

  -- ---- one entry more

  reached-before : (i : ℕ) {used : List ℕ} {count : ℕ} → Listed directory i used count → reached used count ≤ i
  reached-before i {used} {count} l = go count refl
    where
      go : (n : ℕ) → n ≡ count → reached used n ≤ i
      go zero e = omega arith
      go (suc j) e = omega (arith, (l.each j (omega arith)).before_end)

  module _ (i : ℕ) {used : List ℕ} (l : Listed directory i used (length used)) where
    unused-next : is_used (entry_at directory i) ≡ false → Listed directory (i + 1) used (length used)
    unused-next u = record {
      long = l.long;
      fits = omega (arith, l.fits);
      each = λ j h. later (omega arith) (l.each j h);
      rest = λ k a b. go k a b (ℕ_discrete k i);
    }
      where
        go : (k : ℕ) → reached used (length used) ≤ k → k < i + 1 → Dec (k ≡ i) → is_used (entry_at directory k) ≡ false
        go k a b (yes d) = ap (λ (n : ℕ). is_used (entry_at directory n)) d ∙ u
        go k a b (no d) = l.rest k a (omega (arith, d))

    used-next : is_used (entry_at directory i) ≡ true → Listed directory (i + 1) (used ++ i ∷ []) (length used + 1)
    used-next u = record {
      long = omega (arith, length-append used (i ∷ []));
      fits = omega (arith, l.fits);
      each = λ j h. go j h (ℕ_discrete j (length used));
      rest = rw (add-one (length used), pushed used i) (λ k a c. absurd (omega arith));
    }
      where
        go : (j : ℕ) → j < length used + 1 → Dec (j ≡ length used) → NextUsed directory (reached (used ++ i ∷ []) j) (i + 1) (get_or (used ++ i ∷ []) j 0)
        go j h (yes d) =
            rw (d, pushed used i, reached-pushed used i (length used) (omega arith))
            (record { from_start = reached-before i l; before_end = omega arith; is_used_lem = u; skipped = l.rest })
        go j h (no d) =
            rw (before-pushed used i j (omega (arith, d)), reached-pushed used i j (omega arith)) (later (omega arith) (l.each j (omega (arith, d))))

    pub listed_pushed : (t : Bool) → is_used (entry_at directory i) ≡ t → Listed directory (i + 1) (cond t (used ++ i ∷ []) used) (length (cond t (used ++ i ∷ []) used))
    listed_pushed true u = rw (length-append used (i ∷ [])) (used-next u)
    listed_pushed false u = unused-next u

-- a number of the list
pub listed_below : {directory : List (List ℕ)} {used : List ℕ} {count : ℕ} → Listed directory 208 used count → (j i : ℕ) → i ≡ get_or used j 0 → j < count → i < 208
listed_below l j i e h = rw e (l.each j h).before_end

pub listed-used : {directory : List (List ℕ)} {used : List ℕ} {count : ℕ} → Listed directory 208 used count → (j i : ℕ) → i ≡ get_or used j 0 → j < count
    → is_used (entry_at directory i) ≡ true
listed-used l j i e h = rw e (l.each j h).is_used_lem

-- where an entry is in the first n numbers of the list
pub record Indexed (used : List ℕ) (n i : ℕ) : Type 0 where
  pub index : ℕ
  pub low : index < n
  pub is : i ≡ get_or used index 0

module _ {directory : List (List ℕ)} {used : List ℕ} {count : ℕ} (l : Listed directory 208 used count) where
  pub listed-index : (n : ℕ) → n ≤ count → (i : ℕ) → i < reached used n → is_used (entry_at directory i) ≡ true → Indexed used n i
  listed-index zero h i b u = absurd (omega arith)
  listed-index (suc n) h i b u = go (λ q. listed-index n (omega arith) i q u) (ℕ_discrete i (get_or used n 0)) (ltb i (reached used n)) refl
    where
      go : (i < reached used n → Indexed used n i) → Dec (i ≡ get_or used n 0) → (t : Bool) → ltb i (reached used n) ≡ t → Indexed used (suc n) i
      go before (yes d) t q = record { index = n; low = omega arith; is = d }
      go before (no d) true q =
          let x = before (ltb-true _ _ q) in
          record { index = x.index; low = omega (arith, x.low); is = x.is }
      go before (no d) false q = absurd (true≢false (sym u ∙ (l.each n (omega arith)).skipped i (ltb-false _ _ q) (omega (arith, d))))

  pub listed-rises : (n : ℕ) → n ≤ count → (k : ℕ) → k < n → get_or used k 0 < reached used n
  listed-rises zero h k b = absurd (omega arith)
  listed-rises (suc n) h k b = go (λ q. listed-rises n (omega arith) k q) (ℕ_discrete k n)
    where
      go : (k < n → get_or used k 0 < reached used n) → Dec (k ≡ n) → get_or used k 0 < suc (get_or used n 0)
      go before (yes d) = rw d (omega arith)
      go before (no d) =
          let x = before (omega (arith, d)) in
          omega (arith, x, (l.each n (omega arith)).from_start)

  -- where the first j numbers are before `start`, the next one is the first used entry from there if it is not, too
  module _ (start j : ℕ) (before : reached used j ≤ start) where
    pub first-listed : (i : ℕ) → i ≡ get_or used j 0 → j < count → start ≤ i → first_used directory start ≡ Some i
    unfolding first_used
    first-listed i e h s =
        let u : NextUsed directory (reached used j) 208 i = rw e (l.each j h) in
        lowest-is (λ k. is_used (entry_at directory k)) start (208 - start) i
        (record { low = s; high = omega (arith, u.before_end); passes = u.is_used_lem; none_below = λ k a b. u.skipped k (omega arith) b })

    pub none-listed : j ≡ count → first_used directory start ≡ None
    unfolding first_used
    none-listed z = lowest-nothing (λ k. is_used (entry_at directory k)) start (208 - start) (λ k a b. l.rest k (rw (← z) (omega arith)) (omega arith))

-- ---- what no unused entry changes is the same where a walk has come to and at the next entry of the list, or at the end

module _ {A : Type 0} (directory : List (List ℕ)) (f : ℕ → A) (same : (k : ℕ) → is_used (entry_at directory k) ≡ false → f (suc k) ≡ f k) where
  stretch : (a n : ℕ) → ((k : ℕ) → a ≤ k → k < a + n → is_used (entry_at directory k) ≡ false) → f a ≡ f (a + n)
  stretch a zero u =
      let e : a ≡ a + 0 = omega arith in
      ap f e
  stretch a (suc n) u =
      let e : suc (a + n) ≡ a + suc n = omega arith in
      stretch a n (λ k b c. u k b (omega arith)) ∙ sym (same (a + n) (u (a + n) (omega arith) (omega arith))) ∙ ap f e

  between : (a b : ℕ) → a ≤ b → ((k : ℕ) → a ≤ k → k < b → is_used (entry_at directory k) ≡ false) → f a ≡ f b
  between a b h u =
      let e : a + (b - a) ≡ b = omega arith in
      stretch a (b - a) (λ k c d. u k c (omega (arith, e))) ∙ ap f e

  module _ {used : List ℕ} {count : ℕ} (l : Listed directory 208 used count) (j : ℕ) where
    pub stays : (i : ℕ) → i ≡ get_or used j 0 → j < count → f (reached used j) ≡ f i
    stays i e h =
        let u : NextUsed directory (reached used j) 208 i = rw e (l.each j h) in
        between (reached used j) i u.from_start u.skipped

    pub stays-to-end : j ≡ count → f (reached used j) ≡ f 208
    stays-to-end z = rw z (between (reached used count) 208 (reached-before directory 208 l) l.rest)

-- ---- searches for what no unused entry is

-- the first entry from `start` on that passes
unfoldable pub first_from : (ℕ → Bool) → ℕ → Option ℕ
first_from p start = lowest p start (208 - start)

first-same : (p : ℕ → Bool) (k : ℕ) → p k ≡ false → first_from p (suc k) ≡ first_from p k
unfolding first_from
first-same p k q = go (ltb k 208) refl
  where
    go : (t : Bool) → ltb k 208 ≡ t → lowest p (suc k) (208 - suc k) ≡ lowest p k (208 - k)
    go true b = rw (← add-one k) (sym (lowest-next p k 208 (ltb-true k 208 b) q))
    go false b =
        let h = ltb-false k 208 b in
        lowest-end p (suc k) 208 (omega arith) ∙ sym (lowest-end p k 208 h)

module _ (directory : List (List ℕ)) (p : ℕ → Bool) (unused : (i : ℕ) → is_used (entry_at directory i) ≡ false → p i ≡ false)
    {used : List ℕ} {count : ℕ} (l : Listed directory 208 used count) where
  -- the walk along the list is at its number j, which is i
  module _ (j i : ℕ) (e : i ≡ get_or used j 0) (h : j < count) where
    from-here : first_from p (reached used j) ≡ first_from p i
    from-here = stays directory (first_from p) (λ k u. first-same p k (unused k u)) l j i e h

    pub found_here : p i ≡ true → first_from p (reached used j) ≡ Some i
    unfolding first_from
    found_here q = from-here ∙ lowest-here p i 208 (listed_below l j i e h) q

    pub found-later : p i ≡ false → first_from p (reached used j) ≡ first_from p (reached used (j + 1))
    found-later q = from-here ∙ sym (first-same p i q) ∙ ap (first_from p) (sym (add-one i) ∙ reached-next used j i e)

  pub found_none : (j : ℕ) → j ≡ count → first_from p (reached used j) ≡ None
  unfolding first_from
  found_none j z = stays-to-end directory (first_from p) (λ k u. first-same p k (unused k u)) l j z

-- ---- what a search along the list finds

pub find-end : (p : ℕ → Bool) (used : List ℕ) (n : ℕ) → length used ≤ n → find p (drop n used) ≡ None
find-end p used n h = rw (drop_of_length-le used h)

pub find-next : (p : ℕ → Bool) (used : List ℕ) (n : ℕ) → n < length used
    → find p (drop n used) ≡ cond (p (get_or used n 0)) (Some (get_or used n 0)) (find p (drop (n + 1) used))
find-next p used n h = rw (add-one n, drop-cons used n 0 h)

module _ {directory : List (List ℕ)} {used : List ℕ} (l : Listed directory 208 used (length used)) where
  -- for what no unused entry is
  module _ (p q : ℕ → Bool) (unused : (i : ℕ) → is_used (entry_at directory i) ≡ false → p i ≡ false)
      (same : (i : ℕ) → is_used (entry_at directory i) ≡ true → q i ≡ p i) where
    found-from : (k n : ℕ) → n + k ≡ length used → find q (drop n used) ≡ first_from p (reached used n)
    found-from zero n e = find-end q used n (omega arith) ∙ sym (found_none directory p unused l n (omega arith))
    found-from (suc k) n e =
        let h : n < length used = omega arith in
        find-next q used n h ∙ go (get_or used n 0) refl h (l.each n h).is_used_lem (found-from k (n + 1) (omega arith)) (p (get_or used n 0)) refl
      where
        go : (i : ℕ) → i ≡ get_or used n 0 → n < length used → is_used (entry_at directory i) ≡ true → find q (drop (n + 1) used) ≡ first_from p (reached used (n + 1))
            → (t : Bool) → p i ≡ t → cond (q i) (Some i) (find q (drop (n + 1) used)) ≡ first_from p (reached used n)
        go i d h u ih true t = rw (same i u, t) (sym (found_here directory p unused l n i d h t))
        go i d h u ih false t = rw (same i u, t) (ih ∙ sym (found-later directory p unused l n i d h t))

    pub found-listed : find q used ≡ first_from p 0
    found-listed = found-from (length used) 0 (omega arith)

  -- for a number from `start` on
  module _ (start : ℕ) where
    first-from : (k n : ℕ) → n + k ≡ length used → reached used n ≤ start → find (leb start) (drop n used) ≡ first_used directory start
    first-from zero n e b = find-end (leb start) used n (omega arith) ∙ sym (none-listed l start n b (omega arith))
    first-from (suc k) n e b =
        let h : n < length used = omega arith in
        find-next (leb start) used n h ∙ go (get_or used n 0) refl h (first-from k (n + 1) (omega arith)) (leb start (get_or used n 0)) refl
      where
        go : (i : ℕ) → i ≡ get_or used n 0 → n < length used → (reached used (n + 1) ≤ start → find (leb start) (drop (n + 1) used) ≡ first_used directory start)
            → (t : Bool) → leb start i ≡ t → cond t (Some i) (find (leb start) (drop (n + 1) used)) ≡ first_used directory start
        go i d h ih true t = sym (first-listed l start n b i d h (leb-true start i t))
        go i d h ih false t =
            let low : i < start = leb-false start i t in
            ih (rw (← reached-next used n i d) (omega arith))

    pub first-found : find (leb start) used ≡ first_used directory start
    first-found = first-from (length used) 0 (omega arith) (omega arith)
