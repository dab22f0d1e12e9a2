-- What the premises of demand 3 on runs of calls mean, in plain logic: which calls may stand in a run, which are on owned numbers, what a
-- step counts as, and what may stand between the calls that two runs share.
-- Assumes nothing.
use Rattle.std.specs.Prelude.{ℕ, ◌+◌, ◌*◌, ◌≤◌, ◌≡◌, Bool, true, false, List, [], ◌∷◌, ◌++◌, ◌↔◌, ◌⊎◌}
use Rattle.words.specs.Lists.{keep}
use Rattle.flash_model.specs.Calls.{PageCall, WholeCall, CompoundCall, Reply}
use Rattle.flash_model.specs.Calls.{PageCall.read, PageCall.save, PageCall.slot_read, PageCall.slot_save, Call.on_page, Call.on_whole, Call.on_pages}
use Rattle.flash_model.specs.Runs.{Step, PageStep, counts_as, on_owned, is_save, owned_of, owned_steps, calls_of, call_stands, MayStand, Item, Item.both, Item.between, steps_of, steps_in_both, WellMarked, SameButSeen}

-- What the premises on runs mean. The header blocks of a slot are 24 and 25 + 4 * slot, its data blocks 26 and 27 + 4 * slot.
abbrev pub HeaderOwned : (ℕ → Bool) → ℕ → Type 0
HeaderOwned owned slot = (owned (24 + 4 * slot) ≡ true) × (owned (25 + 4 * slot) ≡ true)

-- "a slot call on our block may stand in a list only where both its header blocks are ours"
abbrev pub SlotMayStand : (ℕ → Bool) → ℕ → ℕ → Type 0
SlotMayStand owned slot block = slot ≤ 99 → block ≤ 1 → owned (26 + 4 * slot + block) ≡ true → HeaderOwned owned slot

-- A slot call is on owned numbers where its header blocks are, and the data block that it names.
abbrev pub SlotOwned : (ℕ → Bool) → ℕ → ℕ → Type 0
SlotOwned owned slot block = HeaderOwned owned slot × (slot ≤ 99 → block ≤ 1 → owned (26 + 4 * slot + block) ≡ true)

-- The call is one of these.
abbrev pub OneOf : PageCall → List PageCall → Type 0
OneOf p [] = ⊥
OneOf p (q ∷ qs) = (p ≡ q) ⊎ OneOf p qs

pub record PremisesMean (owned : ℕ → Bool) : Type 0 where
  -- every call may stand in a run but a slot read or save on an owned block whose header blocks are not both owned
  pub none_stand : MayStand owned []
  pub more_stand : (s : Step) (steps : List Step) → call_stands owned s.made ≡ true → MayStand owned steps → MayStand owned (s ∷ steps)
  pub read_stands : (partition n : ℕ) (buffer : List ℕ) → call_stands owned (on_page (read partition n buffer)) ≡ true
  pub save_stands : (partition n : ℕ) (expected page : List ℕ) → call_stands owned (on_page (save partition n expected page)) ≡ true
  pub slot_read_stands : (partition slot block : ℕ) (buffer : List ℕ)
      → (call_stands owned (on_page (slot_read partition slot block buffer)) ≡ true) ↔ SlotMayStand owned slot block
  pub slot_save_stands : (partition slot block : ℕ) (expected page : List ℕ)
      → (call_stands owned (on_page (slot_save partition slot block expected page)) ≡ true) ↔ SlotMayStand owned slot block
  pub whole_stands : (w : WholeCall) → call_stands owned (on_whole w) ≡ true
  pub compound_stands : (c : CompoundCall) → call_stands owned (on_pages c) ≡ true
  -- "A call is on ours when it is a read or a save whose logical number is in the set"
  pub read_owned : (partition n : ℕ) (buffer : List ℕ) → (on_owned owned (read partition n buffer) ≡ true) ↔ (owned n ≡ true)
  pub save_owned : (partition n : ℕ) (expected page : List ℕ) → (on_owned owned (save partition n expected page) ≡ true) ↔ (owned n ≡ true)
  pub slot_read_owned : (partition slot block : ℕ) (buffer : List ℕ)
      → (on_owned owned (slot_read partition slot block buffer) ≡ true) ↔ SlotOwned owned slot block
  pub slot_save_owned : (partition slot block : ℕ) (expected page : List ℕ)
      → (on_owned owned (slot_save partition slot block expected page) ≡ true) ↔ SlotOwned owned slot block
  -- what may not stand between: saves, those of a slot where they name a data block
  pub read_between : (partition n : ℕ) (buffer : List ℕ) → is_save (read partition n buffer) ≡ false
  pub slot_read_between : (partition slot block : ℕ) (buffer : List ℕ) → is_save (slot_read partition slot block buffer) ≡ false
  pub save_not_between : (partition n : ℕ) (expected page : List ℕ) → is_save (save partition n expected page) ≡ true
  pub slot_save_not_between : (partition slot block : ℕ) (expected page : List ℕ)
      → (is_save (slot_save partition slot block expected page) ≡ true) ↔ ((slot ≤ 99) × (block ≤ 1))
  -- what a step counts as: a page call itself, a call on the whole partition nothing ("find and list count as listings"), a claim its
  -- saves (`ClaimCounts`); of these the calls on owned numbers, a page call with the answer that it got, done or refused
  pub page_itself : (image : List ℕ) (p : PageCall) → counts_as image (on_page p) ≡ p ∷ []
  pub whole_nothing : (image : List ℕ) (w : WholeCall) → counts_as image (on_whole w) ≡ []
  pub step_counts : (image : List ℕ) (s : Step) → calls_of (owned_of owned image s) ≡ keep (on_owned owned) (counts_as image s.made)
  pub page_counts : (image : List ℕ) (p : PageCall) (answer : Reply) (image' : List ℕ) → on_owned owned p ≡ true
      → owned_of owned image (record { made = on_page p; answer = answer; image' = image' }) ≡ record { call = p; answer = answer } ∷ []
  -- a run's, and those made in both of two runs, step by step
  pub no_counts : (image : List ℕ) → owned_steps owned image [] ≡ []
  pub more_counts : (image : List ℕ) (s : Step) (steps : List Step) → owned_steps owned image (s ∷ steps) ≡ owned_of owned image s ++ owned_steps owned s.image' steps
  pub no_items : steps_of [] ≡ []
  pub both_item : (s : Step) (items : List Item) → steps_of (both s ∷ items) ≡ s ∷ steps_of items
  pub between_item : (s : Step) (items : List Item) → steps_of (between s ∷ items) ≡ s ∷ steps_of items
  pub none_in_both : (image : List ℕ) → steps_in_both owned image [] ≡ []
  pub more_in_both : (image : List ℕ) (s : Step) (items : List Item) → steps_in_both owned image (both s ∷ items) ≡ owned_of owned image s ++ steps_in_both owned s.image' items
  pub not_in_both : (image : List ℕ) (s : Step) (items : List Item) → steps_in_both owned image (between s ∷ items) ≡ steps_in_both owned s.image' items
  -- any step may be marked as made in both; between may stand every step that counts as no save of an owned number
  pub none_marked : (image : List ℕ) → WellMarked owned image []
  pub both_marked : (image : List ℕ) (s : Step) (items : List Item) → WellMarked owned s.image' items → WellMarked owned image (both s ∷ items)
  pub between_marked : (image : List ℕ) (s : Step) (items : List Item) → ((p : PageCall) → is_save p ≡ true → OneOf p (calls_of (owned_of owned image s)) → ⊥)
      → WellMarked owned s.image' items → WellMarked owned image (between s ∷ items)
  -- calls alike
  pub none_alike : SameButSeen [] []
  pub same_alike : (x y : PageStep) (xs ys : List PageStep) → x.call ≡ y.call → SameButSeen xs ys → SameButSeen (x ∷ xs) (y ∷ ys)
  pub done_alike : (x y : PageStep) (xs ys : List PageStep) (partition n : ℕ) (seen other page : List ℕ)
      → x.call ≡ save partition n seen page → y.call ≡ save partition n other page → x.answer.code ≡ 0 → y.answer.code ≡ 0
      → SameButSeen xs ys → SameButSeen (x ∷ xs) (y ∷ ys)
