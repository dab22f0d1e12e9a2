-- Runs of calls on one image: document 01, "Runs of calls and the page book". The set of owned numbers is document 01's
-- "ours".
-- Assumes nothing.
use Rattle.std.specs.Prelude.{ℕ, ◌≡◌, Bool, true, false, not, cond, ◌&&◌, ◌||◌, List, [], ◌∷◌, ◌++◌, map, ◌⊎◌, leb}
use Rattle.words.specs.Lists.{keep, any_of}
use Rattle.flash_model.specs.Slots.{slot_number, data_number}
use Rattle.flash_model.specs.Calls.{PageCall, Call, Reply, accepted, after_page, calls_made, reply_to, Answered}
use Rattle.flash_model.specs.Calls.{PageCall.read, PageCall.save, PageCall.slot_read, PageCall.slot_save, Call.on_page, Call.on_whole, Call.on_pages}

-- A call made, the answer it gave, and the image it left.
pub record Step : Type 0 where
  pub made : Call
  pub answer : Reply
  pub image' : List ℕ

-- "Each call gets the whole image as the last one left it."
abbrev pub Chain : List ℕ → List Step → Type 0
Chain image [] = Unit {0}
Chain image (s ∷ steps) = Answered image s.made s.image' s.answer × Chain s.image' steps

-- The image at the end.
abbrev pub final : List ℕ → List Step → List ℕ
final image [] = image
final image (s ∷ steps) = final s.image' steps

-- ---- what a step counts as

-- A page call and the answer that it got.
pub record PageStep : Type 0 where
  pub call : PageCall
  pub answer : Reply

-- The page calls that a call counts as, from the image that it is made on. A call that looks at the whole partition counts
-- as none; a claim "counts, in each run, as saves to the blocks it writes there, with what stands there as last seen".
abbrev pub counts_as : List ℕ → Call → List PageCall
counts_as image (on_page p) = p ∷ []
counts_as image (on_whole w) = []
counts_as image (on_pages c) = cond (accepted image (on_pages c)) (calls_made image c) []

-- Page calls one after the other, with the answers that they get.
abbrev pub answered_pages : List ℕ → List PageCall → List PageStep
answered_pages image [] = []
answered_pages image (p ∷ ps) = record { call = p; answer = reply_to image (on_page p) } ∷ answered_pages (after_page image p) ps

-- What a call counts as, with answers: a page call's is its own.
abbrev pub page_steps : List ℕ → Call → Reply → List PageStep
page_steps image (on_page p) answer = record { call = p; answer = answer } ∷ []
page_steps image (on_whole w) answer = []
page_steps image (on_pages c) answer = answered_pages image (counts_as image (on_pages c))

-- ---- calls on owned numbers

-- Both header blocks of the slot are owned.
abbrev pub owns_header : (ℕ → Bool) → ℕ → Bool
owns_header owned slot = owned (slot_number slot 0) && owned (slot_number slot 1)

-- With a slot above 99 or a block above 1 a slot call names no data block.
abbrev pub names_data : ℕ → ℕ → Bool
names_data slot block = leb slot 99 && leb block 1

-- "a slot call on our block may stand in a list only where both its header blocks are ours"
abbrev pub page_stands : (ℕ → Bool) → PageCall → Bool
page_stands owned (read partition n buffer) = true
page_stands owned (save partition n expected page) = true
page_stands owned (slot_read partition slot block buffer) = not (names_data slot block && owned (data_number slot block)) || owns_header owned slot
page_stands owned (slot_save partition slot block expected page) = not (names_data slot block && owned (data_number slot block)) || owns_header owned slot

-- "A call is on ours when it is a read or a save whose logical number is in the set"; one of a slot where its
-- header blocks are, and the data block that it names.
abbrev pub on_owned : (ℕ → Bool) → PageCall → Bool
on_owned owned (read partition n buffer) = owned n
on_owned owned (save partition n expected page) = owned n
on_owned owned (slot_read partition slot block buffer) = owns_header owned slot && (not (names_data slot block) || owned (data_number slot block))
on_owned owned (slot_save partition slot block expected page) = owns_header owned slot && (not (names_data slot block) || owned (data_number slot block))

-- The calls that may not stand between: saves. A slot save that names no data block is always refused, and may.
abbrev pub is_save : PageCall → Bool
is_save (read partition n buffer) = false
is_save (save partition n expected page) = true
is_save (slot_read partition slot block buffer) = false
is_save (slot_save partition slot block expected page) = names_data slot block

-- The calls on owned numbers that a step counts as, and those of a run, in order.
abbrev pub owned_of : (ℕ → Bool) → List ℕ → Step → List PageStep
owned_of owned image s = keep (λ x. on_owned owned x.call) (page_steps image s.made s.answer)

abbrev pub owned_steps : (ℕ → Bool) → List ℕ → List Step → List PageStep
owned_steps owned image [] = []
owned_steps owned image (s ∷ steps) = owned_of owned image s ++ owned_steps owned s.image' steps

abbrev pub calls_of : List PageStep → List PageCall
calls_of = map (λ x. x.call)

abbrev pub answers_of : List PageStep → List Reply
answers_of = map (λ x. x.answer)

-- A call may stand in a run: every one but such a slot call.
abbrev pub call_stands : (ℕ → Bool) → Call → Bool
call_stands owned (on_page p) = page_stands owned p
call_stands owned (on_whole w) = true
call_stands owned (on_pages c) = true

-- Every call of the run may stand in it.
abbrev pub MayStand : (ℕ → Bool) → List Step → Type 0
MayStand owned [] = Unit {0}
MayStand owned (s ∷ steps) = (call_stands owned s.made ≡ true) × MayStand owned steps

-- ---- two runs

-- A step of one of two runs: one whose calls on owned numbers are made in both, or one that stands between in this one.
pub data Item : Type 0 where
  both : Step → Item
  between : Step → Item

abbrev pub step_of : Item → Step
step_of (both s) = s
step_of (between s) = s

abbrev pub steps_of : List Item → List Step
steps_of [] = []
steps_of (x ∷ items) = step_of x ∷ steps_of items

-- The calls on owned numbers that are made in both.
abbrev pub steps_in_both : (ℕ → Bool) → List ℕ → List Item → List PageStep
steps_in_both owned image [] = []
steps_in_both owned image (both s ∷ items) = owned_of owned image s ++ steps_in_both owned s.image' items
steps_in_both owned image (between s ∷ items) = steps_in_both owned s.image' items

-- A step between counts as no save of an owned number, whether accepted or not (it may read one).
abbrev pub WellMarkedItem : (ℕ → Bool) → List ℕ → Item → Type 0
WellMarkedItem owned image (both s) = Unit {0}
WellMarkedItem owned image (between s) = any_of is_save (calls_of (owned_of owned image s)) ≡ false

abbrev pub WellMarked : (ℕ → Bool) → List ℕ → List Item → Type 0
WellMarked owned image [] = Unit {0}
WellMarked owned image (x ∷ items) = WellMarkedItem owned image x × WellMarked owned (step_of x).image' items

-- Two saves of one page to one number, done in both runs, each with what it last saw: two claims, say, that write the same blocks.
pub record DoneBoth (x y : PageStep) : Type 0 where
  pub partition : ℕ
  pub number : ℕ
  pub page : List ℕ
  pub seen_in_one : List ℕ
  pub seen_in_other : List ℕ
  pub one_is : x.call ≡ save partition number seen_in_one page
  pub other_is : y.call ≡ save partition number seen_in_other page
  pub one_done : x.answer.code ≡ 0
  pub other_done : y.answer.code ≡ 0

-- Step by step the same calls, or such saves.
abbrev pub SameButSeen : List PageStep → List PageStep → Type 0
SameButSeen [] [] = Unit {0}
SameButSeen [] (y ∷ ys) = ⊥
SameButSeen (x ∷ xs) [] = ⊥
SameButSeen (x ∷ xs) (y ∷ ys) = ((x.call ≡ y.call) ⊎ DoneBoth x y) × SameButSeen xs ys
