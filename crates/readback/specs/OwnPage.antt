-- A save that a writer makes knowing what is there, and what it finds after others have called. Assumes nothing.
use Rattle.std.specs.Prelude.{ℕ, ◌≤◌, ◌≡◌, List, length}
use Rattle.std.specs.Prelude.{Some}
use Rattle.flash_model.specs.Measures.{top_number}
use Rattle.flash_model.specs.Partition.{header_number, Sound, contents}
use Rattle.flash_model.specs.Calls.{after, Call.on_page, Call.on_whole, PageCall.save, WholeCall.erase}
use Rattle.flash_model.specs.PageStore.{expected_page}

-- On a sound partition, of a legal number, with whole pages.
pub record OwnSave (image : List ℕ) (partition n : ℕ) (expected page back : List ℕ) : Type 0 where
  pub is_sound : Sound image
  pub names_it : partition ≡ header_number image
  pub is_legal : n ≤ top_number (length image)
  pub up_to_date : expected_page expected ≡ contents image n
  pub page_60 : length page ≡ 60
  pub back_60 : length back ≡ 60

-- The page was read back, and it stands in the image, which is a sound partition of the same length and number.
pub record OwnPageBack (image : List ℕ) (n : ℕ) (page image' : List ℕ) (code : ℕ) (back' : List ℕ) : Type 0 where
  pub is_read : code ≡ 0
  pub is_own : back' ≡ page
  pub is_there : contents image' n ≡ Some page
  pub ends_sound : Sound image'
  pub same_length : length image' ≡ length image
  pub same_number : header_number image' ≡ header_number image

-- The image before the last read, whatever is refused: of the calls made, two saves and an erase can change it.
unfoldable pub image_before : List ℕ → ℕ → ℕ → List ℕ → List ℕ → ℕ → List ℕ → List ℕ
image_before image partition n expected page other others =
    after (after (after image (on_page (save partition n expected page))) (on_page (save partition other page others))) (on_whole (erase partition))
