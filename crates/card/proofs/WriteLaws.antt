-- A write, row after row, and the card that it leaves. Assumes nothing.
use Prim.Native.Nat.{ℕ, ◌≤◌, ◌<◌}
use mathlib.Core.Path.{◌≡◌, sym, ◌∙◌}
use mathlib.Core.List.{List}
use mathlib.Core.Bool.{true}
use Rattle.std.specs.Prelude.{Some}
use Rattle.words.specs.Lists.{is_some}
use lib.ListN.{length, get_or, take}
use borrow.Author.Tests.{lt-ltb, le-ltb}
use Rattle.words.proofs.ListLaws.{all-at}
use Rattle.verdicts.specs.declared.Place.TheVariants.{Whole}
use Rattle.verdicts.specs.declared.Rule.TheVariants.{NoRoom}
use Rattle.verdicts.specs.declared.CardError.{CardError}
use Rattle.verdicts.specs.Rows.{done, refused_at, unless_refused, error_verdict}
use Rattle.verdicts.proofs.RowLaws.{error-refuses, error_first, passed_first}
use Rattle.card_model.specs.Layout.{table_of, directory_of}
use Rattle.card_model.specs.Calls.{verdict_of}
use Rattle.card_updates.specs.Write.{NewFile, given_file, blocks_of, free_blocks, lowest_unused, data_rows, taken_row, room_row, write_rows, write_verdict, with_file, taken_blocks, written}
use Rattle.card_updates.proofs.RoomLaws.{never_full}
use Rattle.card_directory.specs.Listed.{Listed}
use Rattle.card_updates.proofs.WriteLaws.{PassedRows, passed-rows, taken-holds}

module _ (card : List ℕ) (flag : ℕ) (name time content : List ℕ) (offset : ℕ) where
  abbrev f : NewFile
  f = given_file flag name time content

  -- a write that is refused leaves the card
  write_kept : (e : CardError) → error_verdict e ≡ write_verdict card f offset → card ≡ written card f offset
  unfolding written
  write_kept e q = rw (← q, error-refuses e)

  pub by_check : (e : CardError) → error_verdict e ≡ verdict_of card → error_verdict e ≡ write_verdict card f offset
  unfolding write_verdict
  by_check e q = sym (error_first e (verdict_of card) _ q)

  pub kept_by_check : (e : CardError) → error_verdict e ≡ verdict_of card → card ≡ written card f offset
  kept_by_check e q = write_kept e (by_check e q)

  module _ (v : done ≡ verdict_of card) where
    pub past-check : write_verdict card f offset ≡ write_rows (table_of card) (directory_of card) f offset
    unfolding write_verdict
    past-check = passed_first _ _ v

    pub by_file : (e : CardError) → error_verdict e ≡ data_rows f offset → error_verdict e ≡ write_verdict card f offset
    unfolding write_rows
    by_file e q = sym (past-check ∙ error_first e (data_rows f offset) _ q)

    pub kept_by_file : (e : CardError) → error_verdict e ≡ data_rows f offset → card ≡ written card f offset
    kept_by_file e q = write_kept e (by_file e q)

    -- s is the card that was opened
    module _ (d : done ≡ data_rows f offset) (s : List ℕ) (q : s ≡ card) where
      past-file : write_verdict card f offset ≡ unless_refused (taken_row (directory_of s) name) (room_row (table_of s) f)
      unfolding write_rows
      past-file = rw q (past-check ∙ passed_first (data_rows f offset) _ d)

      pub by_29 : (e : CardError) → error_verdict e ≡ taken_row (directory_of s) name → error_verdict e ≡ write_verdict card f offset
      by_29 e t = sym (past-file ∙ error_first e (taken_row (directory_of s) name) _ t)

      pub kept_by_29 : (e : CardError) → error_verdict e ≡ taken_row (directory_of s) name → card ≡ written card f offset
      kept_by_29 e t = write_kept e (by_29 e t)

      module _ (t : done ≡ taken_row (directory_of s) name) (free : List ℕ) (l : free ≡ free_blocks (table_of s)) (size : ℕ) (sized : blocks_of f ≡ size) where
        past_29 : write_verdict card f offset ≡ room_row (table_of s) f
        past_29 = past-file ∙ passed_first (taken_row (directory_of s) name) _ t

        pub by_34 : length free < size → refused_at 34 Whole ≡ write_verdict card f offset
        unfolding room_row
        by_34 h = rw (past_29, ← l, sized, lt-ltb (length free) size h)

        pub kept_by_34 : length free < size → card ≡ written card f offset
        kept_by_34 h = write_kept (record { rule = NoRoom; place = Whole }) (by_34 h)

        -- where there is room, the file takes the first of the free blocks
        module _ (room : size ≤ length free) where
          pub write_done : done ≡ write_verdict card f offset
          unfolding room_row
          write_done = rw (past_29, ← l, sized, le-ltb (length free) size room)

          pub passed : PassedRows card f offset
          passed = passed-rows card f offset (sym write_done)

          pub taken-are : take size free ≡ taken_blocks card f
          unfolding taken_blocks
          taken-are = rw (l, q, sized)

          pub in_user : (j : ℕ) → j < length (take size free) → get_or (take size free) j 0 < 200
          in_user = rw taken-are (λ j h. all-at (λ b. b < 200) (taken_blocks card f) j (taken-holds card f offset passed).low h 0)

          -- i is the lowest unused entry of any directory that has the list
          pub lowest : {used : List ℕ} {i : ℕ} → Listed (directory_of s) 208 used (length used)
              → ((directory : List (List ℕ)) → Listed directory 208 used (length used) → is_some (lowest_unused directory) ≡ true → lowest_unused directory ≡ Some i)
              → lowest_unused (directory_of card) ≡ Some i
          lowest u h = h (directory_of card) (rw (← q) u) (never_full card passed.is_sound)

          pub wrote : {i : ℕ} → lowest_unused (directory_of card) ≡ Some i → {after : List ℕ} → after ≡ with_file card 0x33 f offset (take size free) i → after ≡ written card f offset
          unfolding written
          wrote u a = a ∙ rw (taken-are, ← write_done, u)

pub ruleset writes = (by_check, kept_by_check, by_file, kept_by_file, by_29, kept_by_29, by_34, kept_by_34, write_done)
