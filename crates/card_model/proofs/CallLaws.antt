-- What the calls answer on a refused card, and what a check answers on a sound one. Assumes nothing.
use Prim.Native.Nat.{ℕ}
use mathlib.Core.Path.{◌≡◌}
use mathlib.Core.List.{List}
use mathlib.Core.Logic.{◌≢◌}
use borrow.Author.Tests.{ne_eqb}
use Rattle.verdicts.specs.Rows.{Verdict}
use Rattle.verdicts.specs.Rows.{done}
use Rattle.card_model.specs.Layout.{table_of, directory_of}
use Rattle.card_model.specs.Files as files
use Rattle.card_model.specs.Calls.{verdict_of, check_of, list_of, read_verdict, read_buffer}
use Rattle.card_model.specs.Sound.{SoundCard}
use Rattle.card_model.specs.Theorems.{Refused, RefusedCalls}
use Rattle.card_model.proofs.RefusalLaws.{refused_exactly}

refused-calls : (card : List ℕ) (v : Verdict) → verdict_of card ≡ v → v.number ≢ 0 → RefusedCalls card v
unfolding check_of list_of read_verdict read_buffer
refused-calls card v e n =
    let z = ne_eqb v.number 0 n in
    record {
      checked = rw (e, z);
      listed = λ start. rw (e, z);
      read = λ name index buffer. rw (e, z);
      unread = λ name index buffer. rw (e, z, z);
    }

pub refused_everywhere : (card : List ℕ) (v : Verdict) → Refused card v → RefusedCalls card v
refused_everywhere card v r =
    let h = (refused_exactly card v).1 r in
    refused-calls card v h.0 h.1

pub checks : (card : List ℕ) → SoundCard card → check_of card ≡ record { verdict = done; orphans = files.orphans (table_of card) (directory_of card) }
unfolding check_of
checks card s = rw s
