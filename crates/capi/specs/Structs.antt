-- What C receives of an answer, field by field: numbers, with 0 for whatever a refusal doesn't give.
-- Assumes nothing.
use Rattle.std.specs.Prelude.{ℕ, get_or}
use Rattle.verdicts.specs.declared.Place.{Place}
use Rattle.verdicts.specs.declared.Place.TheVariants.{Whole, Block, Entry}
use Rattle.verdicts.specs.Rows.{Verdict}
use Rattle.verdicts.specs.Rows.{place_number}
use Rattle.flash_model.specs.Calls.{Reply}
use Rattle.card_model.specs.Answers.{Checked}
use Rattle.card_model.specs.declared.CopyProtection.{CopyProtection}
use Rattle.card_model.specs.declared.CopyProtection.TheVariants.{Protected, Copyable}
use Rattle.card_model.specs.Answers.{Listing}
use Rattle.capi.specs.declared.answers.ReportAnswer.{ReportAnswer}
use Rattle.capi.specs.declared.answers.NextLiveAnswer.{NextLiveAnswer}
use Rattle.capi.specs.declared.answers.SlotAnswer.{SlotAnswer}
use Rattle.capi.specs.declared.answers.CardCheckAnswer.{CardCheckAnswer}
use Rattle.capi.specs.declared.answers.CardEntryAnswer.{CardEntryAnswer}
use Rattle.capi.specs.declared.answers.CardVerdictAnswer.{CardVerdictAnswer}

-- ---- flash

-- A value of a reply by its place: a refusal has none.
abbrev pub value_at : Reply → ℕ → ℕ
value_at reply i = get_or reply.values i 0

-- "The report gives version, capacity, used and live." (document 01, "Partition measures")
unfoldable pub report_of : Reply → ReportAnswer
report_of reply = record {
  code = reply.code;
  version = value_at reply 0;
  capacity = value_at reply 1;
  used = value_at reply 2;
  live = value_at reply 3;
}

unfoldable pub next_live_of : Reply → NextLiveAnswer
next_live_of reply = record { code = reply.code; number = value_at reply 0 }

-- A slot: document 02, order 4. Find "gives the lowest valid slot with it", a claim "the slot find would give" or the one it wrote.
unfoldable pub slot_of : Reply → SlotAnswer
slot_of reply = record { code = reply.code; slot = value_at reply 0 }

-- ---- cards: "A card refusal also names its place"

-- 0 whole card, 1 block, 2 directory entry.
abbrev pub kind_of : Place → ℕ
kind_of Whole = 0
kind_of (Block n) = 1
kind_of (Entry n) = 2

unfoldable pub card_verdict_of : Verdict → CardVerdictAnswer
card_verdict_of v = record { code = v.number; place_kind = kind_of v.place; place = place_number v.place }

unfoldable pub card_check_of : Checked → CardCheckAnswer
card_check_of c = record {
  code = c.verdict.number;
  place_kind = kind_of c.verdict.place;
  place = place_number c.verdict.place;
  orphans = c.orphans;
}

-- 1 protected, 0 copyable.
abbrev pub protected_number : CopyProtection → ℕ
protected_number Protected = 1
protected_number Copyable = 0

unfoldable pub card_entry_of : Listing → CardEntryAnswer
card_entry_of l = record {
  code = l.verdict.number;
  place_kind = kind_of l.verdict.place;
  place = place_number l.verdict.place;
  entry = l.entry;
  kind = l.kind;
  flag = l.flag;
  copy_protected = protected_number l.protection;
  first = l.first;
  size = l.size;
  offset = l.offset;
  name = l.name;
  time = l.time;
}
