-- Rows one after the other, as code meets them: r is what it found for a row. Assumes nothing.
use mathlib.Core.Path.{◌≡◌, refl}
use mathlib.Core.Bool.{Bool, true, false, cond}
use borrow.Author.Tests.{eq-eqb, ne_eqb}
use Rattle.std.specs.Prelude.{eqb}
use Rattle.verdicts.specs.declared.Rule.{Rule}
use Rattle.verdicts.specs.declared.Rule.TheVariants.{CardLength, RootMagic, RootFields, SystemEntry, HiddenEntry, UserEntry, DirectoryEntry, Chain, SharedBlock, SameName, Game, NoFile, BlockIndex, Lengths, NoRoom}
use Rattle.verdicts.specs.declared.CardError.{CardError}
use Rattle.verdicts.specs.Rows.{Verdict, done, accepted, unless_refused, rule_number, error_verdict}

pub refused_first : (v later r : Verdict) → r ≡ v → (r.number ≡ 0 → ⊥) → unless_refused v later ≡ r
refused_first v later r e n = rw (← e, ne_eqb r.number 0 n)

pub not_refused : (v later r : Verdict) → r ≡ v → r.number ≡ 0 → unless_refused v later ≡ later
not_refused v later r e n = rw (← e, eq-eqb r.number 0 n)

-- two rows as one
pub rows-joined : (v w later : Verdict) → unless_refused (unless_refused v w) later ≡ unless_refused v (unless_refused w later)
rows-joined v w later = go (accepted v) refl
  where
    go : (t : Bool) → accepted v ≡ t → unless_refused (cond t w v) later ≡ cond t (unless_refused w later) v
    go true e = refl
    go false e = rw e

-- ---- a result's verdict

-- A rule's number is never that of "done".
pub rule-refuses : (rule : Rule) → eqb (rule_number rule) 0 ≡ false
rule-refuses CardLength = refl
rule-refuses RootMagic = refl
rule-refuses RootFields = refl
rule-refuses SystemEntry = refl
rule-refuses HiddenEntry = refl
rule-refuses UserEntry = refl
rule-refuses DirectoryEntry = refl
rule-refuses Chain = refl
rule-refuses SharedBlock = refl
rule-refuses SameName = refl
rule-refuses Game = refl
rule-refuses NoFile = refl
rule-refuses BlockIndex = refl
rule-refuses Lengths = refl
rule-refuses NoRoom = refl

pub error-refuses : (e : CardError) → accepted (error_verdict e) ≡ false
error-refuses e = rule-refuses e.rule

-- A row that a result's error tells is the verdict, and one that was passed leaves it to the later ones.
pub error_first : (e : CardError) (v later : Verdict) → error_verdict e ≡ v → unless_refused v later ≡ error_verdict e
error_first e v later q = rw (← q, error-refuses e)

pub passed_first : (v later : Verdict) → done ≡ v → unless_refused v later ≡ later
passed_first v later q = rw (← q)
