-- Whether two optional values are the same, where that is decided of the values.
use Rattle.std.specs.Prelude.{◌≡◌, Option, None, Some}
use Rattle.std.proofs.Common.{refl, sym, ap}
use Rattle.std.proofs.lemmas.Option.{none-some, same_Some}
use mathlib.Core.HLevel.{Discrete}

pub same_option : {A : Type 0} → Discrete A → Discrete (Option A)
same_option d None None = yes refl
same_option d None (Some b) = no (none-some b)
same_option d (Some a) None = no (λ e. none-some a (sym e))
same_option {A} d (Some a) (Some b) = go (d a b)
  where
    go : Dec (a ≡ b) → Dec (◌≡◌ {A = Option A} (Some a) (Some b))
    go (yes p) = yes (ap Some p)
    go (no n) = no (λ q. n (same_Some a b q))
