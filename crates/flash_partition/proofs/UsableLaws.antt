-- What a usable image tells its readers. Assumes nothing.
use Prim.Native.Nat.{ℕ, ◌≤◌}
use mathlib.Core.Path.{◌≡◌, sym, ap, subst, ◌∙◌}
use mathlib.Core.Bool.{true}
use mathlib.Core.List.{List}
use native.Mathlib.Omega.{arith}
use Rattle.words.specs.Search.{highest}
use Rattle.flash_model.specs.Measures.{legal_size, legal_number, capacity}
use Rattle.flash_model.specs.Partition.{copy_at, holder, used}
use Rattle.flash_model.proofs.MeasureLaws.{Measured, measures-of}
use Rattle.flash_model.proofs.SoundLaws.{tests-of, used_most, allocated-used}
use Rattle.flash_model.proofs.HolderLaws.{holder-used}
use Rattle.flash_measures.specs.HasMeasures.{HasMeasures}
use Rattle.flash_partition.specs.Usable.{Usable}
use Rattle.flash_partition.specs.declared.opened.OpenedLog.{OpenedLog}

module _ {image : List ℕ} {log : OpenedLog} (u : Usable image log) where
  pub usable-legal : legal_size log.m.size ≡ true
  usable-legal = subst (λ (n : ℕ). legal_size n ≡ true) u.has_size (tests-of image u.is_sound).legal_size_lem

  pub usable-has : HasMeasures image log.m.size
  usable-has = record { has_size = u.has_size; is_legal = usable-legal }

  pub usable-measured : Measured log.m.size
  usable-measured = measures-of log.m.size usable-legal

  pub count_most : log.used ≤ capacity log.m.size
  count_most = omega (arith, u.used_is, used_most image, ap capacity u.has_size)

  pub holder-some : (n : ℕ) → legal_number log.m.size n ≡ true → holder image n ≡ highest (copy_at image n) log.used
  holder-some n e =
      holder-used image n (used image) (used_most image) (allocated-used image u.is_sound)
      ∙ rw (sym u.used_is, u.has_size, e)
