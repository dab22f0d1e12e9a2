-- What C receives of a copy flag. Assumes nothing.
use mathlib.Core.Path.{◌≡◌, refl, ap}
use mathlib.Core.Logic.{◌↔◌}
use native.Mathlib.Omega.{arith}
use Rattle.card_model.specs.declared.CopyProtection.{CopyProtection}
use Rattle.card_model.specs.declared.CopyProtection.TheVariants.{Protected, Copyable}
use Rattle.card_model.specs.Calls.{list_of}
use Rattle.card_model.proofs.ReadLaws.{lists_flag, lists_nothing}
use Rattle.capi.specs.Structs.{protected_number, card_entry_of}
use Rattle.capi.specs.Copying.{CopyTheorems}

protected-1 : (p : CopyProtection) → (protected_number p ≡ 1) ↔ (p ≡ Protected)
protected-1 Protected = (λ e. refl, λ e. refl)
protected-1 Copyable = (λ e. absurd (omega (arith, e)), λ e. ap protected_number e)

copyable-0 : (p : CopyProtection) → (protected_number p ≡ 0) ↔ (p ≡ Copyable)
copyable-0 Protected = (λ e. absurd (omega (arith, e)), λ e. ap protected_number e)
copyable-0 Copyable = (λ e. refl, λ e. refl)

pub copy-theorems : CopyTheorems
unfolding card_entry_of
copy-theorems = record {
  tells_flag = λ card start z.
      let shows = lists_flag card start z in
      let p = (list_of card start).protection in
      record {
        raw = shows.raw;
        protected = (λ e. shows.protected.0 ((protected-1 p).0 e), λ e. (protected-1 p).1 (shows.protected.1 e));
        copyable = (λ e. shows.copyable.0 ((copyable-0 p).0 e), λ e. (copyable-0 p).1 (shows.copyable.1 e));
      };
  tells_nothing = λ card start n.
      let nothing = lists_nothing card start n in
      (nothing.no_flag, ap protected_number nothing.not_protected);
}
