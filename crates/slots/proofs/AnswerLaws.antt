-- What the public calls' answers rest on. Assumes nothing.
use Rattle.std.specs.Prelude.{◌≡◌, false, eqb}
use Rattle.flash_model.specs.declared.FlashError.{FlashError}
use Rattle.flash_model.specs.Errors.{error_number}
use Rattle.flash_model.proofs.ErrorLaws.{error-refuses}

pub error_refuses : (e : FlashError) → eqb (error_number e) 0 ≡ false
error_refuses = error-refuses
