use mathlib.Core.Path.{sym, ap, ◌∙◌}
use lib.Dec.{ltb}
use Rattle.flash_model.proofs.MeasureLaws.{measures-of, legal-below}
use Rattle.flash_measures.proofs.Measures.legal_number.Goals as goal

pub returns : goal.returns
returns c =
    ap (ltb c.args.number) c.capacity.ensures
    ∙ sym (legal-below c.args.self.size c.args.number (measures-of _ c.args.self.legal))
