use Rattle.std.proofs.Common.{rules, ◌∙◌}
use Rattle.std.specs.Prelude.{leb}
use Rattle.card_directory.proofs.ListedLaws.{first-found}
use Rattle.card_directory.proofs.search.first_used.Goals as goal

pub returns : goal.returns
returns c directory list =
    c.find_used.ensures (leb c.args.start) (λ j h r q. search rules) ∙ first-found list c.args.start
