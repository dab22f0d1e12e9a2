use Rattle.std.proofs.Common.{rules, ◌≡◌, sym, ap, ◌∙◌, ◌<◌, get_or}
use lib.Dec.{eqb}
use lib.Pointwise.{pointwise}
use Rattle.words.proofs.SameLaws.{pointwise-same}
use Rattle.words.specs.Words.{same_bytes}
use Rattle.card_model.specs.Layout.{directory_of}
use Rattle.card_model.specs.Entries.{entry_at, name_of, is_named}
use Rattle.card_model.specs.Calls.{entry_named}
use Rattle.card_directory.proofs.DirectoryLaws.{no-such-length, used-named, unused-unnamed}
use Rattle.card_directory.proofs.ListedLaws.{first_from, found-listed}
use Rattle.card_directory.proofs.search.find_named.Goals as goal

pub returns-in_default : goal.returns-in_default
returns-in_default c = sym (no-such-length c.args.directory.card.now c.args.name.now c.args.directory.long c.in_default.ensures.1)

pub find_used-requires : goal.find_used-requires
find_used-requires c j h =
    let below : get_or c.args.directory.used.now j 0 < 208 = (c.args.directory.listed.each j h).before_end in
    search rules

pub returns : goal.returns
unfolding entry_named first_from
returns c =
    let directory = directory_of c.args.directory.card.now in
    let name = c.args.name.now in
    let whole : c.in-Ok.name.now ≡ name = search rules in
    c.find_used.ensures
    (λ i. same_bytes (name_of (entry_at directory i)) name)
    (λ j h r q.
    let own = name_of (entry_at directory (get_or c.args.directory.used.now j 0)) in
    let e : r ≡ pointwise eqb own c.in-Ok.name.now = search rules in
    e ∙ ap (pointwise eqb own) whole ∙ pointwise-same own name)
    ∙ found-listed c.args.directory.listed (λ i. is_named name (entry_at directory i)) _ (unused-unnamed directory name) (λ i u. used-named name _ u)
