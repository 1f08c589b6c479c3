use Rattle.std.proofs.Common.{◌++◌, ap, sym, ◌∙◌}
use Rattle.x509_text.specs.Characters.{characters}
use Rattle.x509_text.proofs.Attributes.{separated}
use Rattle.x509_text.proofs.names.write_separator.Goals as goal

pub returns-in_ok-put : goal.returns-in_ok-put
returns-in_ok-put g c =
    c.in_ok-put.ensures ∙ ap (λ s. characters c.args.text.now ++ s) (sym (separated c.args.separator c.args.items.now c.args.from c.if-from-items.true))
