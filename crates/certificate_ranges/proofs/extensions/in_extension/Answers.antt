use Rattle.certificate_ranges.proofs.extensions.in_extension.Goals as goal

pub returns : goal.returns
returns c = c.range_where.ensures
