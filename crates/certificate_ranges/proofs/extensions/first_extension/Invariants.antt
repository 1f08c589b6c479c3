use Rattle.std.specs.Str.{bytes_eq}
use Rattle.certificate_ranges.proofs.Indices.{Tracks}
use Rattle.x509_base.specs.Extensions.{extension_value}
use Rattle.certificate_ranges.proofs.extensions.first_extension.Given as goal

abbrev pub invariant-loop-index : goal.invariant-loop-index
invariant-loop-index l = Tracks extension_value (λ e. bytes_eq e.0 l.oid) l.extensions l.index
