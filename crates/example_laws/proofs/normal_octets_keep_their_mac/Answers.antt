use Rattle.std.proofs.Common.{subst}
use Rattle.x509_pkcs12.specs.MacOctets.{Covers}
use Rattle.x509_pkcs12.specs.Pfxs.{pfx}
use Rattle.example_laws.proofs.normal_octets_keep_their_mac.Goals as goal

pub returns : goal.returns
returns g c = λ k b octets w v r s e n. (let t = c.mac_octets_survive_where_normal.ensures k b octets w v r s e in subst (λ o. Covers ((pfx g.R.DerSerialize.format).text v) o) (t.survives.1 n) t.covers)
