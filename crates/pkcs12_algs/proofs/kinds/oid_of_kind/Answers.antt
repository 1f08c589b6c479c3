use Rattle.std.proofs.Common.{sym, subst}
use Rattle.asn1_core.specs.Der.{IsOid}
use Rattle.pkcs12_algs.proofs.kinds.oid_of_kind.Goals as goal

pub known_oid-requires : goal.known_oid-requires
known_oid-requires g c = subst IsOid (sym c.octets.ensures) (g.met.K.Kind.valid c.args.kind)
