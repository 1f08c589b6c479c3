use Rattle.asn1_core_oid.proofs.oid_contents.+write_leading.Given as goal

abbrev pub decreases-write_leading : goal.decreases-write_leading
decreases-write_leading l = l.n
