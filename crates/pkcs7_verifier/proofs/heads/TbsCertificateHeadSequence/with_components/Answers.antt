use Rattle.pkcs7_verifier.proofs.heads.TbsCertificateHeadSequence.with_components.Goals as goal

pub returns : goal.returns
returns g c = rw (← c.tagged.ensures) c.visit.ensures
