use Rattle.part_calls.proofs.CertificateRows.{certificate_refused}
use Rattle.part_calls.proofs.certificates.der_certificate.Goals as goal

pub returns-in-Err : goal.returns-in-Err
returns-in-Err c = certificate_refused c.args.input.now c.in-Err.refusal c.place_of.result c.status_of_refusal.result c.place_of.ensures c.status_of_refusal.ensures c.in-Err.ensures
