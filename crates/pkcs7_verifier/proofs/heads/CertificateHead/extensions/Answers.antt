use Rattle.std.proofs.Common.{sym, ap, ◌∙◌, map}
use Rattle.std.specs.List.{find}
use Rattle.std.proofs.lemmas.Result.{err_from_is_err_and}
use Rattle.asn1_core.specs.Der.{option_value}
use Rattle.x509_base.specs.Extensions.{extensions_value}
use Rattle.pkcs7_verifier.proofs.KeyIds.{has_refused_none, no_extensions}
use Rattle.pkcs7_verifier.specs.Heads.{certificate_head_value}
use Rattle.pkcs7_verifier.specs.KeyIdentifiers.{has_tag, rest_of, AreExtensionsOf}
use Rattle.pkcs7_verifier.proofs.heads.CertificateHead.extensions.Goals as goal

pub returns-in_err-found-in-Some : goal.returns-in_err-found-in-Some
returns-in_err-found-in-Some c =
    has_refused_none (option_value extensions_value) AreExtensionsOf (rest_of (certificate_head_value c.args.self.now)) (err_from_is_err_and c.from_residual.result c.from_residual.ensures.1)
    (no_extensions (rest_of (certificate_head_value c.args.self.now)) c.in-Some.element.now.0.items c.as_slice.result.now _ (ap (λ xs. find (has_tag 0xA3) (map (λ e. e.0.items) xs)) (sym c.deref.ensures.value) ∙ sym c.in-Some.ensures) c.as_slice.ensures.value c.in_err-found-in-Some.ensures)
