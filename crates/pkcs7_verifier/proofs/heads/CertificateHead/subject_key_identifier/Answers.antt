use Rattle.std.proofs.lemmas.Result.{err_from_is_err_and}
use Rattle.asn1_core.specs.Der.{option_value}
use Rattle.x509_base.specs.Extensions.{extension_value}
use Rattle.pkcs7_verifier.proofs.KeyIds.{has_refused_none, no_key_without, key_extension, no_key_in, key_in}
use Rattle.pkcs7_verifier.specs.Heads.{certificate_head_value}
use Rattle.pkcs7_verifier.specs.KeyIdentifiers.{rest_of, IsKeyIdOf}
use Rattle.pkcs7_verifier.proofs.heads.CertificateHead.subject_key_identifier.Goals as goal

pub returns-in_err-extensions : goal.returns-in_err-extensions
returns-in_err-extensions c =
    has_refused_none (option_value (λ k. k.0.0.items)) IsKeyIdOf (rest_of (certificate_head_value c.args.self.now)) (err_from_is_err_and c.from_residual.result c.from_residual.ensures.1)
    (no_key_without (rest_of (certificate_head_value c.args.self.now)) _ c.in_err-extensions.ensures)

pub returns-in_err-from_bytes-in-Some-first_extension : goal.returns-in_err-from_bytes-in-Some-first_extension
returns-in_err-from_bytes-in-Some-first_extension c =
    let k = key_extension (rest_of (certificate_head_value c.args.self.now)) c.in_ok-extensions.field-0 c.in-Some.extensions c.deref.result.now c.in-Some-first_extension.extension.now c.in_ok-extensions.ensures c.in-Some.is c.deref.ensures.value c.in-Some-first_extension.ensures in
    has_refused_none (option_value (λ k. k.0.0.items)) IsKeyIdOf (rest_of (certificate_head_value c.args.self.now)) (err_from_is_err_and c.from_residual-in_err-from_bytes-in-Some-first_extension.result c.from_residual-in_err-from_bytes-in-Some-first_extension.ensures.1)
    (no_key_in (rest_of (certificate_head_value c.args.self.now)) (extension_value c.in-Some-first_extension.extension.now) k c.as_slice.result.now c.as_slice.ensures.value _ c.in_err-from_bytes-in-Some-first_extension.ensures)

pub returns-in-Some-first_extension : goal.returns-in-Some-first_extension
returns-in-Some-first_extension c =
    let k = key_extension (rest_of (certificate_head_value c.args.self.now)) c.in_ok-extensions.field-0 c.in-Some.extensions c.deref.result.now c.in-Some-first_extension.extension.now c.in_ok-extensions.ensures c.in-Some.is c.deref.ensures.value c.in-Some-first_extension.ensures in
    key_in (rest_of (certificate_head_value c.args.self.now)) (extension_value c.in-Some-first_extension.extension.now) k c.as_slice.result.now c.as_slice.ensures.value c.in_ok-from_bytes-in-Some-first_extension.field-0.0.0.items c.in_ok-from_bytes-in-Some-first_extension.ensures.reads
