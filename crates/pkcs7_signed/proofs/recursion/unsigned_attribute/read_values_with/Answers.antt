use Rattle.std.proofs.Common.{sym, ◌∙◌, subst, refl}
use Rattle.std.proofs.lemmas.Result.{err_from_is_err_and}
use Rattle.asn1_core.specs.Der.{raw, set_of, less, HasReadComponents}
use Rattle.asn1_core_format.proofs.LevelReads.{has_refused_components}
use Rattle.asn1_choices.proofs.DefinedByReads.{alternative_has_read, alternative_refused, has_read_at, refused_at}
use Rattle.asn1_choices.specs.laws.DefinedByLaws.{itself}
use Rattle.pkcs7_signed.specs.Components.{kind_of, values_components}
use Rattle.pkcs7_signed.specs.Signers.{signer, pkcs7_certificate, values}
use Rattle.pkcs7_signed.specs.laws.SignerLevels.{value_ms_counter_sign, value_counter_sign, value_unknown}
use Rattle.pkcs7_signed.specs.SignerValues.{values_value}
use Rattle.pkcs7_signed.proofs.recursion.unsigned_attribute.read_values_with.Goals as goal

pub returns-in_err-certificates-in-MsCounterSign : goal.returns-in_err-certificates-in-MsCounterSign
returns-in_err-certificates-in-MsCounterSign g c =
    has_refused_components values_value (values_components pkcs7_certificate (less signer) (kind_of c.args.oid.now)) c.args.nest (err_from_is_err_and c.from_residual.result c.from_residual.ensures.1)
    (refused_at (values_components pkcs7_certificate (less signer)) (sym c.in-MsCounterSign.is ∙ c.with_oid.ensures) (alternative_refused values _ (set_of pkcs7_certificate) c.in_err-certificates-in-MsCounterSign.ensures))

pub returns-in_err-signers-in-CounterSign : goal.returns-in_err-signers-in-CounterSign
returns-in_err-signers-in-CounterSign g c =
    has_refused_components values_value (values_components pkcs7_certificate (less signer) (kind_of c.args.oid.now)) c.args.nest (err_from_is_err_and c.from_residual-in_err-signers-in-CounterSign.result c.from_residual-in_err-signers-in-CounterSign.ensures.1)
    (refused_at (values_components pkcs7_certificate (less signer)) (sym c.in-CounterSign.is ∙ c.with_oid.ensures) (alternative_refused values _ (set_of (less signer)) c.in_err-signers-in-CounterSign.ensures))

pub returns-in_err-elements-in-Foreign : goal.returns-in_err-elements-in-Foreign
returns-in_err-elements-in-Foreign g c =
    has_refused_components values_value (values_components pkcs7_certificate (less signer) (kind_of c.args.oid.now)) c.args.nest (err_from_is_err_and c.from_residual-in_err-elements-in-Foreign.result c.from_residual-in_err-elements-in-Foreign.ensures.1)
    (refused_at (values_components pkcs7_certificate (less signer)) (sym c.in-Foreign.is ∙ c.with_oid.ensures) (alternative_refused values _ (set_of raw) c.in_err-elements-in-Foreign.ensures))

pub returns-in_ok-certificates-in-MsCounterSign : goal.returns-in_ok-certificates-in-MsCounterSign
returns-in_ok-certificates-in-MsCounterSign g c =
    subst (HasReadComponents (values_components pkcs7_certificate (less signer) (kind_of c.args.oid.now)) c.args.nest c.args.r.now c.read_pkcs7_certificates_with.new.r) (sym (value_ms_counter_sign _))
    (has_read_at (values_components pkcs7_certificate (less signer)) (sym c.in-MsCounterSign.is ∙ c.with_oid.ensures) (alternative_has_read values _ (set_of pkcs7_certificate) (itself (λ a. refl) (λ a. refl) (λ a. refl)) c.in_ok-certificates-in-MsCounterSign.ensures))

pub returns-in_ok-signers-in-CounterSign : goal.returns-in_ok-signers-in-CounterSign
returns-in_ok-signers-in-CounterSign g c =
    subst (HasReadComponents (values_components pkcs7_certificate (less signer) (kind_of c.args.oid.now)) c.args.nest c.args.r.now c.read_signers_below.new.r) (sym (value_counter_sign _))
    (has_read_at (values_components pkcs7_certificate (less signer)) (sym c.in-CounterSign.is ∙ c.with_oid.ensures) (alternative_has_read values _ (set_of (less signer)) (itself (λ a. refl) (λ a. refl) (λ a. refl)) c.in_ok-signers-in-CounterSign.ensures))

pub returns-in_ok-elements-in-Foreign : goal.returns-in_ok-elements-in-Foreign
returns-in_ok-elements-in-Foreign g c =
    subst (HasReadComponents (values_components pkcs7_certificate (less signer) (kind_of c.args.oid.now)) c.args.nest c.args.r.now c.read_components.new.r) (sym (value_unknown _))
    (has_read_at (values_components pkcs7_certificate (less signer)) (sym c.in-Foreign.is ∙ c.with_oid.ensures) (alternative_has_read values _ (set_of raw) (itself (λ a. refl) (λ a. refl) (λ a. refl)) c.in_ok-elements-in-Foreign.ensures))
