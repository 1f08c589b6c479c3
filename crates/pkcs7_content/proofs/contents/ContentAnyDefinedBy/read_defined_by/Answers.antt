use Rattle.asn1_core.specs.Asn1.{SEQUENCE}
use Rattle.std.proofs.Common.{rules, refl}
use Rattle.asn1_core.specs.Der.{part, nothing, within}
use Rattle.asn1_choices.specs.laws.DefinedByLaws.{itself}
use Rattle.asn1_choices.proofs.DefinedByReads.{alternative_has_read, alternative_refused, has_read_at, refused_at}
use Rattle.pkcs7_content.specs.Contents.{written_content, octets_components, data_alternative, octets_alternative, content_components}
use Rattle.pkcs7_content.specs.ContentLaws.{data_is_alternative, octets_is_alternative}
use Rattle.pkcs7_content.specs.IndirectData.{spc_indirect_data_content}
use Rattle.pkcs7_content.specs.TrustLists.{ctl}
use Rattle.pkcs7_content.proofs.contents.ContentAnyDefinedBy.read_defined_by.Goals as goal

pub returns-in_err-content-in-IndirectData : goal.returns-in_err-content-in-IndirectData
returns-in_err-content-in-IndirectData c =
    let r = refused_at content_components c.in-IndirectData.ensures (alternative_refused written_content _ (part (within 0xA0 (SEQUENCE spc_indirect_data_content).format) nothing) c.in_err-content-in-IndirectData.ensures) in
    search rules

pub returns-in_err-list-in-TrustList : goal.returns-in_err-list-in-TrustList
returns-in_err-list-in-TrustList c =
    let r = refused_at content_components c.in-TrustList.ensures (alternative_refused written_content _ (part (within 0xA0 (SEQUENCE ctl).format) nothing) c.in_err-list-in-TrustList.ensures) in
    search rules

pub returns-in_ok-content-in-IndirectData : goal.returns-in_ok-content-in-IndirectData
returns-in_ok-content-in-IndirectData c =
    has_read_at content_components c.in-IndirectData.ensures
    (alternative_has_read written_content _ (part (within 0xA0 (SEQUENCE spc_indirect_data_content).format) nothing) (itself (λ a. refl) (λ a. refl) (λ a. refl)) c.in_ok-content-in-IndirectData.ensures)

pub returns-in_ok-list-in-TrustList : goal.returns-in_ok-list-in-TrustList
returns-in_ok-list-in-TrustList c =
    has_read_at content_components c.in-TrustList.ensures
    (alternative_has_read written_content _ (part (within 0xA0 (SEQUENCE ctl).format) nothing) (itself (λ a. refl) (λ a. refl) (λ a. refl)) c.in_ok-list-in-TrustList.ensures)

pub returns-in-Some : goal.returns-in-Some
returns-in-Some c =
    has_read_at content_components c.in-PlainData.ensures
    (alternative_has_read written_content data_alternative octets_components data_is_alternative (rw c.in-Some.is at c.in_ok-octets-in-PlainData.ensures))

pub returns-in-None : goal.returns-in-None
returns-in-None c =
    has_read_at content_components c.in-PlainData.ensures
    (alternative_has_read written_content data_alternative octets_components data_is_alternative (rw c.in-None.is at c.in_ok-octets-in-PlainData.ensures))

pub returns-in-Some-2 : goal.returns-in-Some-2
returns-in-Some-2 c =
    has_read_at content_components c.in-Foreign.ensures
    (alternative_has_read written_content octets_alternative octets_components octets_is_alternative (rw c.in-Some-2.is at c.in_ok-octets-in-Foreign.ensures))

pub returns-in-None-2 : goal.returns-in-None-2
returns-in-None-2 c =
    has_read_at content_components c.in-Foreign.ensures
    (alternative_has_read written_content octets_alternative octets_components octets_is_alternative (rw c.in-None-2.is at c.in_ok-octets-in-Foreign.ensures))
