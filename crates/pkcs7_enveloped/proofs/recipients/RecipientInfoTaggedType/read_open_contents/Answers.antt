use Rattle.std.proofs.Common.{ℕ, sym, subst}
use Rattle.std.proofs.lemmas.Result.{err_from_is_err_and}
use Rattle.asn1_core.specs.Asn1.{SEQUENCE}
use Rattle.asn1_core.specs.Der.{Position, HasRefusedComponents, element, element_same}
use Rattle.asn1_core_element.specs.declared.error.Error.{Error}
use Rattle.asn1_core_format.specs.Tagged.{inside}
use Rattle.asn1_core_format.proofs.LevelReads.{has_refused_components}
use Rattle.pkcs7_enveloped.specs.Recipients.{kek_recipient_info, recipient_info, recipient_info_value}
use Rattle.pkcs7_enveloped.proofs.recipients.RecipientInfoTaggedType.read_open_contents.Goals as goal

-- the contents are those of the SEQUENCE
refused : {k : ℕ} {old new : Position} {e : Error} → HasRefusedComponents (inside 0x30 (SEQUENCE kek_recipient_info).format) k old new e → HasRefusedComponents (inside 0xA2 recipient_info.format) k old new e
refused {k} {old} g = record {
  kind = g.kind;
  none = λ m v s. g.none m v (subst (λ c. (SEQUENCE kek_recipient_info).format.Reads k (element 0x30 c) v) (sym (element_same 0xA2 0xA2 old.left s.0 s.1).1) s.2);
  counts = g.counts;
  at_most = g.at_most;
}

pub returns-in_err-read_contents : goal.returns-in_err-read_contents
returns-in_err-read_contents c =
    has_refused_components recipient_info_value (inside 0xA2 recipient_info.format) c.args.nest (err_from_is_err_and c.from_residual.result c.from_residual.ensures.1)
    (refused c.in_err-read_contents.ensures)
