use Rattle.std.proofs.Common.{sym, ◌∙◌, subst}
use Rattle.std.specs.Str.{IsUtf8}
use Rattle.asn1_leaves_strings.proofs.utf8_string.Utf8StringTryClone.try_clone.Goals as goal

pub invariant_of-result : goal.invariant_of-result
invariant_of-result c = record { of_set = subst (λ octets. ∥ IsUtf8 octets ∥₁) (sym (c.in_ok-from_slice.ensures.items ∙ c.as_bytes.ensures)) c.args.self.now.of_set }
