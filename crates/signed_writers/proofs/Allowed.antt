-- Whether signed attributes are allowed with a content.
use Rattle.std.specs.Prelude.{◌≡◌, ◌↔◌, IsTrue, Bool, true, false, List, [], ◌∷◌, length, Option, None, Some, map}
use Rattle.std.proofs.Common.{arith, refl, subst, sym, true≢false, ◌∙◌}
use Rattle.asn1_core.specs.Der.{Octets, OidOctets, option_value}
use Rattle.asn1_core_oid.specs.Known.{data_oid}
use Rattle.asn1_core_element.specs.declared.error.Error.{Error}
use Rattle.asn1_core_element.specs.declared.error.Error.TheVariants.{Memory}
use Rattle.pkcs7_attributes.specs.NamedAttributes.{signing_time_oid}
use Rattle.signed_writers.specs.Signed.{AreAllowed, HasOneTime, IsSigned}
use Rattle.signed_writers.specs.declared.content.ContentInfo.{ContentInfo}
use Rattle.signer_ranges.specs.SignerRoutes.{SignerValue}
use Rattle.x509_base.specs.AttributesByOid.{HasNoOnly, IsOnlyOf, with_oid}
use Rattle.x509_base.specs.Times.{time}
use Rattle.signer_ranges.specs.Signers.{SignsOrNone}
use Rattle.x509_base.specs.Names.{attribute}

module _ (attrs : List attribute.Value) (type : OidOctets) where
  pub without : (b : Bool) → (IsTrue true ↔ (attrs ≡ [])) → (IsTrue b ↔ (type ≡ data_oid)) → IsTrue b ↔ AreAllowed type attrs
  without b is d = subst (λ l. IsTrue b ↔ AreAllowed type l) (sym (is.0 refl)) d

signed_only : (type : OidOctets) (attrs : List attribute.Value) (digest : Octets) (empty : Bool) → (IsTrue empty ↔ (attrs ≡ [])) → false ≡ empty → SignsOrNone attrs type (Some digest) → HasOneTime attrs → AreAllowed type attrs
signed_only type [] digest empty is some d t = absurd (true≢false (sym (is.1 refl) ∙ sym some))
signed_only type (a ∷ attrs) digest empty is some d t = (digest, d, t)

times_allowed : (type : OidOctets) (attrs : List attribute.Value) (empty : Bool) → (IsTrue empty ↔ (attrs ≡ [])) → false ≡ empty → AreAllowed type attrs → HasOneTime attrs
times_allowed type [] empty is some a = absurd (true≢false (sym (is.1 refl) ∙ sym some))
times_allowed type (a ∷ attrs) empty is some (digest, d, t) = t

not_allowed : (type : OidOctets) (attrs : List attribute.Value) (empty : Bool) → (IsTrue empty ↔ (attrs ≡ [])) → false ≡ empty → SignsOrNone attrs type None → AreAllowed type attrs → ⊥
not_allowed type [] empty is some n a = absurd (true≢false (sym (is.1 refl) ∙ sym some))
not_allowed type (a ∷ attrs) empty is some n (digest, d, t) = n digest d

module _ (attrs : List attribute.Value) (type : OidOctets) (empty : Bool) (is : IsTrue empty ↔ (attrs ≡ [])) (some : false ≡ empty) where
  pub with_digest : (digest : Octets) (b : Bool) → SignsOrNone attrs type (Some digest) → (IsTrue b ↔ HasOneTime attrs) → IsTrue b ↔ AreAllowed type attrs
  with_digest digest b d t = (λ e. signed_only type attrs digest empty is some d (t.0 e), λ a. t.1 (times_allowed type attrs empty is some a))

  pub without_digest : {T : Type 0} (f : T → Octets) (d : Option T) → d ≡ None → SignsOrNone attrs type (option_value f d) → IsTrue false ↔ AreAllowed type attrs
  without_digest f d none n =
      let m = subst (λ o. SignsOrNone attrs type (option_value f o)) none n in
      (λ e. absurd (true≢false (sym e)), λ a. absurd (not_allowed type attrs empty is some m a))

-- a signing time is given alone, or isn't
pub one_time : (attrs : List attribute.Value) (t : Option time.Value) → IsOnlyOf time.format (with_oid signing_time_oid attrs) t → IsTrue true ↔ HasOneTime attrs
one_time attrs t o = (λ e. (t, o), λ h. refl)

pub several_times : (attrs : List attribute.Value) (e : Error) → HasNoOnly time.format (with_oid signing_time_oid attrs) e → (e ≡ Memory → ⊥) → IsTrue false ↔ HasOneTime attrs
several_times attrs e n m = (λ f. absurd (true≢false (sym f)), λ h. absurd (n.none m h.0 h.1))

module _ (info : ContentInfo) {X : Type 0} (f : X → SignerValue) where
  pub by_none : (b : Bool) (signers : List X) → length signers ≡ 0 → (IsTrue b ↔ IsSigned info []) → IsTrue b ↔ IsSigned info (map f signers)
  by_none b [] e s = s
  by_none b (x ∷ xs) e s = absurd (omega (arith, e))

  pub by_some : (signers : List X) → (length signers ≡ 0 → ⊥) → IsTrue true ↔ IsSigned info (map f signers)
  by_some [] n = absurd (n refl)
  by_some (x ∷ xs) n = (λ e. tt, λ u. refl)
