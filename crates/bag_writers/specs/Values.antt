-- What borrowed bags are, as values.
use Rattle.std.specs.Prelude.{List, Option, map}
use Rattle.std.proofs.Common.{inl, inr}
use Rattle.asn1_core.specs.Der.{ElementOctets, OidOctets, option_value}
use Rattle.bag_writers.specs.Given.{GivenBagValue, HeldValue}
use Rattle.bag_writers.specs.declared.bags.Attributed.{Attributed}
use Rattle.bag_writers.specs.declared.held.Held.{Held}
use Rattle.bag_writers.specs.declared.held.Held.TheVariants.{Key, ShroudedKey, Certificate, Crl, Secret, SafeContents, Other}
use Rattle.pkcs12_bags.specs.Oids.{oid}
use Rattle.pkcs12_bags.specs.declared.parts.oids.TheConstants.{CERTIFICATE_BAG, CRL_BAG, KEY_BAG, SAFE_CONTENTS_BAG, SECRET_BAG, SHROUDED_KEY_BAG, X509_CERTIFICATE, X509_CRL}

abbrev pub held_id : Held → OidOctets
held_id (Key x) = oid KEY_BAG
held_id (ShroudedKey x) = oid SHROUDED_KEY_BAG
held_id (Certificate x) = oid CERTIFICATE_BAG
held_id (Crl x) = oid CRL_BAG
held_id (Secret x) = oid SECRET_BAG
held_id (SafeContents x) = oid SAFE_CONTENTS_BAG
held_id (Other id x) = id.now

abbrev pub held_value : Held → HeldValue
held_value (Key x) = inr x.now
held_value (ShroudedKey x) = inr x.now
held_value (Certificate x) = inl (oid X509_CERTIFICATE, (x.now, tt))
held_value (Crl x) = inl (oid X509_CRL, (x.now, tt))
held_value (Secret x) = inr x.now
held_value (SafeContents x) = inr x.now
held_value (Other id x) = inr x.now

abbrev pub attributes_in : Attributed → Option (List ElementOctets)
attributes_in x = option_value (λ s. map (λ v. v.0.items) s.0.items) x.attributes

abbrev pub attributed_value : Attributed → GivenBagValue
attributed_value x = (held_id x.held, (held_value x.held, (attributes_in x, tt)))
