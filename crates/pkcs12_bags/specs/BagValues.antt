-- The values of bags.
use Rattle.std.specs.Prelude.{◌⊎◌, List}
use Rattle.std.proofs.Common.{inl, inr}
use Rattle.asn1_core.specs.Der.{octets_of}
use Rattle.pkcs12_bags.specs.Attributes.{AttributesValue, attributes_value}
use Rattle.pkcs12_bags.specs.BagParts.{x509_bag_value, secret_bag_value, encrypted_key_bag_value}
use Rattle.pkcs12_bags.specs.Bags.{Bag, BagComponents, bag_into}
use Rattle.pkcs12_bags.specs.PlainBags.{PlainKind}
use Rattle.pkcs12_bags.specs.declared.safe_bags.bags.SafeBag.{SafeBag, fold-SafeBag}
use Rattle.pkcs12_bags.specs.declared.safe_bags.bags.SafeBagKind as K
use Rattle.pkcs12_bags.specs.declared.safe_bags.bags.SafeBagKind.{SafeBagKind, fold-SafeBagKind}
use Rattle.pkcs12_bags.specs.declared.safe_bags.bags.SafeBagKind.TheOpen.{SafeBagKind-F, SafeBag-F, SafeContents-F}
use Rattle.pkcs12_bags.specs.declared.safe_bags.bags.SafeContents.{SafeContents, fold-SafeContents}

-- what a bag holds
abbrev pub Kind : Type 0
Kind = List Bag ⊎ PlainKind

-- a value with attributes, or that of another alternative
abbrev pub alternative_or : {V X Y : Type 0} → AttributesValue → (X → Y) → V ⊎ X → (V × AttributesValue) ⊎ Y
alternative_or n f (inl v) = inl (v, n)
alternative_or n f (inr x) = inr (f x)

abbrev pub with_attributes : Kind → AttributesValue → BagComponents (List Bag)
with_attributes k n = alternative_or n (alternative_or n (alternative_or n (alternative_or n (alternative_or n (alternative_or n (λ v. (v.0, (v.1, n)))))))) k

-- by recursion
abbrev kind_step : SafeBagKind-F Kind Bag (List Bag) → Kind
kind_step (SafeBagKind-F.SafeContents bs) = inl bs
kind_step (SafeBagKind-F.Key x) = inr (inl x.0.items)
kind_step (SafeBagKind-F.EncryptedKey x) = inr (inr (inl (encrypted_key_bag_value x)))
kind_step (SafeBagKind-F.Certificate x) = inr (inr (inr (inl (x509_bag_value x))))
kind_step (SafeBagKind-F.Crl x) = inr (inr (inr (inr (inl (x509_bag_value x)))))
kind_step (SafeBagKind-F.Secret x) = inr (inr (inr (inr (inr (inl (secret_bag_value x))))))
kind_step (SafeBagKind-F.Unknown o x) = inr (inr (inr (inr (inr (inr (octets_of o, x.0.items))))))

abbrev bag_step : SafeBag-F Kind Bag (List Bag) → Bag
bag_step b = bag_into (with_attributes b.kind (attributes_value b.attributes))

abbrev contents_step : SafeContents-F Kind Bag (List Bag) → List Bag
contents_step c = c.0.items

abbrev pub bag_value : SafeBag → Bag
bag_value = fold-SafeBag Kind Bag (List Bag) kind_step bag_step contents_step

abbrev pub kind_fold : SafeBagKind → Kind
kind_fold = fold-SafeBagKind Kind Bag (List Bag) kind_step bag_step contents_step

abbrev pub contents_value : SafeContents → List Bag
contents_value = fold-SafeContents Kind Bag (List Bag) kind_step bag_step contents_step

-- one level of it
abbrev pub kind_value : SafeBagKind → Kind
kind_value (K.SafeContents c) = inl (contents_value c)
kind_value (K.Key x) = inr (inl x.0.items)
kind_value (K.EncryptedKey x) = inr (inr (inl (encrypted_key_bag_value x)))
kind_value (K.Certificate x) = inr (inr (inr (inl (x509_bag_value x))))
kind_value (K.Crl x) = inr (inr (inr (inr (inl (x509_bag_value x)))))
kind_value (K.Secret x) = inr (inr (inr (inr (inr (inl (secret_bag_value x))))))
kind_value (K.Unknown o x) = inr (inr (inr (inr (inr (inr (octets_of o, x.0.items))))))
