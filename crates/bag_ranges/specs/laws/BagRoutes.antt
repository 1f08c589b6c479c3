-- Laws of `BagRoutes.antt`.
use Rattle.std.specs.Prelude.{◌≡◌, ℕ, List, [], ◌∷◌}
use Rattle.std.proofs.Common.{refl}
use Rattle.asn1_core.specs.Der.{OidOctets}
use Rattle.asn1_core_element.specs.Element.{IsTagByte}
use Rattle.asn1_located.specs.declared.walks.Step.TheVariants.{Inside, Element, After, Nth}
use Rattle.bag_ranges.specs.BagRoutes.{attribute_octets, bag_value, other_element, safe_in_data, store_contents, x509_octets}

-- the steps, which are computed
pub bag_value_steps : bag_value.steps ≡ Inside ∷ After ∷ Element ∷ Inside ∷ []
bag_value_steps = refl

pub x509_octets_steps : (number : ℕ) → (x509_octets number).steps ≡ Inside ∷ After ∷ Element ∷ Inside ∷ Inside ∷ After ∷ Inside ∷ Inside ∷ []
x509_octets_steps number = refl

pub other_element_steps : (number : ℕ) → (other_element number).steps ≡ Inside ∷ After ∷ Element ∷ Inside ∷ Inside ∷ After ∷ Inside ∷ []
other_element_steps number = refl

pub attribute_octets_steps : (type : OidOctets) (tag : ℕ) (h : IsTagByte tag) (P : List ℕ → Type 0) (j : ℕ) → (attribute_octets type tag h P j).steps ≡ Inside ∷ After ∷ After ∷ Element ∷ Inside ∷ Nth j ∷ Element ∷ Inside ∷ After ∷ Element ∷ Inside ∷ Nth 0 ∷ Element ∷ Inside ∷ []
attribute_octets_steps type tag h P j = refl

pub safe_in_data_steps : safe_in_data.steps ≡ Inside ∷ After ∷ Element ∷ Inside ∷ Inside ∷ []
safe_in_data_steps = refl

pub store_contents_steps : store_contents.steps ≡ Inside ∷ After ∷ Element ∷ Inside ∷ After ∷ Inside ∷ Inside ∷ Inside ∷ []
store_contents_steps = refl
