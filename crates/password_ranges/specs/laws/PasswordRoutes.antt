-- Laws of `PasswordRoutes.antt`.
use Rattle.std.specs.Prelude.{◌≡◌, [], ◌∷◌}
use Rattle.std.proofs.Common.{refl}
use Rattle.asn1_located.specs.declared.walks.Step.TheVariants.{Inside, Element, After, Past}
use Rattle.password_ranges.specs.PasswordRoutes.{contents_algorithm, contents_encrypted, derivation_oid, encryption_oid, only_salt, pbkdf2_salt, prf_oid, vector}

-- the steps, which are computed
pub only_salt_steps : only_salt.steps ≡ Inside ∷ After ∷ Element ∷ Inside ∷ Element ∷ Inside ∷ []
only_salt_steps = refl

pub derivation_oid_steps : derivation_oid.steps ≡ Inside ∷ After ∷ Element ∷ Inside ∷ Element ∷ Inside ∷ Element ∷ Inside ∷ []
derivation_oid_steps = refl

pub encryption_oid_steps : encryption_oid.steps ≡ Inside ∷ After ∷ Element ∷ Inside ∷ After ∷ Element ∷ Inside ∷ Element ∷ Inside ∷ []
encryption_oid_steps = refl

pub vector_steps : vector.steps ≡ Inside ∷ After ∷ Element ∷ Inside ∷ After ∷ Element ∷ Inside ∷ After ∷ Element ∷ Inside ∷ []
vector_steps = refl

pub pbkdf2_salt_steps : pbkdf2_salt.steps ≡ Inside ∷ After ∷ Element ∷ Inside ∷ Element ∷ Inside ∷ After ∷ Element ∷ Inside ∷ Element ∷ Inside ∷ []
pbkdf2_salt_steps = refl

pub prf_oid_steps : prf_oid.steps ≡ Inside ∷ After ∷ Element ∷ Inside ∷ Element ∷ Inside ∷ After ∷ Element ∷ Inside ∷ After ∷ After ∷ Past 0x02 ∷ Element ∷ Inside ∷ Element ∷ Inside ∷ []
prf_oid_steps = refl

pub contents_algorithm_steps : contents_algorithm.steps ≡ Inside ∷ After ∷ Element ∷ Inside ∷ Inside ∷ After ∷ Element ∷ Inside ∷ After ∷ Element ∷ []
contents_algorithm_steps = refl

pub contents_encrypted_steps : contents_encrypted.steps ≡ Inside ∷ After ∷ Element ∷ Inside ∷ Inside ∷ After ∷ Element ∷ Inside ∷ After ∷ After ∷ Element ∷ Inside ∷ []
contents_encrypted_steps = refl
