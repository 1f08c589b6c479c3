-- Indirect data are normal.
use Rattle.std.specs.Prelude.{◌≡◌, None, Some}
use Rattle.std.proofs.Common.{refl}
use Rattle.content_ranges.specs.IndirectRoutes.{ImageValue, IndirectValue, image_data, indirect_data}

-- all parts are kept
pub image_normal : (i : ImageValue) → image_data.normal i ≡ i
image_normal (None, (None, u)) = refl
image_normal (None, (Some link, u)) = refl
image_normal (Some flags, (None, u)) = refl
image_normal (Some flags, (Some link, u)) = refl

pub indirect_normal : (v : IndirectValue) → indirect_data.normal v ≡ v
indirect_normal ((type, (None, u)), (((oid, (None, s)), (digest, t)), w)) = refl
indirect_normal ((type, (None, u)), (((oid, (Some x, s)), (digest, t)), w)) = refl
indirect_normal ((type, (Some value, u)), (((oid, (None, s)), (digest, t)), w)) = refl
indirect_normal ((type, (Some value, u)), (((oid, (Some x, s)), (digest, t)), w)) = refl
