-- Laws of `MacRoutes.antt`.
use Rattle.std.specs.Prelude.{◌≡◌, ℕ, List, None, Some, slice_range}
use Rattle.std.proofs.Common.{refl, sym, inl, inr}
use Rattle.asn1_core.specs.Der.{IsValueOf, raw}
use Rattle.asn1_located.specs.laws.LocatedLaws.{place_of}
use Rattle.asn1_located.specs.Places.{IsPlaceOf}
use Rattle.x509_pkcs12.specs.MacOctets.{mac_octets}
use Rattle.x509_pkcs12.specs.laws.MacOctets.{same_some}
use Rattle.x509_pkcs12.specs.MacRanges.{IsMacPlace, mac_steps}
use Rattle.x509_pkcs12.specs.Pfxs.{PfxValue, pfx}
use Rattle.x509_pkcs12.specs.MacRoutes.{mac_route}

pub mac_route_steps : mac_route.steps ≡ mac_steps
mac_route_steps = refl

is_part : (v : PfxValue (List ℕ)) (o : List ℕ) → mac_octets v ≡ Some o → mac_route.IsPart v o
is_part (n, (inl d, x)) o e = (inl d, refl, (d, refl, (d, refl, sym (same_some d o e))))
is_part (n, (inr p, x)) o e = absurd (let f : None ≡ Some o = e in cc)

-- a place of the MAC's octets is the place of that part of the PFX
pub mac_place_of : (b : List ℕ) (v : PfxValue (List ℕ)) (start stop : ℕ) → IsValueOf (pfx raw) 64 b v → mac_octets v ≡ Some (slice_range b start stop) → IsMacPlace b start stop → IsPlaceOf mac_route 64 b v (slice_range b start stop) start (slice_range b start stop)
mac_place_of b v start stop is e p = place_of mac_route 64 b v is.reads (slice_range b start stop) (is_part v (slice_range b start stop) e) start (slice_range b start stop) p.walk
