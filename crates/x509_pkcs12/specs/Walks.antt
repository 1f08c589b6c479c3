-- All bags of a PFX that aren't encrypted, in order, those in bags too.
use Rattle.std.specs.Prelude.{List, []}
use Rattle.std.specs.List.{flat_map}
use Rattle.std.proofs.Common.{inl, inr}
use Rattle.pkcs12_bags.specs.Bags.{Bag}
use Rattle.pkcs12_bags.specs.BagWalks.{walk}
use Rattle.x509_pkcs12.specs.AuthSafes.{AuthSafeValue}
use Rattle.x509_pkcs12.specs.ContentInfos.{safe_contents_content_info}
use Rattle.x509_pkcs12.specs.Pfxs.{PfxValue}

-- encrypted contents, and content of another type, give none
abbrev pub content_walk : safe_contents_content_info.Value → List Bag
content_walk (inl bags) = walk bags
content_walk (inr other) = []

abbrev pub auth_safe_walk : AuthSafeValue (List safe_contents_content_info.Value) → List Bag
auth_safe_walk (inl contents) = flat_map content_walk contents
auth_safe_walk (inr other) = []

abbrev pub pfx_walk : PfxValue (List safe_contents_content_info.Value) → List Bag
pfx_walk p = auth_safe_walk p.1.0
