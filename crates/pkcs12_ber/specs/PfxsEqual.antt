-- `==` of such files is equality of what they contain.
use Rattle.std.proofs.lemmas.Bool.Decides.{Decides-eqb}
use Rattle.asn1_core.specs.Der.{SeesEqual, two_equal, with_end, option_equal}
use Rattle.pkcs12_algs.specs.Digests.{mac_data_value}
use Rattle.pkcs12_algs.specs.AlgorithmsEqual.{mac_data_equal}
use Rattle.pkcs12_ber.specs.ContentInfosEqual.{content_info_equal}
use Rattle.pkcs12_ber.specs.Pfxs.{ber_pfx_value}
use Rattle.pkcs12_ber.specs.contracts.pfxs.BerPfxPartialEq.TheImpl as Pfx

pub ber_pfx_equal : SeesEqual Pfx.ghosts.eq ber_pfx_value
ber_pfx_equal x y =
    two_equal (Decides-eqb x.version y.version) (two_equal (content_info_equal x.auth_safe y.auth_safe)
    (with_end (option_equal _ mac_data_value mac_data_equal x.mac_data y.mac_data)))
