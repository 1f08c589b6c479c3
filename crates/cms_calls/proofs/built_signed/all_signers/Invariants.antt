use Rattle.std.specs.Prelude.{map, take}
use Rattle.std.specs.List.{AllZip}
use Rattle.cms_calls.specs.BuiltSigned.{IsSignerBy}
use Rattle.x509_pkcs7.specs.RawSigners.{raw_signer_info_value}
use Rattle.cms_calls.proofs.built_signed.all_signers.Given as goal

abbrev pub invariant-loop-index : goal.invariant-loop-index
invariant-loop-index l = AllZip (IsSignerBy l.input) (take l.index l.rows) (map raw_signer_info_value l.all.items)
