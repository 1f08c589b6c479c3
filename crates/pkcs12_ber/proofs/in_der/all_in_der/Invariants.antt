use Rattle.std.proofs.Common.{[], map, take}
use Rattle.pkcs12_ber.specs.ContentInfos.{content_info_value}
use Rattle.pkcs12_ber.specs.InDer.{HasAppended}
use Rattle.pkcs12_ber.proofs.in_der.all_in_der.Given as goal

abbrev pub invariant-loop-index : goal.invariant-loop-index
invariant-loop-index l = HasAppended (map content_info_value (take l.index l.contents)) [] l.out.items
