use Rattle.container_parts.proofs.MacCounts.{count_is, no_count}
use Rattle.part_calls.proofs.macs.ber_mac_iterations.Goals as goal

pub returns-in-Some : goal.returns-in-Some
returns-in-Some c = record {
  value = _;
  is_value = c.in_ok-file.ensures;
  is = count_is c.in_ok-file.file.mac_data c.in-Some.mac _ c.in-Some.is c.effective_iterations.ensures;
}

pub returns : goal.returns
returns c = record {
  value = _;
  is_value = c.in_ok-file.ensures;
  is = no_count c.in_ok-file.file.mac_data c.in-None.is;
}
