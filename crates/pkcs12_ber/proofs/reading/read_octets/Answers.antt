use Rattle.pkcs12_ber.proofs.Exits.{no_octets}
use Rattle.pkcs12_ber.proofs.reading.read_octets.Goals as goal

pub returns-in-Err-from_bytes_located : goal.returns-in-Err-from_bytes_located
returns-in-Err-from_bytes_located c = (
  no_octets c.args.file.now c.in-Ok.der.items c.in-Err-from_bytes_located.error c.in-Ok.ensures (rw (← c.as_slice.ensures.value) c.in-Err-from_bytes_located.ensures.0),
  (c.in-Ok.der.items, c.in-Ok.ensures, (rw (← c.as_slice.ensures.value) c.in-Err-from_bytes_located.ensures.1)),
)
