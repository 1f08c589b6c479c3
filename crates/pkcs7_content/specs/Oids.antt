-- The object identifiers that are known, by their arcs.
use Rattle.std.specs.Prelude.{ℕ, List, [], ◌∷◌}
use Rattle.asn1_core.specs.Der.{arcs}
pub use Rattle.asn1_core_oid.specs.Known.{data_oid}

-- an object identifier below Microsoft's arc, 1.3.6.1.4.1.311
abbrev microsoft : List ℕ → List ℕ
microsoft further = arcs (1 ∷ 3 ∷ 6 ∷ 1 ∷ 4 ∷ 1 ∷ 311 ∷ further)

-- SPC_INDIRECT_DATA_OBJID (Authenticode)
abbrev pub indirect_data_oid : List ℕ
indirect_data_oid = microsoft (2 ∷ 1 ∷ 4 ∷ [])

-- SPC_PE_IMAGE_DATA_OBJID (Authenticode)
abbrev pub pe_image_oid : List ℕ
pe_image_oid = microsoft (2 ∷ 1 ∷ 15 ∷ [])

-- SPC_SIPINFO_OBJID (as osslsigncode writes it)
abbrev pub sip_info_oid : List ℕ
sip_info_oid = microsoft (2 ∷ 1 ∷ 30 ∷ [])

-- szOID_CTL (wincrypt.h)
abbrev pub trust_list_oid : List ℕ
trust_list_oid = microsoft (10 ∷ 1 ∷ [])
