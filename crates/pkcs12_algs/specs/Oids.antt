-- Known object identifiers of algorithms, each by its arcs: the contents octets that spell them.
use Rattle.std.specs.Prelude.{ℕ, List, [], ◌∷◌}
use Rattle.asn1_core.specs.Der.{arcs}

-- an object identifier below rsadsi, 1.2.840.113549
abbrev rsadsi : List ℕ → List ℕ
rsadsi further = arcs (1 ∷ 2 ∷ 840 ∷ 113549 ∷ further)

-- an object identifier below nistAlgorithm, 2.16.840.1.101.3.4
abbrev nist_algorithm : List ℕ → List ℕ
nist_algorithm further = arcs (2 ∷ 16 ∷ 840 ∷ 1 ∷ 101 ∷ 3 ∷ 4 ∷ further)

-- id-sha1 (RFC 8017, appendix B.1)
abbrev pub sha1_oid : List ℕ
sha1_oid = arcs (1 ∷ 3 ∷ 14 ∷ 3 ∷ 2 ∷ 26 ∷ [])

-- id-sha224 (RFC 5754, 2.1)
abbrev pub sha224_oid : List ℕ
sha224_oid = nist_algorithm (2 ∷ 4 ∷ [])

-- id-sha256 (RFC 5754, 2.2)
abbrev pub sha256_oid : List ℕ
sha256_oid = nist_algorithm (2 ∷ 1 ∷ [])

-- id-sha384 (RFC 5754, 2.3)
abbrev pub sha384_oid : List ℕ
sha384_oid = nist_algorithm (2 ∷ 2 ∷ [])

-- id-sha512 (RFC 5754, 2.4)
abbrev pub sha512_oid : List ℕ
sha512_oid = nist_algorithm (2 ∷ 3 ∷ [])

-- id-hmacWithSHA1 (RFC 8018, appendix B.1.1)
abbrev pub hmac_with_sha1_oid : List ℕ
hmac_with_sha1_oid = rsadsi (2 ∷ 7 ∷ [])

-- id-hmacWithSHA224 (RFC 8018, appendix B.1.2)
abbrev pub hmac_with_sha224_oid : List ℕ
hmac_with_sha224_oid = rsadsi (2 ∷ 8 ∷ [])

-- id-hmacWithSHA256 (RFC 8018, appendix B.1.2)
abbrev pub hmac_with_sha256_oid : List ℕ
hmac_with_sha256_oid = rsadsi (2 ∷ 9 ∷ [])

-- id-hmacWithSHA384 (RFC 8018, appendix B.1.2)
abbrev pub hmac_with_sha384_oid : List ℕ
hmac_with_sha384_oid = rsadsi (2 ∷ 10 ∷ [])

-- id-hmacWithSHA512 (RFC 8018, appendix B.1.2)
abbrev pub hmac_with_sha512_oid : List ℕ
hmac_with_sha512_oid = rsadsi (2 ∷ 11 ∷ [])

-- pbeWithSHAAnd3-KeyTripleDES-CBC (RFC 7292, appendix C)
abbrev pub sha_and_3_key_3_des_cbc_oid : List ℕ
sha_and_3_key_3_des_cbc_oid = rsadsi (1 ∷ 12 ∷ 1 ∷ 3 ∷ [])

-- pbewithSHAAnd40BitRC2-CBC (RFC 7292, appendix C)
abbrev pub sha_and_40_bit_rc2_cbc_oid : List ℕ
sha_and_40_bit_rc2_cbc_oid = rsadsi (1 ∷ 12 ∷ 1 ∷ 6 ∷ [])

-- id-PBKDF2 (RFC 8018, appendix A.2)
abbrev pub pbkdf2_oid : List ℕ
pbkdf2_oid = rsadsi (1 ∷ 5 ∷ 12 ∷ [])

-- id-PBES2 (RFC 8018, appendix A.4)
abbrev pub pbes2_oid : List ℕ
pbes2_oid = rsadsi (1 ∷ 5 ∷ 13 ∷ [])

-- aes128-CBC-PAD (RFC 8018, appendix B.2.5)
abbrev pub aes128_cbc_pad_oid : List ℕ
aes128_cbc_pad_oid = nist_algorithm (1 ∷ 2 ∷ [])

-- aes192-CBC-PAD (RFC 8018, appendix B.2.5)
abbrev pub aes192_cbc_pad_oid : List ℕ
aes192_cbc_pad_oid = nist_algorithm (1 ∷ 22 ∷ [])

-- aes256-CBC-PAD (RFC 8018, appendix B.2.5)
abbrev pub aes256_cbc_pad_oid : List ℕ
aes256_cbc_pad_oid = nist_algorithm (1 ∷ 42 ∷ [])
