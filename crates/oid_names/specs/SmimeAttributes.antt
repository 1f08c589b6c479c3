-- Names of attributes of S/MIME and of signature policies. Made of asn1/object_identifiers.txt.
use Rattle.std.specs.Prelude.{ℕ, List, [], ◌∷◌, codes}
use Rattle.asn1_core_oid.specs.Arcs.{arcs}

abbrev pub smime_attributes_names : List (List ℕ × List ℕ)
smime_attributes_names =
    (arcs (1 ∷ 2 ∷ 840 ∷ 113549 ∷ 1 ∷ 9 ∷ 16 ∷ 2 ∷ 1 ∷ []), codes "id-smime-aa-receiptRequest") ∷
    (arcs (1 ∷ 2 ∷ 840 ∷ 113549 ∷ 1 ∷ 9 ∷ 16 ∷ 2 ∷ 2 ∷ []), codes "id-smime-aa-securityLabel") ∷
    (arcs (1 ∷ 2 ∷ 840 ∷ 113549 ∷ 1 ∷ 9 ∷ 16 ∷ 2 ∷ 3 ∷ []), codes "id-smime-aa-mlExpandHistory") ∷
    (arcs (1 ∷ 2 ∷ 840 ∷ 113549 ∷ 1 ∷ 9 ∷ 16 ∷ 2 ∷ 4 ∷ []), codes "id-smime-aa-contentHint") ∷
    (arcs (1 ∷ 2 ∷ 840 ∷ 113549 ∷ 1 ∷ 9 ∷ 16 ∷ 2 ∷ 5 ∷ []), codes "id-smime-aa-msgSigDigest") ∷
    (arcs (1 ∷ 2 ∷ 840 ∷ 113549 ∷ 1 ∷ 9 ∷ 16 ∷ 2 ∷ 7 ∷ []), codes "id-smime-aa-contentIdentifier") ∷
    (arcs (1 ∷ 2 ∷ 840 ∷ 113549 ∷ 1 ∷ 9 ∷ 16 ∷ 2 ∷ 9 ∷ []), codes "id-smime-aa-equivalentLabels") ∷
    (arcs (1 ∷ 2 ∷ 840 ∷ 113549 ∷ 1 ∷ 9 ∷ 16 ∷ 2 ∷ 10 ∷ []), codes "id-smime-aa-contentReference") ∷
    (arcs (1 ∷ 2 ∷ 840 ∷ 113549 ∷ 1 ∷ 9 ∷ 16 ∷ 2 ∷ 11 ∷ []), codes "id-smime-aa-encrypKeyPref") ∷
    (arcs (1 ∷ 2 ∷ 840 ∷ 113549 ∷ 1 ∷ 9 ∷ 16 ∷ 2 ∷ 12 ∷ []), codes "id-smime-aa-signingCertificate") ∷
    (arcs (1 ∷ 2 ∷ 840 ∷ 113549 ∷ 1 ∷ 9 ∷ 16 ∷ 2 ∷ 14 ∷ []), codes "id-smime-aa-timeStampToken") ∷
    (arcs (1 ∷ 2 ∷ 840 ∷ 113549 ∷ 1 ∷ 9 ∷ 16 ∷ 2 ∷ 15 ∷ []), codes "id-smime-aa-ets-sigPolicyId") ∷
    (arcs (1 ∷ 2 ∷ 840 ∷ 113549 ∷ 1 ∷ 9 ∷ 16 ∷ 2 ∷ 16 ∷ []), codes "id-smime-aa-ets-commitmentType") ∷
    (arcs (1 ∷ 2 ∷ 840 ∷ 113549 ∷ 1 ∷ 9 ∷ 16 ∷ 2 ∷ 17 ∷ []), codes "id-smime-aa-ets-signerLocation") ∷
    (arcs (1 ∷ 2 ∷ 840 ∷ 113549 ∷ 1 ∷ 9 ∷ 16 ∷ 2 ∷ 18 ∷ []), codes "id-smime-aa-ets-signerAttr") ∷
    (arcs (1 ∷ 2 ∷ 840 ∷ 113549 ∷ 1 ∷ 9 ∷ 16 ∷ 2 ∷ 19 ∷ []), codes "id-smime-aa-ets-otherSigCert") ∷
    (arcs (1 ∷ 2 ∷ 840 ∷ 113549 ∷ 1 ∷ 9 ∷ 16 ∷ 2 ∷ 20 ∷ []), codes "id-smime-aa-ets-contentTimestamp") ∷
    (arcs (1 ∷ 2 ∷ 840 ∷ 113549 ∷ 1 ∷ 9 ∷ 16 ∷ 2 ∷ 21 ∷ []), codes "id-smime-aa-ets-CertificateRefs") ∷
    (arcs (1 ∷ 2 ∷ 840 ∷ 113549 ∷ 1 ∷ 9 ∷ 16 ∷ 2 ∷ 22 ∷ []), codes "id-smime-aa-ets-RevocationRefs") ∷
    (arcs (1 ∷ 2 ∷ 840 ∷ 113549 ∷ 1 ∷ 9 ∷ 16 ∷ 2 ∷ 23 ∷ []), codes "id-smime-aa-ets-certValues") ∷
    (arcs (1 ∷ 2 ∷ 840 ∷ 113549 ∷ 1 ∷ 9 ∷ 16 ∷ 2 ∷ 24 ∷ []), codes "id-smime-aa-ets-revocationValues") ∷
    (arcs (1 ∷ 2 ∷ 840 ∷ 113549 ∷ 1 ∷ 9 ∷ 16 ∷ 2 ∷ 25 ∷ []), codes "id-smime-aa-ets-escTimeStamp") ∷
    (arcs (1 ∷ 2 ∷ 840 ∷ 113549 ∷ 1 ∷ 9 ∷ 16 ∷ 2 ∷ 26 ∷ []), codes "id-smime-aa-ets-certCRLTimestamp") ∷
    (arcs (1 ∷ 2 ∷ 840 ∷ 113549 ∷ 1 ∷ 9 ∷ 16 ∷ 2 ∷ 27 ∷ []), codes "id-smime-aa-ets-archiveTimeStamp") ∷
    (arcs (1 ∷ 2 ∷ 840 ∷ 113549 ∷ 1 ∷ 9 ∷ 16 ∷ 2 ∷ 47 ∷ []), codes "id-smime-aa-signingCertificateV2") ∷
    (arcs (1 ∷ 2 ∷ 840 ∷ 113549 ∷ 1 ∷ 9 ∷ 16 ∷ 2 ∷ 48 ∷ []), codes "id-aa-ets-archiveTimestampV2") ∷
    (arcs (1 ∷ 2 ∷ 840 ∷ 113549 ∷ 1 ∷ 9 ∷ 16 ∷ 6 ∷ 1 ∷ []), codes "id-smime-cti-ets-proofOfOrigin") ∷
    (arcs (1 ∷ 2 ∷ 840 ∷ 113549 ∷ 1 ∷ 9 ∷ 16 ∷ 6 ∷ 2 ∷ []), codes "id-smime-cti-ets-proofOfReceipt") ∷ []
