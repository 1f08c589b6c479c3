-- The ranges of an algorithm in what holds it, and of what is encrypted.
use Rattle.std.specs.Prelude.{◌≡◌, ℕ, List, Option, None, Some}
use Rattle.std.specs.declared.ops.Range.{Range}
use Rattle.std.proofs.Common.{refl}
use Rattle.asn1_core.specs.Der.{Octets}
use Rattle.asn1_core_format.specs.Whole.{IsValueOf}
use Rattle.asn1_located.specs.Places.{Walk}
use Rattle.asn1_located.specs.declared.walks.Place.{Place}
use Rattle.located_rows.proofs.RowLaws.{range_is}
use Rattle.located_rows.specs.Rows.{LeadsTo}
use Rattle.password_ranges.proofs.Moved.{all_moved}
use Rattle.password_ranges.specs.Heads.{encrypted_info_head, encrypted_key_head}
use Rattle.password_ranges.specs.Holders.{AreContentsRanges, AreEncryptedAt, AreKeyRanges, EncryptedLead, IsPlaceIf, algorithm_of, encrypted_info, encrypted_key, encrypted_of}
use Rattle.password_ranges.specs.PasswordRoutes.{contents_algorithm, contents_encrypted, encrypted_content, key_algorithm, key_encrypted}
use Rattle.password_ranges.specs.Passwords.{ArePasswordRanges, leading}
use Rattle.password_ranges.specs.declared.ranges.PasswordRanges.{PasswordRanges}

module _ (b : List ℕ) (v : encrypted_key_head.Value) (is : IsValueOf encrypted_key 64 b v) (place : Place) (at : IsPlaceIf key_algorithm.steps b place) where
  to_key_algorithm : Walk key_algorithm.steps 0 b place.start place.octets.now
  to_key_algorithm = let f = key_algorithm.found 64 v v.0 refl 0 b is.reads in at.at f.0 f.1 f.2

  pub key_is : (a : PasswordRanges) → ArePasswordRanges (leading place.start place.octets.now) v.0 a → (e : Range ℕ) → LeadsTo key_encrypted.steps 0 b e.start e.end → AreKeyRanges b (record { algorithm = a; encrypted = Some e })
  key_is a led e leads = record {
    value = v;
    is_value = is;
    algorithm_are = all_moved key_algorithm b v is v.0 refl place.start place.octets.now to_key_algorithm a led;
    encrypted_at = range_is key_encrypted 64 b v is.reads v.1.0 (v.1.0, refl, refl) e.start e.end leads;
  }

module _ (b : List ℕ) (v : encrypted_info_head.Value) (is : IsValueOf encrypted_info 64 b v) (place : Place) (at : IsPlaceIf contents_algorithm.steps b place) where
  content_part : encrypted_content.IsPart v v.1.0.1.0
  content_part = (v.1.0, refl, (v.1.0, refl, refl))

  algorithm_part : contents_algorithm.IsPart v (algorithm_of v)
  algorithm_part = (v.1.0.1.0, content_part, refl)

  to_contents_algorithm : Walk contents_algorithm.steps 0 b place.start place.octets.now
  to_contents_algorithm = let f = contents_algorithm.found 64 v (algorithm_of v) algorithm_part 0 b is.reads in at.at f.0 f.1 f.2

  encrypted_is : (o : Option Octets) → encrypted_of v ≡ o → (r : Option (Range ℕ)) → EncryptedLead b o r → AreEncryptedAt contents_encrypted b v o r
  encrypted_is None e None led = tt
  encrypted_is None e (Some r) led = absurd led
  encrypted_is (Some x) e None led = absurd led
  encrypted_is (Some x) e (Some r) led = range_is contents_encrypted 64 b v is.reads x (v.1.0.1.0, content_part, (x, e, refl)) r.start r.end led

  pub contents_are : (a : PasswordRanges) → ArePasswordRanges (leading place.start place.octets.now) (algorithm_of v) a → (e : Option (Range ℕ)) → EncryptedLead b (encrypted_of v) e → AreContentsRanges b (record { algorithm = a; encrypted = e })
  contents_are a led e leads = record {
    value = v;
    is_value = is;
    algorithm_are = all_moved contents_algorithm b v is (algorithm_of v) algorithm_part place.start place.octets.now to_contents_algorithm a led;
    encrypted_at = encrypted_is (encrypted_of v) refl e leads;
  }
