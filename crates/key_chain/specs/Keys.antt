-- Delegations' signers and the keys that they match (RFC 4034, RFC 4509, RFC 6605).
use Rattle.std.specs.Prelude.{ℕ, ◌+◌, ◌-◌, ◌*◌, ◌/◌, ◌%◌, ◌^◌, Bool, true, false, ◌&&◌, ◌||◌, not, nat_le, List, [], ◌∷◌, ◌++◌, length, reverse, slice_index, Option, Some, None, if◌then◌else◌, ◌==◌}
use Rattle.std.specs.List.{flat_map}
use Rattle.dns_data.specs.Name.{Labels}
use Rattle.dns_data.specs.Rdata.{octets_eq}
use Rattle.sha1.specs.Sha1.{sha1}
use Rattle.sha2.specs.Sha256.{sha256}
use Rattle.sha2.specs.Sha512.{sha384}
use Rattle.key_chain.specs.declared.digests.KeyDigests.{KeyDigests}
use Rattle.key_chain.specs.declared.keys.Key.{Key}
use Rattle.key_chain.specs.declared.keys.Signer.{Signer}

-- ---- records by their octets

-- how many octets a digest of this type has, where the type is one of those that are looked at: SHA-1, SHA-256, SHA-384
-- (RFC 4034 appendix A.2, RFC 4509 section 2.2, RFC 6605 section 2)
abbrev pub digest_length : ℕ → Option ℕ
digest_length kind =
    if kind == 1 then Some 20 else (if kind == 2 then Some 32 else (if kind == 4 then Some 48 else None))

-- a digest has as many octets as its type says; one of another type has some
abbrev pub has_length : Option ℕ → List ℕ → Bool
has_length (Some count) digest = length digest == count
has_length None digest = nat_le 1 (length digest)

-- the signer of these octets
abbrev pub signer_of : List ℕ → Option Signer
signer_of (a ∷ b ∷ algorithm ∷ kind ∷ digest) =
    if has_length (digest_length kind) digest
    then Some (record { tag = a * 256 + b; algorithm = algorithm; kind = kind; digest = digest }) else None
signer_of octets = None

-- ---- key tags (RFC 4034 appendix B)

-- an octet, taken 256 times if it is an upper one
abbrev pub weighted : Bool → ℕ → ℕ
weighted true octet = octet * 256
weighted false octet = octet

-- the sum of octets, of which every other one is an upper one, the first if so
unfoldable pub octet_sum : Bool → List ℕ → ℕ
octet_sum upper [] = 0
octet_sum upper (octet ∷ octets) = weighted upper octet + octet_sum (not upper) octets

-- the sum with its upper octets added
abbrev pub folded_sum : ℕ → ℕ
folded_sum sum = (sum + sum / 2 ^ 16 % 2 ^ 16) % 2 ^ 16

-- the two octets before the last of a key of RSA with MD5: the upper 16 of the lower 24 bits of its modulus (appendix B.1)
abbrev pub modulus_tag : List ℕ → ℕ
modulus_tag octets = slice_index octets (length octets - 3) * 256 + slice_index octets (length octets - 2)

-- the tag of a key with this algorithm and these octets
abbrev pub key_tag : ℕ → List ℕ → ℕ
key_tag algorithm octets = if algorithm == 1 then modulus_tag octets else folded_sum (octet_sum true octets)

-- the key with these fields, if its octets may be data
abbrev pub key_within : ℕ → ℕ → ℕ → List ℕ → Option Key
key_within flags protocol algorithm octets =
    if nat_le (length octets) 65535
    then Some (record { flags = flags; protocol = protocol; algorithm = algorithm; tag = key_tag algorithm octets; octets = octets })
    else None

-- the key of these octets, of which data have at most 65,535 (RFC 1035 section 3.2.1)
abbrev pub key_of : List ℕ → Option Key
key_of (a ∷ b ∷ protocol ∷ algorithm ∷ first ∷ rest) =
    key_within (a * 256 + b) protocol algorithm (a ∷ b ∷ protocol ∷ algorithm ∷ first ∷ rest)
key_of octets = None

-- ---- which keys are looked at

-- the flag of this value is set (RFC 4034 section 2.1.1)
abbrev pub has_flag : ℕ → ℕ → Bool
has_flag value flags = flags / value % 2 == 1

-- the key is a zone's, and not revoked: the flag of zone keys is 256, that of revoked ones 128; the protocol is 3 (RFC 4034
-- section 2.1, RFC 5011 section 2.1)
abbrev pub is_zone_key : Key → Bool
is_zone_key key = has_flag 256 key.flags && not (has_flag 128 key.flags) && (key.protocol == 3)

-- the key is a secure entry point (RFC 3757, RFC 4034 section 2.1.1)
abbrev pub is_entry_point : Key → Bool
is_entry_point key = has_flag 1 key.flags

-- ---- digests (RFC 4034 section 5.1.4)

-- the octets of a label on the wire: its length, and its own
abbrev pub label_octets : List ℕ → List ℕ
label_octets label = length label ∷ label

-- the octets of labels on the wire, the leaf first
abbrev pub wire_labels : Labels → List ℕ
wire_labels name = flat_map label_octets (reverse name)

-- the octets of a name on the wire, its letters lower case as all names have them here (RFC 4034 section 6.2)
abbrev pub wire_of : Labels → List ℕ
wire_of name = wire_labels name ++ 0 ∷ []

-- the digests of a key whose owner has these octets on the wire
abbrev pub digests_of : List ℕ → Key → KeyDigests
digests_of wire key = record { by_sha1 = sha1 (wire ++ key.octets); by_sha256 = sha256 (wire ++ key.octets); by_sha384 = sha384 (wire ++ key.octets) }

-- the digest of this type: SHA-1, SHA-256, SHA-384 (RFC 4034 appendix A.2, RFC 4509 section 2.2, RFC 6605 section 2); there
-- is none of a type that isn't looked at
abbrev pub digest_by : ℕ → KeyDigests → List ℕ
digest_by kind digests =
    if kind == 1 then digests.by_sha1 else (if kind == 2 then digests.by_sha256 else (if kind == 4 then digests.by_sha384 else []))

-- the signer is that of the key with these digests
abbrev pub matches : KeyDigests → Signer → Key → Bool
matches digests signer key =
    (signer.tag == key.tag) && (signer.algorithm == key.algorithm) && octets_eq signer.digest (digest_by signer.kind digests)

-- ---- which signers are looked at

-- the type of the digest is SHA-256 or SHA-384
abbrev pub is_strong : Signer → Bool
is_strong signer = (signer.kind == 2) || (signer.kind == 4)

-- the type of the digest is one of the three
abbrev pub is_known : Signer → Bool
is_known signer = (signer.kind == 1) || is_strong signer

-- beside a signer by a stronger digest one by SHA-1 isn't looked at (RFC 4509 section 3)
abbrev pub is_tried : Bool → Signer → Bool
is_tried has_strong signer = if has_strong then is_strong signer else is_known signer
