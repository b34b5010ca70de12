-- Signers and keys of RFCs, as their records are written, that match.
use Rattle.std.proofs.Common.{◌≡◌, Bool, true, false, [], ◌∷◌, codes, Option, Some, refl}
use Rattle.std.specs.Prelude.{option_and_then, option_map}
use Rattle.base64.specs.Decode.{groups_bytes, groups_error, scan_steps}
use Rattle.hex.specs.Hex.{decode_pairs}
use Rattle.sha1.specs.Sha1 as sha1
use Rattle.sha2.specs.Sha256 as sha256
use Rattle.sha2.specs.Sha512 as sha512
use Rattle.dns_data.specs.Name.{Labels}
use Rattle.dns_data.specs.declared.rdata.Rdata.{Rdata}
use Rattle.dns_data.specs.declared.rdata.Rdata.TheVariants.{Other}
use Rattle.kept_data.specs.Numbers.{algorithm_in, number_of_word}
use Rattle.key_chain.specs.Keys.{digests_of, matches, octet_sum, wire_of}
use Rattle.key_chain.specs.Records.{key_in, signer_in}

-- whether the signer of a DS record is that of the key of a DNSKEY record, if both have their form
abbrev matched : Labels → Rdata → Rdata → Option Bool
matched origin ds dnskey = option_and_then (λ signer. option_map (λ key. matches (digests_of (wire_of origin) key) signer key) (key_in dnskey)) (signer_in ds)

-- RFC 4034 section 5.4: the key of dskey.example.com.

dskey : Labels
dskey = codes "com" ∷ codes "example" ∷ codes "dskey" ∷ []

rsa_key : Rdata
rsa_key =
    Other (codes "DNSKEY")
    (codes "256" ∷ codes "3" ∷ codes "5" ∷ codes "AQOeiiR0GOMYkDshWoSKz9Xz" ∷ codes "fwJr1AYtsmx3TGkJaNXVbfi/" ∷ codes "2pHm822aJ5iI9BMzNXxeYCmZ"
    ∷ codes "DRD99WYwYqUSdjMmmAphXdvx" ∷ codes "egXd/M5+X7OrzKBaMbCVdFLU" ∷ codes "Uh6DhweJBjEVv5f2wwjM9Xzc" ∷ codes "nOf+EPbtG9DMBmADjFDc2w/r"
    ∷ codes "ljwvFw==" ∷ [])

rsa_sha1 :
    matched dskey (Other (codes "DS") (codes "60485" ∷ codes "5" ∷ codes "1" ∷ codes "2BB183AF5F22588179A53B0A" ∷ codes "98631FAD1A292118" ∷ [])) rsa_key
    ≡ Some true
unfolding sha1.first_words sha1.schedule sha1.rounds sha1.compress sha1.hash_after sha1.digest_bytes sha1.sha1 octet_sum algorithm_in number_of_word decode_pairs groups_error scan_steps groups_bytes dskey rsa_key
rsa_sha1 = refl

-- RFC 4509 section 2.3: the same key

rsa_sha256 :
    matched dskey
    (Other (codes "DS") (codes "60485" ∷ codes "5" ∷ codes "2" ∷ codes "D4B7D520E7BB5F0F67674A0C" ∷ codes "CEB1E3E0614B93C4F9E99B83" ∷ codes "83F6A1E4469DA50A" ∷ []))
    rsa_key
    ≡ Some true
unfolding sha256.first_words sha256.schedule sha256.rounds sha256.compress sha256.hash_after sha256.digest_bytes sha256.sha256 octet_sum algorithm_in number_of_word decode_pairs groups_error scan_steps groups_bytes dskey rsa_key
rsa_sha256 = refl

-- RFC 6605 section 6.1: a key of example.net. for ECDSA with P-256

example_net : Labels
example_net = codes "net" ∷ codes "example" ∷ []

p256_sha256 :
    matched example_net
    (Other (codes "DS") (codes "55648" ∷ codes "13" ∷ codes "2" ∷ codes "b4c8c1fe2e7477127b27115656ad6256f424625bf5c1" ∷ codes "e2770ce6d6e37df61d17" ∷ []))
    (Other (codes "DNSKEY")
    (codes "257" ∷ codes "3" ∷ codes "13" ∷ codes "GojIhhXUN/u4v54ZQqGSnyhWJwaubCvTmeexv7bR6edb" ∷ codes "krSqQpF64cYbcB7wNcP+e+MAnLr+Wi9xMWyQLc8NAA==" ∷ []))
    ≡ Some true
unfolding sha256.first_words sha256.schedule sha256.rounds sha256.compress sha256.hash_after sha256.digest_bytes sha256.sha256 octet_sum algorithm_in number_of_word decode_pairs groups_error scan_steps groups_bytes example_net
p256_sha256 = refl

-- RFC 6605 section 6.2: the same with P-384

p384_sha384 :
    matched example_net
    (Other (codes "DS")
    (codes "10771" ∷ codes "14" ∷ codes "4" ∷ codes "72d7b62976ce06438e9c0bf319013cf801f09ecc84b8" ∷ codes "d7e9495f27e305c6a9b0563a9b5f4d288405c3008a94"
    ∷ codes "6df983d6" ∷ []))
    (Other (codes "DNSKEY")
    (codes "257" ∷ codes "3" ∷ codes "14" ∷ codes "xKYaNhWdGOfJ+nPrL8/arkwf2EY3MDJ+SErKivBVSum1" ∷ codes "w/egsXvSADtNJhyem5RCOpgQ6K8X1DRSEkrbYQ+OB+v8"
    ∷ codes "/uX45NBwY8rp65F6Glur8I/mlVNgF6W/qTI37m40" ∷ []))
    ≡ Some true
unfolding sha512.first_words sha512.schedule sha512.rounds sha512.compress sha512.hash_after sha512.digest_bytes sha512.sha384 octet_sum algorithm_in number_of_word decode_pairs groups_error scan_steps groups_bytes example_net
p384_sha384 = refl

-- a digest over another name doesn't match

other_name :
    matched (codes "net" ∷ codes "sample" ∷ [])
    (Other (codes "DS") (codes "55648" ∷ codes "13" ∷ codes "2" ∷ codes "b4c8c1fe2e7477127b27115656ad6256f424625bf5c1" ∷ codes "e2770ce6d6e37df61d17" ∷ []))
    (Other (codes "DNSKEY")
    (codes "257" ∷ codes "3" ∷ codes "13" ∷ codes "GojIhhXUN/u4v54ZQqGSnyhWJwaubCvTmeexv7bR6edb" ∷ codes "krSqQpF64cYbcB7wNcP+e+MAnLr+Wi9xMWyQLc8NAA==" ∷ []))
    ≡ Some false
unfolding sha256.first_words sha256.schedule sha256.rounds sha256.compress sha256.hash_after sha256.digest_bytes sha256.sha256 octet_sum algorithm_in number_of_word decode_pairs groups_error scan_steps groups_bytes example_net
other_name = refl
