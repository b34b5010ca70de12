-- The records of drills as rows, and that each row reads.
use Rattle.std.proofs.Common.{◌≡◌, ℕ, zero, suc, ◌+◌, ◌*◌, ◌/◌, ◌%◌, ◌<◌, ◌≤◌, Bool, true, false, List, [], ◌∷◌, length, codes, decimal, flat_map, Result, Ok, if◌then◌else◌, ◌==◌, nat_lt, refl, ap, ap₂, arith}
use Rattle.std.specs.List.{AllByRecursion, range_with_len}
use Rattle.dns_data.specs.Answers.{◌>>=◌, with_fault}
use Rattle.dns_data.specs.Name.{Labels}
use Rattle.dns_data.specs.declared.fault.NameFault.{NameFault}
use Rattle.dns_data.specs.declared.rdata.Rdata.TheVariants.{A, Ns, Cname, Soa}
use Rattle.dns_data.specs.declared.rr_type.RrType.TheVariants as types
use Rattle.master_lex.specs.Octets.{kind}
use Rattle.rdata_forms.specs.declared.fault.RdataFault.TheVariants.{BadName}
use Rattle.master_read.specs.Words.{class_word, type_word, is_some_word}
use Rattle.zone_maker.specs.Drill.{zone_numbers, next_zone, own_network}
use Rattle.drill_laws.proofs.Lines.{IsWord}
use Rattle.drill_laws.proofs.Rows.{Row, IsRow, IsTypeText}
use Rattle.drill_laws.proofs.Parts.{IsNumber, number_of, word_of}
use Rattle.drill_laws.proofs.Names.{zone_name, host_name, zone_name_text, host_name_text, zone_named, host_named, zone_name_word, host_name_word, ns_host, www_host, alias_host, gone_host, none_host, mailbox_host}
use Rattle.drill_laws.proofs.Addresses.{address_text, address_of, address_reads, address_part}

-- ---- the rows

-- the NS record of a zone, at its own name
abbrev pub delegation_row : List ℕ → Row
delegation_row number = record {
  owner_text = zone_name_text number;
  type_text = codes "NS";
  fields = host_name_text (codes "ns") number ∷ [];
  owner = zone_name number;
  rtype = types.Ns;
  rdata = Ns (host_name (codes "ns") number);
}

-- an address of a host in the zone with this number
abbrev pub address_row : List ℕ → ℕ → ℕ → Row
address_row host network i = record {
  owner_text = host_name_text host (decimal i);
  type_text = codes "A";
  fields = address_text network (i / 256) (i % 256) ∷ [];
  owner = host_name host (decimal i);
  rtype = types.A;
  rdata = A (address_of network (i / 256) (i % 256));
}

-- the SOA record of a zone
abbrev pub soa_row : List ℕ → Row
soa_row number = record {
  owner_text = zone_name_text number;
  type_text = codes "SOA";
  fields = host_name_text (codes "ns") number ∷ host_name_text (codes "h") number ∷ codes "1" ∷ codes "2" ∷ codes "3" ∷ codes "4" ∷ codes "5" ∷ [];
  owner = zone_name number;
  rtype = types.Soa;
  rdata = Soa (host_name (codes "ns") number) (host_name (codes "h") number) 1 2 3 4 5;
}

-- an alias of a host in the zone with the first number to one in the zone with the second
abbrev pub alias_row : List ℕ → List ℕ → List ℕ → List ℕ → Row
alias_row host number target other = record {
  owner_text = host_name_text host number;
  type_text = codes "CNAME";
  fields = host_name_text target other ∷ [];
  owner = host_name host number;
  rtype = types.Cname;
  rdata = Cname (host_name target other);
}

-- the SOA record of the root zone
abbrev pub root_soa : Row
root_soa = record {
  owner_text = codes ".";
  type_text = codes "SOA";
  fields = codes "a.top." ∷ codes "h.top." ∷ codes "1" ∷ codes "2" ∷ codes "3" ∷ codes "4" ∷ codes "5" ∷ [];
  owner = [];
  rtype = types.Soa;
  rdata = Soa (codes "top" ∷ codes "a" ∷ []) (codes "top" ∷ codes "h" ∷ []) 1 2 3 4 5;
}

-- the NS record of the root zone
abbrev pub root_ns : Row
root_ns = record {
  owner_text = codes ".";
  type_text = codes "NS";
  fields = codes "a.top." ∷ [];
  owner = [];
  rtype = types.Ns;
  rdata = Ns (codes "top" ∷ codes "a" ∷ []);
}

-- a zone in the root zone
abbrev pub referral_rows : ℕ → List Row
referral_rows i = delegation_row (decimal i) ∷ address_row (codes "ns") 0 i ∷ []

-- the records of the root zone of a drill with so many zones
abbrev pub root_rows : ℕ → List Row
root_rows n = root_soa ∷ root_ns ∷ flat_map referral_rows (zone_numbers n)

-- the alias to a name that doesn't exist, where the zone has one
abbrev pub gone_rows : ℕ → List Row
gone_rows i = if i % 10 == 3 then alias_row (codes "gone") (decimal i) (codes "none") (decimal i) ∷ [] else []

-- a zone of so many
abbrev pub zone_rows : ℕ → ℕ → List Row
zone_rows n i =
    soa_row (decimal i) ∷ delegation_row (decimal i) ∷ address_row (codes "ns") (own_network i) i ∷ address_row (codes "www") 1 i
    ∷ alias_row (codes "alias") (decimal i) (codes "www") (decimal (next_zone n i)) ∷ gone_rows i

-- ---- words of types and numbers

ns_type : IsTypeText (codes "NS") types.Ns
unfolding class_word type_word is_some_word
ns_type = record { no_ttl = refl; no_class = refl; known = refl }

a_type : IsTypeText (codes "A") types.A
unfolding class_word type_word is_some_word
a_type = record { no_ttl = refl; no_class = refl; known = refl }

soa_type : IsTypeText (codes "SOA") types.Soa
unfolding class_word type_word is_some_word
soa_type = record { no_ttl = refl; no_class = refl; known = refl }

cname_type : IsTypeText (codes "CNAME") types.Cname
unfolding class_word type_word is_some_word
cname_type = record { no_ttl = refl; no_class = refl; known = refl }

ns_word : IsWord (codes "NS")
unfolding kind
ns_word = record { plain = refl; some = omega arith; short = omega arith }

a_word : IsWord (codes "A")
unfolding kind
a_word = record { plain = refl; some = omega arith; short = omega arith }

soa_word : IsWord (codes "SOA")
unfolding kind
soa_word = record { plain = refl; some = omega arith; short = omega arith }

cname_word : IsWord (codes "CNAME")
unfolding kind
cname_word = record { plain = refl; some = omega arith; short = omega arith }

dot_word : IsWord (codes ".")
unfolding kind
dot_word = record { plain = refl; some = omega arith; short = omega arith }

top_word : IsWord (codes "a.top.")
unfolding kind
top_word = record { plain = refl; some = omega arith; short = omega arith }

mailbox_word : IsWord (codes "h.top.")
unfolding kind
mailbox_word = record { plain = refl; some = omega arith; short = omega arith }

-- the numbers of a start of authority
numbers_words : AllByRecursion IsWord (codes "1" ∷ codes "2" ∷ codes "3" ∷ codes "4" ∷ codes "5" ∷ [])
unfolding kind
numbers_words = (
  record { plain = refl; some = omega arith; short = omega arith },
  (
    record { plain = refl; some = omega arith; short = omega arith },
    (
      record { plain = refl; some = omega arith; short = omega arith },
      (
        record { plain = refl; some = omega arith; short = omega arith },
        (record { plain = refl; some = omega arith; short = omega arith }, tt),
      ),
    ),
  ),
)

-- ---- each row reads

delegation_is : (number : List ℕ) → IsNumber number → IsRow (delegation_row number)
delegation_is number is = record {
  line = record { some = omega arith; plain = (zone_name_word number is, (ns_word, (host_name_word (codes "ns") number ns_host is, tt))) };
  no_directive = refl;
  owner_reads = zone_named number is;
  type_reads = ns_type;
  data_reads = ap (λ (said : Result Labels NameFault). with_fault BadName said >>= (λ target. Ok (Ns target))) (host_named (codes "ns") number ns_host is);
}

-- the two numbers of an address behind its network
high_fits : (i : ℕ) → i < 10000 → i / 256 < 256
high_fits i small = omega arith

low_fits : (i : ℕ) → i % 256 < 256
low_fits i = omega arith

address_word : (network i : ℕ) → network < 256 → i < 10000 → IsWord (address_text network (i / 256) (i % 256))
address_word network i fits small =
    word_of 17 (address_text network (i / 256) (i % 256)) (omega arith) (omega arith)
    (address_part network (i / 256) (i % 256) fits (high_fits i small) (low_fits i))

server_is : (network i : ℕ) → network < 256 → i < 10000 → IsRow (address_row (codes "ns") network i)
server_is network i fits small = record {
  line = record { some = omega arith; plain = (host_name_word (codes "ns") (decimal i) ns_host (number_of i small), (a_word, (address_word network i fits small, tt))) };
  no_directive = refl;
  owner_reads = host_named (codes "ns") (decimal i) ns_host (number_of i small);
  type_reads = a_type;
  data_reads = address_reads network (i / 256) (i % 256) fits (high_fits i small) (low_fits i);
}

web_is : (network i : ℕ) → network < 256 → i < 10000 → IsRow (address_row (codes "www") network i)
web_is network i fits small = record {
  line = record { some = omega arith; plain = (host_name_word (codes "www") (decimal i) www_host (number_of i small), (a_word, (address_word network i fits small, tt))) };
  no_directive = refl;
  owner_reads = host_named (codes "www") (decimal i) www_host (number_of i small);
  type_reads = a_type;
  data_reads = address_reads network (i / 256) (i % 256) fits (high_fits i small) (low_fits i);
}

soa_is : (number : List ℕ) → IsNumber number → IsRow (soa_row number)
soa_is number is = record {
  line = record { some = omega arith; plain = (zone_name_word number is, (soa_word, (host_name_word (codes "ns") number ns_host is, (host_name_word (codes "h") number mailbox_host is, numbers_words)))) };
  no_directive = refl;
  owner_reads = zone_named number is;
  type_reads = soa_type;
  data_reads = ap₂ (λ (server mailbox : Result Labels NameFault). with_fault BadName server >>= (λ mname. with_fault BadName mailbox >>= (λ rname. Ok (Soa mname rname 1 2 3 4 5))))
      (host_named (codes "ns") number ns_host is) (host_named (codes "h") number mailbox_host is);
}

alias_is : (number other : List ℕ) → IsNumber number → IsNumber other → IsRow (alias_row (codes "alias") number (codes "www") other)
alias_is number other is other_is = record {
  line = record { some = omega arith; plain = (host_name_word (codes "alias") number alias_host is, (cname_word, (host_name_word (codes "www") other www_host other_is, tt))) };
  no_directive = refl;
  owner_reads = host_named (codes "alias") number alias_host is;
  type_reads = cname_type;
  data_reads = ap (λ (said : Result Labels NameFault). with_fault BadName said >>= (λ target. Ok (Cname target))) (host_named (codes "www") other www_host other_is);
}

gone_is : (number : List ℕ) → IsNumber number → IsRow (alias_row (codes "gone") number (codes "none") number)
gone_is number is = record {
  line = record { some = omega arith; plain = (host_name_word (codes "gone") number gone_host is, (cname_word, (host_name_word (codes "none") number none_host is, tt))) };
  no_directive = refl;
  owner_reads = host_named (codes "gone") number gone_host is;
  type_reads = cname_type;
  data_reads = ap (λ (said : Result Labels NameFault). with_fault BadName said >>= (λ target. Ok (Cname target))) (host_named (codes "none") number none_host is);
}

root_soa_is : IsRow root_soa
root_soa_is = record {
  line = record { some = omega arith; plain = (dot_word, (soa_word, (top_word, (mailbox_word, numbers_words)))) };
  no_directive = refl;
  owner_reads = refl;
  type_reads = soa_type;
  data_reads = refl;
}

root_ns_is : IsRow root_ns
root_ns_is = record {
  line = record { some = omega arith; plain = (dot_word, (ns_word, (top_word, tt))) };
  no_directive = refl;
  owner_reads = refl;
  type_reads = ns_type;
  data_reads = refl;
}

-- ---- the rows of the root zone

referrals_are : (a k : ℕ) → a + k ≤ 10000 → AllByRecursion IsRow (flat_map referral_rows (range_with_len a k))
referrals_are a zero fits = tt
referrals_are a (suc k) fits =
    let small : a < 10000 = omega arith in
    (delegation_is (decimal a) (number_of a small), (server_is 0 a (omega arith) small, referrals_are (a + 1) k (omega arith)))

referrals_count : (a k : ℕ) → length (flat_map referral_rows (range_with_len a k)) ≡ 2 * k
referrals_count a zero = refl
referrals_count a (suc k) = let rest = referrals_count (a + 1) k in omega arith

-- each row of the root zone is made of plain words that are read as what it says
pub root_rows_are : (n : ℕ) → n ≤ 5000 → AllByRecursion IsRow (root_rows n)
root_rows_are n few = (root_soa_is, (root_ns_is, referrals_are 0 n (omega arith)))

-- the root zone has two rows, and two more for each zone
pub root_rows_count : (n : ℕ) → length (root_rows n) ≡ 2 * n + 2
root_rows_count n = let rest = referrals_count 0 n in omega arith

-- ---- the rows of a zone

own_network_fits : (i : ℕ) → own_network i < 256
own_network_fits i = by (i % 10 == 7) where
  by : (b : Bool) → (if b then 2 else 0) < 256
  by true = omega arith
  by false = omega arith

next_fits : (n i : ℕ) → i < n → n ≤ 5000 → next_zone n i < 10000
next_fits n i within few = by (nat_lt (i + 1) n) where
  by : (b : Bool) → (if b then i + 1 else 0) < 10000
  by true = omega arith
  by false = omega arith

gone_are : (i : ℕ) → i < 10000 → AllByRecursion IsRow (gone_rows i)
gone_are i small = by (i % 10 == 3) where
  by : (b : Bool) → AllByRecursion IsRow (if b then alias_row (codes "gone") (decimal i) (codes "none") (decimal i) ∷ [] else [])
  by true = (gone_is (decimal i) (number_of i small), tt)
  by false = tt

gone_few : (i : ℕ) → length (gone_rows i) ≤ 1
gone_few i = by (i % 10 == 3) where
  by : (b : Bool) → length (if b then alias_row (codes "gone") (decimal i) (codes "none") (decimal i) ∷ [] else []) ≤ 1
  by true = omega arith
  by false = omega arith

-- each row of a zone is made of plain words that are read as what it says
pub zone_rows_are : (n i : ℕ) → i < n → n ≤ 5000 → AllByRecursion IsRow (zone_rows n i)
zone_rows_are n i within few =
    let small : i < 10000 = omega arith in
    let is = number_of i small in (
      soa_is (decimal i) is,
      (
        delegation_is (decimal i) is,
        (
          server_is (own_network i) i (own_network_fits i) small,
          (
            web_is 1 i (omega arith) small,
            (
              alias_is (decimal i) (decimal (next_zone n i)) is (number_of (next_zone n i) (next_fits n i within few)),
              gone_are i small,
            ),
          ),
        ),
      ),
    )

-- a zone has at most six rows
pub zone_rows_few : (n i : ℕ) → length (zone_rows n i) ≤ 6
zone_rows_few n i = let few = gone_few i in omega arith
