-- The files of a drill: a root zone that delegates to so many zones, each on a server of its own with glue, and in each
-- zone an alias into the next one. Of ten zones one has an alias to a name that doesn't exist, and one an address of its
-- name server that isn't the one of the glue.
use Rattle.std.specs.Prelude.{ℕ, ◌+◌, ◌/◌, ◌%◌, nat_lt, List, [], ◌∷◌, ◌++◌, map, codes, if◌then◌else◌, ◌==◌}
use Rattle.std.specs.Fmt.{decimal}
use Rattle.std.specs.List.{flat_map, range_with_len}
use Rattle.io_edges.specs.MemoryFiles.{FilesInMemory, no_files, with_file}

-- the numbers of the zones
abbrev pub zone_numbers : ℕ → List ℕ
zone_numbers n = range_with_len 0 n

-- the number of the next zone; after the last one comes the first
abbrev pub next_zone : ℕ → ℕ → ℕ
next_zone n i = if nat_lt (i + 1) n then i + 1 else 0

-- the end of a line with an address record: the address of the zone with this number in one of the networks 10.0.0.0,
-- 10.1.0.0 and 10.2.0.0, each with 16 bits
abbrev pub address_end : ℕ → ℕ → List ℕ
address_end network i =
    codes ". A 10." ++ decimal network ++ codes "." ++ decimal (i / 256) ++ codes "." ++ decimal (i % 256) ++ codes "\n"

-- the row of a zone in the metadata
abbrev pub meta_row : ℕ → List ℕ
meta_row i = codes ",{\"FileName\":\"z" ++ decimal i ++ codes ".zone\",\"NameServer\":\"ns.z" ++ decimal i ++ codes ".\"}"

-- the metadata up to the last row: the root zone on its server, which is the top server, and each zone on its own
abbrev pub meta_rows : ℕ → List ℕ
meta_rows n =
    codes "{\"TopNameServers\":[\"a.top.\"],\"ZoneFiles\":[{\"FileName\":\"root.zone\",\"NameServer\":\"a.top.\"}"
    ++ flat_map meta_row (zone_numbers n)

-- the metadata
abbrev pub meta_text : ℕ → List ℕ
meta_text n = meta_rows n ++ codes "]}"

-- the delegation of a zone to its name server
abbrev pub delegation_line : ℕ → List ℕ
delegation_line i = codes "z" ++ decimal i ++ codes ". NS ns.z" ++ decimal i ++ codes ".\n"

-- the address of a zone's name server, which in the root zone is glue
abbrev pub server_line : ℕ → ℕ → List ℕ
server_line network i = codes "ns.z" ++ decimal i ++ address_end network i

-- a zone in the root zone
abbrev pub referral_lines : ℕ → List ℕ
referral_lines i = delegation_line i ++ server_line 0 i

-- the root zone
abbrev pub root_text : ℕ → List ℕ
root_text n = codes "$TTL 60\n. SOA a.top. h.top. 1 2 3 4 5\n. NS a.top.\n" ++ flat_map referral_lines (zone_numbers n)

-- the mailbox and the numbers of the zone's start of authority
abbrev pub soa_end : ℕ → List ℕ
soa_end i = codes ". h.z" ++ decimal i ++ codes ". 1 2 3 4 5\n"

-- the zone's start of authority
abbrev pub soa_line : ℕ → List ℕ
soa_line i = codes "z" ++ decimal i ++ codes ". SOA ns.z" ++ decimal i ++ soa_end i

-- the address of the zone's web server
abbrev pub web_line : ℕ → List ℕ
web_line i = codes "www.z" ++ decimal i ++ address_end 1 i

-- the alias into another zone
abbrev pub alias_line : ℕ → ℕ → List ℕ
alias_line i to = codes "alias.z" ++ decimal i ++ codes ". CNAME www.z" ++ decimal to ++ codes ".\n"

-- the alias to a name that doesn't exist, of one zone in ten
abbrev pub gone_line : ℕ → List ℕ
gone_line i =
    if i % 10 == 3 then codes "gone.z" ++ decimal i ++ codes ". CNAME none.z" ++ decimal i ++ codes ".\n" else []

-- the network of the name server's address in its own zone: of one zone in ten it isn't that of the glue
abbrev pub own_network : ℕ → ℕ
own_network i = if i % 10 == 7 then 2 else 0

-- a zone of so many
abbrev pub made_zone_text : ℕ → ℕ → List ℕ
made_zone_text n i =
    codes "$TTL 60\n" ++ soa_line i ++ delegation_line i ++ server_line (own_network i) i ++ web_line i
    ++ alias_line i (next_zone n i) ++ gone_line i

-- the name of a zone's file
abbrev pub zone_file : ℕ → List ℕ
zone_file i = codes "z" ++ decimal i ++ codes ".zone"

-- the files, each with its name
abbrev pub drill_files : ℕ → List (List ℕ × List ℕ)
drill_files n =
    (codes "meta.json", meta_text n) ∷ (codes "root.zone", root_text n)
    ∷ map (λ i. (zone_file i, made_zone_text n i)) (zone_numbers n)

-- the files with more of them, put in one after the other
abbrev pub with_files : FilesInMemory → List (List ℕ × List ℕ) → FilesInMemory
with_files files [] = files
with_files files ((name, text) ∷ rest) = with_files (with_file files name text) rest

-- the files of a drill in memory, at which no call fails
abbrev pub drill : ℕ → FilesInMemory
drill n = with_files (no_files []) (drill_files n)
