-- Files of drills, as they are printed.
use Rattle.std.proofs.Common.{◌≡◌, codes, refl}
use Rattle.std.specs.Fmt.{digits}
use Rattle.zone_maker.specs.Drill.{meta_text, root_text, zone_file, made_zone_text}

-- the only zone of a drill has its alias into itself
only : made_zone_text 1 0
    ≡ codes "$TTL 60\nz0. SOA ns.z0. h.z0. 1 2 3 4 5\nz0. NS ns.z0.\nns.z0. A 10.0.0.0\nwww.z0. A 10.1.0.0\nalias.z0. CNAME www.z0.\n"
unfolding digits
only = refl

-- the fourth of ten has an alias to a name that doesn't exist
fourth : made_zone_text 10 3
    ≡ codes "$TTL 60\nz3. SOA ns.z3. h.z3. 1 2 3 4 5\nz3. NS ns.z3.\nns.z3. A 10.0.0.3\nwww.z3. A 10.1.0.3\nalias.z3. CNAME www.z4.\ngone.z3. CNAME none.z3.\n"
unfolding digits
fourth = refl

-- the eighth has another address of its name server, and behind the last one comes the first
eighth : made_zone_text 8 7
    ≡ codes "$TTL 60\nz7. SOA ns.z7. h.z7. 1 2 3 4 5\nz7. NS ns.z7.\nns.z7. A 10.2.0.7\nwww.z7. A 10.1.0.7\nalias.z7. CNAME www.z0.\n"
unfolding digits
eighth = refl

-- addresses have two numbers of at most 255
beyond : made_zone_text 1000 513
    ≡ codes "$TTL 60\nz513. SOA ns.z513. h.z513. 1 2 3 4 5\nz513. NS ns.z513.\nns.z513. A 10.0.2.1\nwww.z513. A 10.1.2.1\nalias.z513. CNAME www.z514.\ngone.z513. CNAME none.z513.\n"
unfolding digits
beyond = refl

-- two zones in the root zone
root : root_text 2
    ≡ codes "$TTL 60\n. SOA a.top. h.top. 1 2 3 4 5\n. NS a.top.\nz0. NS ns.z0.\nns.z0. A 10.0.0.0\nz1. NS ns.z1.\nns.z1. A 10.0.0.1\n"
unfolding digits
root = refl

-- and in the metadata
metadata : meta_text 2
    ≡ codes "{\"TopNameServers\":[\"a.top.\"],\"ZoneFiles\":[{\"FileName\":\"root.zone\",\"NameServer\":\"a.top.\"},{\"FileName\":\"z0.zone\",\"NameServer\":\"ns.z0.\"},{\"FileName\":\"z1.zone\",\"NameServer\":\"ns.z1.\"}]}"
unfolding digits
metadata = refl

file : zone_file 12 ≡ codes "z12.zone"
unfolding digits
file = refl
