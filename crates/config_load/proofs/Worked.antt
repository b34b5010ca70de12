-- Values of the definitions that were worked out by hand.
use Rattle.std.proofs.Common.{◌≡◌, List, [], ◌∷◌, codes, Ok, Err, refl}
use Rattle.dns_data.specs.Name.{Labels}
use Rattle.io_edges.specs.Files.{Untold, NotHeld, Holds}
use Rattle.master_read.specs.declared.fault.TextCause.TheVariants as causes
use Rattle.meta_read.specs.declared.fault.MetaFault.TheVariants as meta_faults
use Rattle.net_model.specs.declared.config.Server.{Server}
use Rattle.net_model.specs.declared.config.Zone.{Zone}
use Rattle.config_load.specs.Conf.{conf, conf_unless, metadata}
use Rattle.config_load.specs.Faults.{name_numbered}
use Rattle.config_load.specs.Joined.{joined}
use Rattle.config_load.specs.Limits.{most_octets, usual_limits}
use Rattle.config_load.specs.Reading.{Misses, Reads, Refuses, Unknown, file_octets}
use Rattle.config_load.specs.Refusal.{file_of, line_told, code_of, fields_line}
use Rattle.config_load.specs.FileName.{shown_file}
use Rattle.config_load.specs.Servers.{given}
use Rattle.config_load.specs.declared.fault.LoadFault.TheVariants.{Meta, Text, TooLong, ZoneTwice}

-- Names are joined to the folder of the metadata.

in_the_folder : joined (codes "d/e/meta.json") (codes "x.zone") ≡ codes "d/e/x.zone"
in_the_folder = refl

below_the_folder : joined (codes "d/meta.json") (codes "sub/x.zone") ≡ codes "d/sub/x.zone"
below_the_folder = refl

no_folder : joined (codes "meta.json") (codes "x.zone") ≡ codes "x.zone"
no_folder = refl

from_the_root : joined (codes "d/meta.json") (codes "/x.zone") ≡ codes "/x.zone"
from_the_root = refl

-- The second file is named by its number.
second_file : name_numbered (codes "t.zone" ∷ codes "sub.zone" ∷ []) 1 ≡ codes "sub.zone"
second_file = refl

-- Servers stand in the order of their first rows, and a zone behind those of its server.

a : Labels
a = codes "a" ∷ []

b : Labels
b = codes "b" ∷ []

zone : Labels → Zone
zone origin = record { origin = origin; rrs = [] }

server : Labels → List Zone → Server
server name zones = record { name = name; zones = zones }

third_row : given 3 a (zone b) (server a (zone a ∷ []) ∷ server b (zone a ∷ []) ∷ []) ≡ Ok (server a (zone a ∷ zone b ∷ []) ∷ server b (zone a ∷ []) ∷ [])
unfolding a b zone server
third_row = refl

new_server : given 2 b (zone a) (server a (zone a ∷ []) ∷ []) ≡ Ok (server a (zone a ∷ []) ∷ server b (zone a ∷ []) ∷ [])
unfolding a b zone server
new_server = refl

twice : given 2 a (zone a) (server a (zone a ∷ []) ∷ []) ≡ Err (ZoneTwice 2)
unfolding a b zone server
twice = refl

-- A refusal has its file, its line and its code.

row_line : fields_line (file_of (codes "m.json") (ZoneTwice 2)) (codes "2") (code_of (ZoneTwice 2)) ≡ codes "m.json:2: zone-twice\n"
row_line = refl

-- control characters in the name of a file: a line feed, escape and delete
shown_name : shown_file (97 ∷ 10 ∷ 27 ∷ 92 ∷ 127 ∷ []) ≡ codes "a\\n\\027\\\\127"
shown_name = refl

file_line : file_of (codes "m.json") (Text (codes "sub.zone") 12 causes.NotIn) ≡ codes "sub.zone"
file_line = refl

file_code : code_of (Text (codes "sub.zone") 12 causes.NotIn) ≡ codes "not-in"
file_code = refl

meta_row : line_told (Meta (meta_faults.Shape 7)) ≡ 7
meta_row = refl

-- The metadata file comes first.

not_held : conf (codes "m.json") (λ _. NotHeld) ≡ Misses (codes "m.json")
unfolding conf_unless metadata
not_held = refl

not_told : conf (codes "m.json") (λ _. Untold) ≡ Unknown (codes "m.json")
unfolding conf_unless metadata
not_told = refl

-- A file may have as many octets as the limits allow, and no more than are counted.

long_enough : file_octets (record usual_limits { octets = 3 }) (codes "f") (λ _. Holds (codes "abc")) ≡ Reads (codes "abc")
long_enough = refl

too_long : file_octets (record usual_limits { octets = 3 }) (codes "f") (λ _. Holds (codes "abcd")) ≡ Refuses (TooLong (codes "f"))
too_long = refl

all_that_are_counted : most_octets (record usual_limits { octets = 4294967295 }) ≡ 4294950912
all_that_are_counted = refl
