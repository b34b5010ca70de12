-- Values of the definitions that were worked out by hand.
use Rattle.std.proofs.Common.{◌≡◌, ℕ, true, false, List, [], ◌∷◌, ◌++◌, map, codes, Option, Some, None, refl}
use Rattle.std.specs.Fmt.{digits}
use Rattle.dns_data.specs.Name.{Labels}
use Rattle.dns_data.specs.declared.rdata.Rdata.TheVariants.{A, Mx, Ns, Other, Ptr, Srv}
use Rattle.dns_data.specs.declared.rdata.Rr.{Rr}
use Rattle.net_model.specs.declared.config.Config.{Config}
use Rattle.net_model.specs.declared.config.Zone.{Zone}
use Rattle.net_model.specs.declared.walk.Leaf.{Leaf}
use Rattle.net_model.specs.declared.walk.Leaf.TheVariants as leaves
use Rattle.net_model.specs.declared.walk.Walk.{Walk}
use Rattle.master_read.specs.Words.{other_words}
use Rattle.config_load.specs.declared.loaded.RowFiles.{RowFiles}
use Rattle.kept_data.specs.Numbers.{type_words}
use Rattle.name_ends.specs.Ends.{ends_among}
use Rattle.name_ends.specs.declared.ends.NameEnds.{NameEnds}
use Rattle.name_ends.specs.declared.ends.TypeEnds.{TypeEnds}
use Rattle.map_run.specs.Columns.{file_text, columns_line, as_written}
use Rattle.map_run.specs.Records.{records_text, record_data, type_text}
use Rattle.map_run.specs.Targets.{is_reverse, kinds_text, leads_nowhere, leads_partly, target_in, targets_of}
use Rattle.map_run.specs.Words.{job_of}
use Rattle.map_run.specs.declared.words.MapView.TheVariants.{Records, Targets}

-- Tabs, line feeds and backslashes of a file's name are escaped.

escapes : file_text (97 ∷ 9 ∷ 10 ∷ 92 ∷ 98 ∷ []) ≡ codes "a\\t\\n\\\\b"
escapes = refl

columns : columns_line (codes "a" ∷ codes "b" ∷ []) ≡ 97 ∷ 9 ∷ 98 ∷ 10 ∷ []
columns = refl

-- A token of another type stands as it was written, a space and an octet that isn't printable in three digits.

token : as_written (92 ∷ 35 ∷ 7 ∷ []) ≡ codes "\\#\\007"
token = refl

-- A backslash before such an octet isn't written besides that of the digits, but one that a backslash escapes is.

escaped_space : as_written (codes "a\\ b") ≡ codes "a\\032b"
escaped_space = refl

escaped_backslash : as_written (codes "a\\\\ b") ≡ codes "a\\\\\\032b"
escaped_backslash = refl

other_type : type_text (Other (codes "DS") (codes "1" ∷ codes "x y" ∷ [])) ≡ codes "DS"
other_type = refl

other_data : record_data (Other (codes "DS") (codes "1" ∷ codes "x y" ∷ [])) ≡ codes "1 x\\032y"
other_data = refl

-- The types beyond the twelve that have a number are those that are read.

same_words : map (λ one. one.0) type_words ≡ other_words
same_words = refl

-- The records of two rows, one of which has an included file.

t : Labels
t = codes "t" ∷ []

s : Labels
s = codes "s" ∷ []

mail : Rr
mail = record { owner = t; ttl = 60; rdata = Mx 5 (codes "t" ∷ codes "m" ∷ []); file = 1; line = 12 }

host : Rr
host = record { owner = s; ttl = 60; rdata = A (10 ∷ 0 ∷ 0 ∷ 1 ∷ []); file = 0; line = 3 }

config : Config
config = record {
  tops = s ∷ [];
  servers = record { name = s; zones = record { origin = t; rrs = mail ∷ [] } ∷ record { origin = []; rrs = host ∷ [] } ∷ [] } ∷ [];
}

rows : List RowFiles
rows = record { server = s; origin = []; files = codes "root.zone" ∷ [] }
    ∷ record { server = s; origin = t; files = codes "t.zone" ∷ codes "mail.inc" ∷ [] } ∷ []

-- the first row's record, and that of the second
lines : List ℕ
lines = codes "s." ++ 9 ∷ codes "." ++ 9 ∷ codes "s." ++ 9 ∷ codes "A" ++ 9 ∷ codes "root.zone" ++ 9 ∷ codes "3" ++ 9 ∷ codes "10.0.0.1" ++ 10
    ∷ codes "s." ++ 9 ∷ codes "t." ++ 9 ∷ codes "t." ++ 9 ∷ codes "MX" ++ 9 ∷ codes "mail.inc" ++ 9 ∷ codes "12" ++ 9 ∷ codes "5 m.t." ++ 10 ∷ []

both_rows : records_text (record { config = config; rows = rows }) ≡ lines
unfolding digits t s mail host config rows lines
both_rows = refl

-- Targets that are looked at.

-- a zone without records
below : Labels → Zone
below origin = record { origin = origin; rrs = [] }

mail_counts : target_in (below []) t mail.rdata ≡ Some (codes "t" ∷ codes "m" ∷ [])
unfolding mail
mail_counts = refl

no_mail : target_in (below []) t (Mx 0 []) ≡ None
unfolding t
no_mail = refl

no_service : target_in (below []) t (Srv 0 0 0 []) ≡ None
unfolding t
no_service = refl

name_server_of_no_zone : target_in (below s) t (Ns s) ≡ None
unfolding t s below
name_server_of_no_zone = refl

name_server_of_a_zone : target_in (below t) t (Ns s) ≡ Some s
unfolding t s below
name_server_of_a_zone = refl

pointer_in_a_reverse_zone : target_in (below (codes "arpa" ∷ codes "ip6" ∷ [])) t (Ptr s) ≡ Some s
unfolding t s below
pointer_in_a_reverse_zone = refl

pointer_elsewhere : target_in (below []) t (Ptr s) ≡ None
unfolding t s below
pointer_elsewhere = refl

reverse : is_reverse (codes "arpa" ∷ codes "ip6" ∷ codes "1" ∷ []) ≡ true
reverse = refl

above_reverse : is_reverse (codes "arpa" ∷ []) ≡ false
above_reverse = refl

-- The ends of walks at two servers.

end_in : Leaf → Walk
end_in leaf = record { states = []; hops = []; leaf = leaf }

-- the ends of a name whose walks end so
ends_of : List Leaf → NameEnds
ends_of leaves = record { four = Some (ends_among (map end_in leaves)); six = Some (ends_among []) }

either : kinds_text (ends_among (map end_in (leaves.NxDomain ∷ leaves.NoData ∷ []))) ≡ codes "nodata,nxdomain"
unfolding end_in
either = refl

nowhere : leads_nowhere (ends_of (leaves.NxDomain ∷ leaves.NoData ∷ [])) ≡ true
unfolding end_in ends_of
nowhere = refl

partly_elsewhere : leads_partly (ends_of (leaves.NxDomain ∷ leaves.Outside ∷ [])) ≡ true
unfolding end_in ends_of
partly_elsewhere = refl

all_elsewhere : leads_partly (ends_of (leaves.Outside ∷ [])) ≡ false
unfolding end_in ends_of
all_elsewhere = refl

-- The line of a record whose target leads nowhere; the two rows have one.

dead_line : List ℕ
dead_line = codes "s." ++ 9 ∷ codes "t." ++ 9 ∷ codes "t." ++ 9 ∷ codes "MX" ++ 9 ∷ codes "mail.inc" ++ 9 ∷ codes "12" ++ 9 ∷ codes "5 m.t." ++ 9
    ∷ codes "m.t." ++ 9 ∷ codes "nxdomain" ++ 9 ∷ codes "too many walks" ++ 9 ∷ codes "nowhere" ++ 10 ∷ []

-- the ends of walks that end in no such name
no_such_name : Option TypeEnds
no_such_name = Some (ends_among (end_in leaves.NxDomain ∷ []))

one_line : targets_of (record { config = config; rows = rows }) (λ name. record { four = no_such_name; six = None }) ≡ record { counts = true; text = dead_line } ∷ []
unfolding digits t s mail host config rows dead_line no_such_name end_in
one_line = refl

no_line : targets_of (record { config = config; rows = rows }) (λ name. ends_of (leaves.Outside ∷ [])) ≡ []
unfolding digits t s mail host config rows end_in ends_of
no_line = refl

-- Words.

asked : job_of (codes "records" ∷ codes "m.json" ∷ []) ≡ Some (record { asked = Records; meta = codes "m.json" })
asked = refl

targets_asked : job_of (codes "targets" ∷ codes "m.json" ∷ []) ≡ Some (record { asked = Targets; meta = codes "m.json" })
targets_asked = refl

not_asked : job_of (codes "Records" ∷ codes "m.json" ∷ []) ≡ None
not_asked = refl

no_option : job_of (codes "records" ∷ codes "--help" ∷ []) ≡ None
no_option = refl

no_name : job_of (codes "records" ∷ [] ∷ []) ≡ None
no_name = refl
