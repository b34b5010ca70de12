-- Classes and representatives of names drawn at random.
use Rattle.std.specs.Prelude.{refl, [], ◌∷◌, codes}
use Rattle.dns_data.specs.declared.rdata.Rdata.TheVariants.{A, Ns, Cname, Soa, Ptr, Srv, Dname, Other}
use Rattle.net_model.specs.declared.class.Class.TheVariants.{Exact, Below}
use Rattle.net_model.specs.declared.config.Config.{Config}
use Rattle.net_model.specs.declared.config.Zone.{Zone}
use Rattle.net_model.specs.Class.{IsClassOf, IsRepresentative}
use Rattle.net_model.specs.Reading.{ground_of}
use Rattle.net_model.proofs.Naming.{class_of_named, class_below}
use Rattle.net_model.proofs.Representatives.{below_represented}
use Rattle.net_model.proofs.Words.{rr, zone_at, server_at, with_tops}

abbrev zone_4_0 : Zone
zone_4_0 =
    zone_at (codes "b" ∷ [])
    (rr (codes "b" ∷ []) (Soa (codes "x" ∷ codes "m" ∷ []) (codes "h" ∷ []) 1 7200 3 4 60)
    ∷ rr (codes "b" ∷ []) (Ns (codes "x" ∷ codes "m" ∷ []))
    ∷ rr (codes "b" ∷ codes "b" ∷ []) (Other (codes "TYPE099") ((92 ∷ 35 ∷ []) ∷ codes "0" ∷ []))
    ∷ rr (codes "b" ∷ codes "a" ∷ codes "a" ∷ []) (Cname (codes "b" ∷ codes "b" ∷ codes "b" ∷ []))
    ∷ rr (codes "b" ∷ codes "b" ∷ []) (A (10 ∷ 0 ∷ 0 ∷ 2 ∷ []))
    ∷ rr (codes "b" ∷ codes "*" ∷ []) (Srv 0 1 2 (codes "b" ∷ codes "b" ∷ codes "a" ∷ []))
    ∷ [])

abbrev config_4 : Config
config_4 =
    with_tops ((codes "x" ∷ codes "m" ∷ []) ∷ [])
    (server_at (codes "x" ∷ codes "m" ∷ []) (zone_4_0 ∷ [])
    ∷ [])

class_0 : IsClassOf (ground_of config_4) (codes "b" ∷ codes "b" ∷ codes "www" ∷ codes "a" ∷ []) (Below (codes "b" ∷ codes "b" ∷ []))
class_0 =
    class_below 0 (ground_of config_4)
    ((codes "b" ∷ codes "b" ∷ codes "www" ∷ []) ∷ (codes "b" ∷ codes "b" ∷ codes "www" ∷ codes "a" ∷ []) ∷ [])
    (codes "b" ∷ codes "b" ∷ []) (codes "www" ∷ codes "a" ∷ []) refl refl

representative_1 : IsRepresentative (ground_of config_4) (Below (codes "b" ∷ codes "b" ∷ [])) (codes "b" ∷ codes "b" ∷ codes "a" ∷ [])
representative_1 =
    below_represented 0 (ground_of config_4)
    ((codes "b" ∷ codes "b" ∷ codes "a" ∷ []) ∷ [])
    (codes "b" ∷ codes "b" ∷ []) 97 0 refl refl refl refl

abbrev zone_5_0 : Zone
zone_5_0 =
    zone_at (codes "b" ∷ codes "b" ∷ [])
    (rr (codes "b" ∷ codes "b" ∷ []) (Soa (codes "b" ∷ codes "b" ∷ codes "n" ∷ []) (codes "h" ∷ []) 1 7200 3 4 60)
    ∷ rr (codes "b" ∷ codes "b" ∷ codes "b" ∷ codes "b" ∷ []) (Dname (codes "b" ∷ codes "b" ∷ codes "b" ∷ codes "a" ∷ codes "b" ∷ []))
    ∷ rr (codes "b" ∷ codes "b" ∷ codes "b" ∷ codes "a" ∷ []) (Dname (codes "b" ∷ codes "b" ∷ codes "b" ∷ codes "d" ∷ []))
    ∷ rr (codes "b" ∷ codes "b" ∷ codes "b" ∷ codes "d" ∷ codes "b" ∷ codes "a" ∷ []) (A (10 ∷ 0 ∷ 0 ∷ 4 ∷ []))
    ∷ [])

abbrev config_5 : Config
config_5 =
    with_tops ((codes "b" ∷ codes "b" ∷ codes "n" ∷ []) ∷ [])
    (server_at (codes "b" ∷ codes "b" ∷ codes "n" ∷ []) (zone_5_0 ∷ [])
    ∷ [])

class_2 : IsClassOf (ground_of config_5) (codes "b" ∷ codes "b" ∷ codes "b" ∷ codes "a" ∷ codes "c" ∷ []) (Below (codes "b" ∷ codes "b" ∷ codes "b" ∷ codes "a" ∷ []))
class_2 =
    class_below 0 (ground_of config_5)
    ((codes "b" ∷ codes "b" ∷ codes "b" ∷ codes "a" ∷ codes "c" ∷ []) ∷ (codes "b" ∷ codes "b" ∷ codes "b" ∷ codes "d" ∷ codes "c" ∷ []) ∷ [])
    (codes "b" ∷ codes "b" ∷ codes "b" ∷ codes "a" ∷ []) (codes "c" ∷ []) refl refl

class_3 : IsClassOf (ground_of config_5) (codes "b" ∷ codes "b" ∷ codes "b" ∷ codes "a" ∷ codes "b" ∷ []) (Exact (codes "b" ∷ codes "b" ∷ codes "b" ∷ codes "a" ∷ codes "b" ∷ []))
class_3 = class_of_named 1 (ground_of config_5) (codes "b" ∷ codes "b" ∷ codes "b" ∷ codes "a" ∷ codes "b" ∷ []) refl

class_4 : IsClassOf (ground_of config_5) (codes "b" ∷ codes "b" ∷ codes "b" ∷ codes "a" ∷ codes "www" ∷ []) (Below (codes "b" ∷ codes "b" ∷ codes "b" ∷ codes "a" ∷ []))
class_4 =
    class_below 0 (ground_of config_5)
    ((codes "b" ∷ codes "b" ∷ codes "b" ∷ codes "a" ∷ codes "www" ∷ []) ∷ (codes "b" ∷ codes "b" ∷ codes "b" ∷ codes "d" ∷ codes "www" ∷ []) ∷ [])
    (codes "b" ∷ codes "b" ∷ codes "b" ∷ codes "a" ∷ []) (codes "www" ∷ []) refl refl

class_5 : IsClassOf (ground_of config_5) (codes "b" ∷ codes "b" ∷ codes "b" ∷ codes "b" ∷ codes "www" ∷ []) (Below (codes "b" ∷ codes "b" ∷ codes "b" ∷ codes "b" ∷ []))
class_5 =
    class_below 0 (ground_of config_5)
    ((codes "b" ∷ codes "b" ∷ codes "b" ∷ codes "b" ∷ codes "www" ∷ []) ∷ (codes "b" ∷ codes "b" ∷ codes "b" ∷ codes "a" ∷ codes "b" ∷ codes "www" ∷ []) ∷ (codes "b" ∷ codes "b" ∷ codes "b" ∷ codes "d" ∷ codes "b" ∷ codes "www" ∷ []) ∷ [])
    (codes "b" ∷ codes "b" ∷ codes "b" ∷ codes "b" ∷ []) (codes "www" ∷ []) refl refl

representative_6 : IsRepresentative (ground_of config_5) (Below (codes "b" ∷ codes "b" ∷ codes "b" ∷ codes "b" ∷ [])) (codes "b" ∷ codes "b" ∷ codes "b" ∷ codes "b" ∷ codes "b" ∷ [])
representative_6 =
    below_represented 2 (ground_of config_5)
    ((codes "b" ∷ codes "b" ∷ codes "b" ∷ codes "b" ∷ codes "b" ∷ []) ∷ (codes "b" ∷ codes "b" ∷ codes "b" ∷ codes "a" ∷ codes "b" ∷ codes "b" ∷ []) ∷ (codes "b" ∷ codes "b" ∷ codes "b" ∷ codes "d" ∷ codes "b" ∷ codes "b" ∷ []) ∷ [])
    (codes "b" ∷ codes "b" ∷ codes "b" ∷ codes "b" ∷ []) 98 1 refl refl refl refl

abbrev zone_6_0 : Zone
zone_6_0 =
    zone_at (codes "a" ∷ [])
    (rr (codes "a" ∷ []) (Soa (codes "x" ∷ codes "n" ∷ []) (codes "h" ∷ []) 1 7200 3 4 60)
    ∷ rr (codes "a" ∷ []) (Ns (codes "x" ∷ codes "n" ∷ []))
    ∷ rr (codes "a" ∷ codes "b" ∷ []) (Cname (codes "a" ∷ codes "a" ∷ []))
    ∷ rr (codes "a" ∷ codes "b" ∷ codes "*" ∷ codes "a" ∷ codes "b" ∷ []) (Cname (codes "a" ∷ codes "*" ∷ []))
    ∷ rr (codes "a" ∷ []) (Ptr (codes "a" ∷ []))
    ∷ rr (codes "a" ∷ codes "b" ∷ codes "c" ∷ []) (Dname (codes "a" ∷ codes "b" ∷ codes "a" ∷ codes "a" ∷ []))
    ∷ rr (codes "a" ∷ codes "b" ∷ codes "a" ∷ []) (Dname (codes "a" ∷ codes "b" ∷ codes "b" ∷ []))
    ∷ rr (codes "a" ∷ codes "b" ∷ codes "b" ∷ codes "a" ∷ codes "*" ∷ []) (A (10 ∷ 0 ∷ 0 ∷ 4 ∷ []))
    ∷ [])

abbrev config_6 : Config
config_6 =
    with_tops ((codes "x" ∷ codes "n" ∷ []) ∷ [])
    (server_at (codes "x" ∷ codes "n" ∷ []) (zone_6_0 ∷ [])
    ∷ [])

class_7 : IsClassOf (ground_of config_6) (codes "a" ∷ codes "b" ∷ codes "c" ∷ codes "*" ∷ []) (Exact (codes "a" ∷ codes "b" ∷ codes "c" ∷ codes "*" ∷ []))
class_7 = class_of_named 2 (ground_of config_6) (codes "a" ∷ codes "b" ∷ codes "c" ∷ codes "*" ∷ []) refl

class_8 : IsClassOf (ground_of config_6) (codes "a" ∷ codes "b" ∷ codes "a" ∷ codes "a" ∷ codes "*" ∷ []) (Exact (codes "a" ∷ codes "b" ∷ codes "a" ∷ codes "a" ∷ codes "*" ∷ []))
class_8 = class_of_named 1 (ground_of config_6) (codes "a" ∷ codes "b" ∷ codes "a" ∷ codes "a" ∷ codes "*" ∷ []) refl
