-- Classes of query names, and their representatives.
use Rattle.std.specs.Prelude.{refl, [], ◌∷◌, codes}
use Rattle.dns_data.specs.Name.{Labels}
use Rattle.dns_data.specs.declared.rdata.Rdata.TheVariants.{A, Cname, Dname}
use Rattle.net_model.specs.declared.class.Class.TheVariants.{Exact, Below}
use Rattle.net_model.specs.declared.config.Config.{Config}
use Rattle.net_model.specs.Class.{IsClassOf, IsRepresentative}
use Rattle.net_model.specs.Reading.{ground_of}
use Rattle.net_model.proofs.Naming.{class_of_named, class_below}
use Rattle.net_model.proofs.Representatives.{below_represented}
use Rattle.net_model.proofs.Words.{rr, zone_at, alone}

abbrev t : Labels
t = codes "t" ∷ []

abbrev ns : Labels
ns = codes "t" ∷ codes "ns" ∷ []

-- a wildcard that is an alias for a name that owns nothing
abbrev wildcard : Config
wildcard =
    alone ns
    (zone_at t (rr (codes "t" ∷ codes "a" ∷ codes "*" ∷ []) (Cname (codes "t" ∷ codes "a" ∷ codes "foo" ∷ [])) ∷ []))

-- the alias's target is no named name: it is below the wildcard's parent, as every other name there
a_target_is_below_the_parent :
    IsClassOf (ground_of wildcard) (codes "t" ∷ codes "a" ∷ codes "foo" ∷ []) (Below (codes "t" ∷ codes "a" ∷ []))
a_target_is_below_the_parent =
    class_below 0 (ground_of wildcard) ((codes "t" ∷ codes "a" ∷ codes "foo" ∷ []) ∷ [])
    (codes "t" ∷ codes "a" ∷ []) (codes "foo" ∷ []) refl refl

-- a name two labels deeper is in the same class
a_deeper_name_is_below_it_too :
    IsClassOf (ground_of wildcard) (codes "t" ∷ codes "a" ∷ codes "x" ∷ codes "y" ∷ []) (Below (codes "t" ∷ codes "a" ∷ []))
a_deeper_name_is_below_it_too =
    class_below 0 (ground_of wildcard)
    ((codes "t" ∷ codes "a" ∷ codes "x" ∷ []) ∷ (codes "t" ∷ codes "a" ∷ codes "x" ∷ codes "y" ∷ []) ∷ [])
    (codes "t" ∷ codes "a" ∷ []) (codes "x" ∷ codes "y" ∷ []) refl refl

-- a.a.t. stands for that class
the_first_letter_is_free :
    IsRepresentative (ground_of wildcard) (Below (codes "t" ∷ codes "a" ∷ [])) (codes "t" ∷ codes "a" ∷ codes "a" ∷ [])
the_first_letter_is_free =
    below_represented 0 (ground_of wildcard) ((codes "t" ∷ codes "a" ∷ codes "a" ∷ []) ∷ [])
    (codes "t" ∷ codes "a" ∷ []) 97 0 refl refl refl refl

-- below t. the label a is taken, and b.t. stands for the class
the_first_letter_is_taken : IsRepresentative (ground_of wildcard) (Below t) (codes "t" ∷ codes "b" ∷ [])
the_first_letter_is_taken =
    below_represented 0 (ground_of wildcard) ((codes "t" ∷ codes "b" ∷ []) ∷ []) t 98 1 refl refl refl refl

-- the wildcard itself is named
the_wildcard_is_alone :
    IsClassOf (ground_of wildcard) (codes "t" ∷ codes "a" ∷ codes "*" ∷ []) (Exact (codes "t" ∷ codes "a" ∷ codes "*" ∷ []))
the_wildcard_is_alone = class_of_named 0 (ground_of wildcard) (codes "t" ∷ codes "a" ∷ codes "*" ∷ []) refl

-- one DNAME record leads into the middle of another
abbrev two_readings : Config
two_readings =
    alone ns
    (zone_at t
    (rr (codes "t" ∷ codes "d" ∷ []) (Dname (codes "t" ∷ codes "f" ∷ codes "x" ∷ []))
    ∷ rr (codes "t" ∷ codes "f" ∷ []) (Dname (codes "t" ∷ codes "g" ∷ []))
    ∷ rr (codes "t" ∷ codes "g" ∷ codes "x" ∷ codes "w" ∷ []) (A (10 ∷ 0 ∷ 0 ∷ 1 ∷ []))
    ∷ []))

-- w.d.t. reads as w.x.f.t., and that as w.x.g.t.: no record owns it, and it is named
a_name_is_named_by_two_readings :
    IsClassOf (ground_of two_readings) (codes "t" ∷ codes "d" ∷ codes "w" ∷ []) (Exact (codes "t" ∷ codes "d" ∷ codes "w" ∷ []))
a_name_is_named_by_two_readings = class_of_named 2 (ground_of two_readings) (codes "t" ∷ codes "d" ∷ codes "w" ∷ []) refl

-- x.f.t. is named by one reading
a_name_is_named_by_one_reading :
    IsClassOf (ground_of two_readings) (codes "t" ∷ codes "f" ∷ codes "x" ∷ []) (Exact (codes "t" ∷ codes "f" ∷ codes "x" ∷ []))
a_name_is_named_by_one_reading = class_of_named 1 (ground_of two_readings) (codes "t" ∷ codes "f" ∷ codes "x" ∷ []) refl

-- a.d.t. reads as a.x.f.t. and a.x.g.t., of which none is a base name
a_name_that_reads_to_no_base_name :
    IsClassOf (ground_of two_readings) (codes "t" ∷ codes "d" ∷ codes "a" ∷ []) (Below (codes "t" ∷ codes "d" ∷ []))
a_name_that_reads_to_no_base_name =
    class_below 0 (ground_of two_readings)
    ((codes "t" ∷ codes "d" ∷ codes "a" ∷ [])
    ∷ (codes "t" ∷ codes "f" ∷ codes "x" ∷ codes "a" ∷ [])
    ∷ (codes "t" ∷ codes "g" ∷ codes "x" ∷ codes "a" ∷ [])
    ∷ [])
    (codes "t" ∷ codes "d" ∷ []) (codes "a" ∷ []) refl refl

-- it stands for its class
a_representative_below_a_dname_owner :
    IsRepresentative (ground_of two_readings) (Below (codes "t" ∷ codes "d" ∷ [])) (codes "t" ∷ codes "d" ∷ codes "a" ∷ [])
a_representative_below_a_dname_owner =
    below_represented 0 (ground_of two_readings)
    ((codes "t" ∷ codes "d" ∷ codes "a" ∷ [])
    ∷ (codes "t" ∷ codes "f" ∷ codes "x" ∷ codes "a" ∷ [])
    ∷ (codes "t" ∷ codes "g" ∷ codes "x" ∷ codes "a" ∷ [])
    ∷ [])
    (codes "t" ∷ codes "d" ∷ []) 97 0 refl refl refl refl
