-- The order of faults: by kind, then by the fields of the place.
use Rattle.std.specs.Prelude.{ℕ}
use Rattle.std.specs.Ordering.{nat_cmp, ordering_then}
use Rattle.std.specs.declared.cmp.Ordering.{Ordering}
use Rattle.std.specs.declared.cmp.Ordering.TheVariants.{Equal}
use Rattle.dns_data.specs.Name.{name_cmp}
use Rattle.dns_data.specs.RrType.{number_of}
use Rattle.net_model.specs.declared.fault.Fault.{Fault}
use Rattle.net_model.specs.declared.fault.Fault.TheVariants.{Lame, Differs, NoGlue, GlueDiffers, Cyclic, Limit, Blackhole, Answers, Overlong, NoAddress}
use Rattle.net_model.specs.declared.place.Cut.{Cut}
use Rattle.net_model.specs.declared.place.Place.{Place}
use Rattle.net_model.specs.Class.{class_cmp}

-- the place of a fault's kind in a report, counted from 0: lame delegation, delegation differs, missing glue, glue
-- differs, cyclic dependency, rewrite limit, blackhole, answers differ, overlong, no address
abbrev pub kind_number : Fault → ℕ
kind_number (Lame cut) = 0
kind_number (Differs cut) = 1
kind_number (NoGlue cut) = 2
kind_number (GlueDiffers cut) = 3
kind_number (Cyclic cut) = 4
kind_number (Limit place) = 5
kind_number (Blackhole place) = 6
kind_number (Answers class rtype) = 7
kind_number (Overlong place) = 8
kind_number (NoAddress cut) = 9

-- the order of name servers of delegations: by server, zone, zone cut and name server
abbrev pub cut_cmp : Cut → Cut → Ordering
cut_cmp a b =
    ordering_then (name_cmp a.server b.server)
    (ordering_then (name_cmp a.zone b.zone) (ordering_then (name_cmp a.cut b.cut) (name_cmp a.ns b.ns)))

-- the order of places of rewrites: by server, zone and owner
abbrev pub place_cmp : Place → Place → Ordering
place_cmp a b =
    ordering_then (name_cmp a.server b.server) (ordering_then (name_cmp a.zone b.zone) (name_cmp a.owner b.owner))

-- the order of the places of two faults of one kind; that of two kinds is told by their numbers
abbrev pub fault_place_cmp : Fault → Fault → Ordering
fault_place_cmp (Lame a) (Lame b) = cut_cmp a b
fault_place_cmp (Differs a) (Differs b) = cut_cmp a b
fault_place_cmp (NoGlue a) (NoGlue b) = cut_cmp a b
fault_place_cmp (GlueDiffers a) (GlueDiffers b) = cut_cmp a b
fault_place_cmp (Cyclic a) (Cyclic b) = cut_cmp a b
fault_place_cmp (Limit a) (Limit b) = place_cmp a b
fault_place_cmp (Blackhole a) (Blackhole b) = place_cmp a b
fault_place_cmp (Answers a s) (Answers b t) = ordering_then (class_cmp a b) (nat_cmp (number_of s) (number_of t))
fault_place_cmp (Overlong a) (Overlong b) = place_cmp a b
fault_place_cmp (NoAddress a) (NoAddress b) = cut_cmp a b
fault_place_cmp a b = Equal

-- the order of faults: by kind, and within a kind by place
abbrev pub fault_cmp : Fault → Fault → Ordering
fault_cmp a b = ordering_then (nat_cmp (kind_number a) (kind_number b)) (fault_place_cmp a b)
