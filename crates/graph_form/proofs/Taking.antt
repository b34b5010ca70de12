-- A fault is shown by what walks take and by what the zones hold; each but differing answers by one walk.
use Rattle.std.proofs.Common.{◌≡◌, List, [], ◌∷◌, refl}
use Rattle.dns_data.specs.declared.rr_type.RrType.{RrType}
use Rattle.net_model.specs.declared.class.Class.{Class}
use Rattle.net_model.specs.declared.fault.Fault.{Fault}
use Rattle.net_model.specs.declared.fault.Fault.TheVariants as faults
use Rattle.net_model.specs.declared.walk.Walk.{Walk}
use Rattle.net_model.specs.Shown.{FaultSetting, WalksShow}
use Rattle.graph_form.specs.Trails.{WalksTake, ZonesShow}

-- walks that show a fault show by themselves what the fault takes of walks
pub taken : (setting : FaultSetting) (walks : List Walk) (fault : Fault) → WalksShow setting walks fault → WalksTake walks fault
taken setting (walk ∷ []) (faults.Differs cut) shows = shows.refers
taken setting (walk ∷ []) (faults.NoGlue cut) shows = shows.refers
taken setting (walk ∷ []) (faults.GlueDiffers cut) shows = shows.refers
taken setting (walk ∷ []) (faults.Cyclic cut) shows = shows.refers
taken setting (walk ∷ []) (faults.NoAddress cut) shows = record { behind = shows.behind; ends = shows.ends }
taken setting walks fault shows = shows

-- if walks show a fault, the zones show what the fault takes of zones
pub zones : (setting : FaultSetting) (walks : List Walk) (fault : Fault) → WalksShow setting walks fault → ZonesShow setting fault
zones setting (walk ∷ []) (faults.Lame cut) shows = tt
zones setting (walk ∷ []) (faults.Differs cut) shows = shows.zones
zones setting (walk ∷ []) (faults.NoGlue cut) shows = shows.wants
zones setting (walk ∷ []) (faults.GlueDiffers cut) shows = shows.glue
zones setting (walk ∷ []) (faults.Cyclic cut) shows = shows.depends
zones setting (walk ∷ []) (faults.Limit place) shows = tt
zones setting (walk ∷ []) (faults.Blackhole place) shows = tt
zones setting (one ∷ other ∷ []) (faults.Answers class rtype) shows = tt
zones setting (walk ∷ []) (faults.Overlong place) shows = tt
zones setting (walk ∷ []) (faults.NoAddress cut) shows = shows.not_at_most
zones setting walks fault shows = absurd shows

-- walks that show by themselves what a fault takes of walks show it, if the zones show what it takes of zones
pub shown : (setting : FaultSetting) (walks : List Walk) (fault : Fault) → WalksTake walks fault → ZonesShow setting fault → WalksShow setting walks fault
shown setting (walk ∷ []) (faults.Differs cut) take hold = record { refers = take; zones = hold }
shown setting (walk ∷ []) (faults.NoGlue cut) take hold = record { refers = take; wants = hold }
shown setting (walk ∷ []) (faults.GlueDiffers cut) take hold = record { refers = take; glue = hold }
shown setting (walk ∷ []) (faults.Cyclic cut) take hold = record { refers = take; depends = hold }
shown setting (walk ∷ []) (faults.NoAddress cut) take hold = record { behind = take.behind; ends = take.ends; not_at_most = hold }
shown setting walks fault take hold = take

-- the fault isn't that answers differ
abbrev pub IsSingle : Fault → Type 0
IsSingle fault = (class : Class) (t : RrType) → fault ≡ faults.Answers class t → ⊥

-- no two walks show such a fault
no_pair : (fault : Fault) (one other : Walk) → IsSingle fault → WalksTake (one ∷ other ∷ []) fault → ⊥
no_pair (faults.Answers class t) one other single take = single class t refl
no_pair fault one other single take = take

-- walks that take such a fault are one
pub alone : (fault : Fault) (walks : List Walk) → IsSingle fault → WalksTake walks fault → (walk : Walk) × (walks ≡ walk ∷ []) × WalksTake (walk ∷ []) fault
alone fault [] single take = absurd take
alone fault (walk ∷ []) single take = (walk, refl, take)
alone fault (one ∷ other ∷ []) single take = absurd (no_pair fault one other single take)
alone fault (one ∷ other ∷ third ∷ walks) single take = absurd take
