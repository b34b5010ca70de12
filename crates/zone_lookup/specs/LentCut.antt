-- One name server of a delegation, whose names are lent.
use Rattle.net_model.specs.declared.place.Cut.{Cut}
use Rattle.zone_lookup.specs.declared.lent_cut.LentCut.{LentCut}

-- the cut that is lent
abbrev pub cut_of : LentCut → Cut
cut_of lent = record { server = lent.server.now; zone = lent.zone.now; cut = lent.cut.now; ns = lent.ns.now }
