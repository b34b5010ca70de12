use Rattle.std.proofs.Common.{List, Contains, sym, subst}
use Rattle.dns_data.specs.Listed.{places_of}
use Rattle.site_checks.specs.EndPlaces.{ListsPlaces}
use Rattle.site_checks.specs.declared.views.TypedEnd.{TypedEnd}
use Rattle.site_checks.proofs.ListedEnds.{listed_more, still_listed}
use Rattle.site_checks.proofs.end_set.EndSet.push.Goals as goal

pub invariant_of-self : goal.invariant_of-self
invariant_of-self c = still_listed c.self.inside.ends c.self.inside.places c.list_place.new.places c.self.invariant c.list_place.ensures.stays

pub invariant_of-self-in_err-push : goal.invariant_of-self-in_err-push
invariant_of-self-in_err-push c =
    subst (λ (ends : List TypedEnd). ListsPlaces c.list_place.new.places ends) (sym c.in_err-push.ensures.err)
    (still_listed c.self.inside.ends c.self.inside.places c.list_place.new.places c.self.invariant c.list_place.ensures.stays)

pub invariant_of-self-2 : goal.invariant_of-self-2
invariant_of-self-2 c =
    let places = c.list_place.new.places in
    subst (λ (ends : List TypedEnd). ListsPlaces places ends) (sym c.in_ok-push.ensures.ok)
    (listed_more places c.self.inside.ends c.args.end (still_listed c.self.inside.ends c.self.inside.places places c.self.invariant c.list_place.ensures.stays)
    (subst (Contains (places_of places c.args.end.server)) c.len.ensures c.in_ok-list_place.ensures.listed))
