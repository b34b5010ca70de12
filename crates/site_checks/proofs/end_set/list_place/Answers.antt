use Rattle.std.proofs.Common.{ℕ, List, [], Contains, Option, is_some, sym, ap, subst}
use Rattle.std.specs.Prelude.{unwrap_or}
use Rattle.dns_data.specs.Listed.{places_of}
use Rattle.site_checks.proofs.ListedEnds.{Places, kept_behind, listed_stays}
use Rattle.site_checks.proofs.end_set.list_place.Goals as goal

pub returns-in-Some-clause-stays : goal.returns-in-Some-clause-stays
returns-in-Some-clause-stays c =
    let was = c.in-Some.listed.now in
    let written = c.get_mut.follows.holds c.push.new.self in
    listed_stays c.args.server.now c.push.new.self c.args.places.now (c.get_mut.follows.lender c.push.new.self) (written.3 (sym (ap is_some c.in-Some.ensures.value))).0
    (λ place has.
    kept_behind c.push.result was c.push.new.self c.args.place c.push.ensures.ok c.push.ensures.err place
    (subst (λ (places : List ℕ). Contains places place) (sym (ap (λ (found : Option (List ℕ)). unwrap_or found []) c.in-Some.ensures.value)) has))

pub returns-clause-stays : goal.returns-clause-stays
returns-clause-stays c = λ name other has.
    c.list_first.ensures.stays name other
    (subst (λ (places : Places). Contains (places_of places name) other) (sym c.get_mut.follows.holds-at-none) has)
