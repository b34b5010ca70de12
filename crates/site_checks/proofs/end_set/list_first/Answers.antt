use Rattle.std.proofs.Common.{◌≡◌, ℕ, List, [], Contains, sym, subst}
use Rattle.dns_data.specs.Name.{Labels}
use Rattle.dns_data.proofs.Membership.{none_in_nil}
use Rattle.dns_data.specs.Listed.{places_of}
use Rattle.site_checks.proofs.ListedEnds.{listed_stays}
use Rattle.site_checks.proofs.end_set.list_first.Goals as goal

pub returns-clause-stays : goal.returns-clause-stays
returns-clause-stays c =
    let old = c.args.places.now in
    let none = subst (λ (name : Labels). places_of old name ≡ []) (sym c.in_ok-copy.ensures) c.requires in
    listed_stays c.in_ok-copy.field-0 c.push.new.self old c.insert.new.self c.in_ok-insert.ensures.updates.0
    (λ place has. absurd (none_in_nil place (subst (λ (places : List ℕ). Contains places place) none has)))
