use Rattle.std.proofs.Common.{List, ◌∷◌, [], ◌++◌, take, ap, sym, ◌∙◌, subst}
use Rattle.std.proofs.lemmas.List.{map-append, take_all, take_more}
use denote.Bor.{Bor}
use Rattle.dns_data.specs.Name.{Labels}
use Rattle.zone_lookup.specs.ListedFor.{IsListedFor}
use Rattle.zone_lookup.proofs.TopsHolding.{listed_more, listed_none}
use Rattle.address_deps.proofs.Listing.{borrowed_names}
use Rattle.address_deps.proofs.dependents.Dependents.put_all.Goals as goal

pub loop-name-init : goal.loop-name-init
loop-name-init c = listed_none c.args.place c.args.self.now.places

pub loop-name-preserved : goal.loop-name-preserved
loop-name-preserved c =
    let names = c.args.names.now in
    let i = c.loop-name.name-index in
    let name = c.name-item.result in
    let old = c.args.self.now.places in
    let new = c.put.new.self.places in
    subst (λ (xs : List Labels). IsListedFor c.args.place xs old new)
    (sym (ap borrowed_names (take_more names i name c.loop-name-test.true ∙ ap (λ (x : Bor Labels). take i names ++ x ∷ []) (sym c.name-item.is))
    ∙ map-append (λ (x : Bor Labels). x.now) (take i names) (name ∷ [])))
    (listed_more c.args.place (borrowed_names (take i names)) name.now old c.loop-name.self.places new c.loop-name.invariant c.in_ok-put.ensures)

pub returns : goal.returns
returns c =
    subst (λ (xs : List (Bor Labels)). IsListedFor c.args.place (borrowed_names xs) c.args.self.now.places c.loop-name.self.places)
    (take_all c.loop-name.name-index c.args.names.now c.loop-name-test.false) c.loop-name.invariant
