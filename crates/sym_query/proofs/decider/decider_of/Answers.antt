use Rattle.std.proofs.Common.{◌≡◌, List, ℕ, Option, [], ◌∷◌, ◌++◌, false, refl, ap, ◌∙◌, subst, append-nil}
use Rattle.std.specs.Option.{IfSome}
use Rattle.name_rules.specs.SymName.{tail_labels}
use Rattle.net_model.specs.Lookup.{deciding}
use Rattle.net_model.specs.Zone.{exists_in}
use Rattle.sym_query.proofs.Owners.{redirects_known}
use Rattle.sym_query.proofs.decider.decider_of.Goals as goal

pub returns-in-None-clause-owner : goal.returns-in-None-clause-owner
returns-in-None-clause-owner c =
    let zone = c.args.tree.now.zone in
    let known = c.args.name.now.known in
    redirects_known c.args.tree.now c.deciding.result c.args.name.now
    (ap (λ (tail : Option (List ℕ)). deciding zone (known ++ tail_labels tail)) c.in-None.is
    ∙ ap (deciding zone) (append-nil known) ∙ c.deciding.ensures.decides)

pub returns-in-Some-clause-owner : goal.returns-in-Some-clause-owner
returns-in-Some-clause-owner c =
    let zone = c.args.tree.now.zone in
    let known = c.args.name.now.known in
    let label = c.in-Some.field-0 in
    redirects_known c.args.tree.now c.open_deciding.result c.args.name.now
    (ap (λ (tail : Option (List ℕ)). deciding zone (known ++ tail_labels tail)) c.in-Some.is
    ∙ c.open_deciding.ensures.decides (label ∷ [])
    (record {
      first = label;
      rest = [];
      is = refl;
      inside = c.requires.inside;
      free = subst (λ (tail : Option (List ℕ)). IfSome tail (λ x. exists_in zone (known ++ x ∷ []) ≡ false)) c.in-Some.is c.requires.missing;
    }))
