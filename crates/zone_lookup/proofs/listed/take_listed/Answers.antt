use Rattle.std.proofs.Common.{Bool, [], None, cond, ap, ◌∙◌}
use Rattle.dns_data.specs.Listed.{places_of}
use Rattle.zone_lookup.proofs.TopsHolding.{listed_by}
use Rattle.zone_lookup.proofs.listed.take_listed.Goals as goal

pub returns-in-Some-clause-others : goal.returns-in-Some-clause-others
returns-in-Some-clause-others c = λ other differs.
    listed_by c.args.name.now other None c.args.places.now c.remove.new.self (c.remove.ensures.updates.0 other)
    ∙ ap (λ (b : Bool). cond b [] (places_of c.args.places.now other)) differs

pub returns-in-None-clause-others : goal.returns-in-None-clause-others
returns-in-None-clause-others c = λ other differs.
    listed_by c.args.name.now other None c.args.places.now c.remove.new.self (c.remove.ensures.updates.0 other)
    ∙ ap (λ (b : Bool). cond b [] (places_of c.args.places.now other)) differs
