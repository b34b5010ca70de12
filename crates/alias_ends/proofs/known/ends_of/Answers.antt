use Rattle.std.proofs.Common.{Bor, List, Some, ap, ◌∙◌, rules}
use Rattle.std.specs.Option.{option_map}
use Rattle.dns_data.specs.Name.{Labels}
use Rattle.net_model.specs.Step.{Setting}
use Rattle.plain_resolver.specs.declared.walk_end.ZoneEnd.{ZoneEnd}
use Rattle.alias_ends.specs.Known.{ends_in}
use Rattle.alias_ends.proofs.AliasWords.{ends_few, ends_many}
use Rattle.alias_ends.proofs.known.ends_of.Goals as goal

pub returns-in-Ok : goal.returns-in-Ok
returns-in-Ok c =
    let all = c.in-Ok.ensures.ends in
    let server = option_map (λ (one : Bor Labels). one.now) c.args.server in
    ap (λ (ends : List ZoneEnd). Some ends) all.2
    ∙ ends_few c.following-walker.result server c.args.name.now c.args.rtype all.0 all.1 c.in-Ok.ensures.few
    ∙ ap (λ (setting : Setting). ends_in setting c.args.rtype server c.args.name.now) c.following-walker.ensures

pub returns-in-Err-WalksPassed : goal.returns-in-Err-WalksPassed
returns-in-Err-WalksPassed c =
    let server = option_map (λ (one : Bor Labels). one.now) c.args.server in
    ends_many c.following-walker.result server c.args.name.now c.args.rtype (c.in-Err-WalksPassed.ensures.passed (search rules))
    ∙ ap (λ (setting : Setting). ends_in setting c.args.rtype server c.args.name.now) c.following-walker.ensures
