use Rattle.std.proofs.Common.{List, Bool, sym, ap, ◌∙◌, true≢false}
use Rattle.std.specs.Prelude.{is_some}
use Rattle.dns_data.specs.TypeSet.{has_bit}
use Rattle.name_rules.specs.SymName.{whole}
use Rattle.sym_query.proofs.answers.answer_to.Goals as goal

pub unreachable-requires : goal.unreachable-requires
unreachable-requires c = absurd (true≢false (sym c.requires.some.1 ∙ (c.first.ensures.none.0 (ap is_some c.in-None.is)) c.requires.some.0))

pub returns-clause-found : goal.returns-clause-found
returns-clause-found c = λ rtype has.
    c.of.ensures.found ∙ c.in_ok-found-in-Some.ensures
    ∙ c.requires.alike (whole c.args.name.now) c.in-Some.t rtype c.in-Some.ensures.member (ap (λ (s : List Bool). has_bit s rtype) (sym c.of.ensures.types) ∙ has)
