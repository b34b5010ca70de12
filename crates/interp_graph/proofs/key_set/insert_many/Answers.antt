use Rattle.interp_graph.proofs.KeysByNumber.{key_taken}
use Rattle.interp_graph.proofs.key_set.insert_many.Goals as goal

pub returns-clause-taken : goal.returns-clause-taken
returns-clause-taken c =
    key_taken c.args.keys.now.keys c.insert_full.new.self.keys c.args.key c.in_ok-number.number c.in_ok-number.is_new c.in_ok-number.ensures.added
    c.in_ok-number.ensures.keys c.in_ok-number.ensures.stored
