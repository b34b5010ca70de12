use Rattle.interp_graph.proofs.KeysByNumber.{none_distinct}
use Rattle.interp_graph.proofs.key_set.KeyStorage.hash_many.Goals as goal

pub returns-in_err-hashed-clause-distinct : goal.returns-in_err-hashed-clause-distinct
returns-in_err-hashed-clause-distinct c = rw (c.replace-keys.ensures.after, c.new.ensures.items) none_distinct
