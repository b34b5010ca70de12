use Rattle.same_answers.proofs.pairing.Pairing.alloc.Goals as goal

pub returns : goal.returns
returns g c = c.self.invariant.values
