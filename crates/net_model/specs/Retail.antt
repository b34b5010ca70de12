-- A walk with the unnamed last labels of its query replaced, wherever they were carried.
use Rattle.std.specs.Prelude.{ℕ, ◌-◌, Bool, List, ◌∷◌, ◌++◌, length, take, map, if◌then◌else◌}
use Rattle.dns_data.specs.Name.{Labels}
use Rattle.net_model.specs.declared.walk.Hop.{Hop}
use Rattle.net_model.specs.declared.walk.Hop.TheVariants.{Refer, Rewrite}
use Rattle.net_model.specs.declared.walk.State.{State}
use Rattle.net_model.specs.declared.walk.Walk.{Walk}

-- the name with its last labels, so many, replaced by others
abbrev pub retailed_name : ℕ → Labels → Labels → Labels
retailed_name count tail name = take (length name - count) name ++ tail

-- a state that carries the query's last labels has them in its name
abbrev pub retailed_state : ℕ → Labels → State → State
retailed_state count tail state =
    if state.carried then record state { name = retailed_name count tail state.name } else state

-- a rewrite by DNAME of a carried name carries them to the new name
abbrev pub retailed_hop : ℕ → Labels → Bool → Hop → Hop
retailed_hop count tail carried (Refer cut) = Refer cut
retailed_hop count tail carried (Rewrite place by_dname to) =
    if carried then (if by_dname then Rewrite place by_dname (retailed_name count tail to) else Rewrite place by_dname to)
    else Rewrite place by_dname to

-- the hops, each made from the state in the same place: a walk has a state for each hop, so the last line is that of
-- no hop
abbrev pub retailed_hops : ℕ → Labels → List State → List Hop → List Hop
retailed_hops count tail (state ∷ states) (hop ∷ hops) =
    retailed_hop count tail state.carried hop ∷ retailed_hops count tail states hops
retailed_hops count tail states hops = hops

-- the walk with the query's last labels replaced by others; all else stays
abbrev pub retail : ℕ → Labels → Walk → Walk
retail count tail walk =
    record {
      states = map (retailed_state count tail) walk.states;
      hops = retailed_hops count tail walk.states walk.hops;
      leaf = walk.leaf;
    }
