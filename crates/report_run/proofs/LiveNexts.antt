-- Labels below names, each with the live set of the name that it makes.
use Rattle.std.proofs.Common.{List, [], ◌∷◌, ◌++◌, All}
use Rattle.std.proofs.lemmas.List.Elements.{All-weaker}
use Rattle.dns_data.specs.Name.{Labels}
use Rattle.label_graph.specs.LiveSet.{IsLiveSet}
use Rattle.label_graph.specs.declared.next.NextName.{NextName}
use Rattle.net_model.specs.Reading.{Ground}

-- the live set is that of a name
abbrev pub HasLiveSet : Ground → NextName → Type 0
HasLiveSet ground next = (name : Labels) × IsLiveSet ground name next.live

-- so has each label below a name with this live set
pub below_have : (ground : Ground) (above : Labels) (nexts : List NextName) → All (λ next. IsLiveSet ground (above ++ next.label ∷ []) next.live) nexts
    → All (HasLiveSet ground) nexts
below_have ground above nexts =
    All-weaker (λ next. IsLiveSet ground (above ++ next.label ∷ []) next.live) (HasLiveSet ground) (λ next is. (above ++ next.label ∷ [], is)) nexts
