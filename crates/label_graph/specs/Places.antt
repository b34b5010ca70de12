-- For the code alone, no public clause cites it: what a live set keeps.
use Rattle.std.specs.Prelude.{ℕ, List, [], ◌∷◌}
use Rattle.label_graph.specs.declared.live.LiveForm.{LiveForm}
use Rattle.label_graph.specs.declared.live.LiveForm.TheVariants.{One, Listed}

-- the one place, or those that are listed
abbrev pub places_in : LiveForm → List ℕ
places_in (One place) = place ∷ []
places_in (Listed listed) = listed.value
