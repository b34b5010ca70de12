-- The prefixes of a name: its ancestors and itself (RFC 1034 section 3.1).
use Rattle.std.specs.Prelude.{Bool, List, [], ◌∷◌, map, reverse, Option}
use Rattle.std.specs.List.{find}
use Rattle.dns_data.specs.Name.{Labels}

-- the prefixes of a name, its ancestors and itself: the root first, the name last (RFC 1034 section 3.1)
abbrev pub prefixes : Labels → List Labels
prefixes [] = [] ∷ []
prefixes (label ∷ rest) = [] ∷ map (λ above. label ∷ above) (prefixes rest)

-- the shortest prefix that passes the test
abbrev pub shortest : (Labels → Bool) → Labels → Option Labels
shortest test name = find test (prefixes name)

-- the longest prefix that passes the test
abbrev pub longest : (Labels → Bool) → Labels → Option Labels
longest test name = find test (reverse (prefixes name))
