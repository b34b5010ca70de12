-- The check for queries that have IPv4 addresses and no IPv6 address.
use Rattle.std.specs.Prelude.{ℕ, ◌&&◌, not, List, [], ◌∷◌, ◌++◌, codes, if◌then◌else◌}
use Rattle.dns_data.specs.Name.{Labels}
use Rattle.dns_data.specs.Spelling.{name_text}
use Rattle.dns_data.specs.declared.rr_type.RrType.TheVariants.{A, Aaaa}
use Rattle.site_checks.specs.Ends.{is_answered}
use Rattle.site_checks.specs.declared.views.View.{View}

-- the line of a query
abbrev pub a_only_line : Labels → List ℕ
a_only_line query = codes "a-only " ++ name_text query

-- the findings with the line of the view's query behind them, where some end of type A is an answer and none of type AAAA
abbrev pub a_only : List (List ℕ) → View → List (List ℕ)
a_only held view =
    if is_answered A view.ends && not (is_answered Aaaa view.ends) then held ++ a_only_line view.query ∷ [] else held
