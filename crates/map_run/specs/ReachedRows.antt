-- For the code alone, no public clause cites it: servers that answer the SOA query at the origin of a zone.
use Rattle.std.specs.Prelude.{◌≡◌, Bool, ◌&&◌, List, [], ◌∷◌, if◌then◌else◌}
use Rattle.std.specs.HashSet as sets
use Rattle.std.specs.List.{list_any}
use Rattle.dns_data.specs.Name.{Labels, name_eq}
use Rattle.dns_data.specs.RrType.{type_eq}
use Rattle.dns_data.specs.declared.rr_type.RrType.TheVariants.{Soa}
use Rattle.config_load.specs.declared.loaded.RowFiles.{RowFiles}
use Rattle.site_checks.specs.Ends.{is_answer}
use Rattle.site_checks.specs.declared.views.TypedEnd.{TypedEnd}
use Rattle.map_run.specs.declared.answered.Answered.{Answered}
use Rattle.map_run.specs.declared.answered.Teller.{Teller}

-- the end is an answer of type SOA
abbrev pub is_soa_answer : TypedEnd → Bool
is_soa_answer end = type_eq end.rtype Soa && is_answer end.leaf

-- the server of an end that is an answer of type SOA, or nothing for any other end
abbrev pub answering_at : TypedEnd → List Labels
answering_at end = if is_soa_answer end then end.server ∷ [] else []

-- the server is one of those that answer at the origin
abbrev pub is_answering : Labels → Labels → Answered → Bool
is_answering server origin one = name_eq one.origin origin && list_any (name_eq server) one.servers

-- the row's server answers at the origin of its zone
abbrev pub is_row_answered : List Answered → RowFiles → Bool
is_row_answered answered row = list_any (is_answering row.server row.origin) answered

-- they tell of one server and of one origin
abbrev pub teller_eq : Teller → Teller → Bool
teller_eq a b = name_eq a.server b.server && name_eq a.origin b.origin

-- a set tells of this server and of this origin
abbrev pub tells : {S : Type 0} → sets.HashSet Teller S → Labels → Labels → Bool
tells tellers server origin = sets.contains teller_eq tellers (record { server = server; origin = origin })

-- the set tells of each server that answers at an origin, and of no others
abbrev pub TellOfAnswers : {S : Type 0} → List Answered → sets.HashSet Teller S → Type 0
TellOfAnswers answered tellers = (server origin : Labels) → tells tellers server origin ≡ list_any (is_answering server origin) answered
