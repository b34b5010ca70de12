-- The check for servers that answer.
use Rattle.std.specs.Prelude.{ℕ, List, ◌++◌, codes, if◌then◌else◌}
use Rattle.std.specs.List.{fold}
use Rattle.dns_data.specs.Name.{Labels}
use Rattle.dns_data.specs.Rdata.{octets_eq}
use Rattle.dns_data.specs.Spelling.{name_text}
use Rattle.site_checks.specs.Ends.{is_answer}
use Rattle.site_checks.specs.Once.{with_new}
use Rattle.site_checks.specs.declared.views.TypedEnd.{TypedEnd}
use Rattle.site_checks.specs.declared.views.View.{View}

-- the line of a server
abbrev pub answers_line : Labels → List ℕ
answers_line server = codes "answers " ++ name_text server

-- the findings with the line of an answering end behind them, unless it is there
abbrev pub with_answer : List (List ℕ) → TypedEnd → List (List ℕ)
with_answer held end = if is_answer end.leaf then with_new octets_eq held (answers_line end.server) else held

-- the findings with those of all ends of the view, in order
abbrev pub answering : List (List ℕ) → View → List (List ℕ)
answering held view = fold with_answer held view.ends
