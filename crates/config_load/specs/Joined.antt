-- The names under which files are opened.
use Rattle.std.specs.Prelude.{ℕ, nat_eq, List, [], ◌∷◌, ◌++◌, codes, if◌then◌else◌}
use Rattle.std.specs.List.{list_any, starts_with}

-- the front of a file's name up to and including the last slash
abbrev pub directory_of : List ℕ → List ℕ
directory_of [] = []
directory_of (octet ∷ octets) =
    if list_any (nat_eq 47) (octet ∷ octets) then octet ∷ directory_of octets else []

-- the name under which a file of the metadata or an included file is opened: behind the directory of the metadata's
-- name, unless it begins with a slash
abbrev pub joined : List ℕ → List ℕ → List ℕ
joined meta file = if starts_with nat_eq file (codes "/") then file else directory_of meta ++ file
