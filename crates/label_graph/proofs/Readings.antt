-- Readings with labels below, in a row, and of the prefixes of a name.
use Rattle.std.proofs.Common.{List, [], ◌∷◌, ◌++◌, map, Contains, refl, sym, ap, ◌∙◌, subst, append_assoc, append-nil}
use Rattle.dns_data.specs.Name.{Labels}
use Rattle.net_model.specs.Reading.{Redirection, ReadsOnce, ReadsAlong, ReadsOnTo}

-- one reading, with labels below
once_below : (redirections : List Redirection) (name next below : Labels) → ReadsOnce redirections name next
    → ReadsOnce redirections (name ++ below) (next ++ below)
once_below redirections name next below once =
    record {
      redirection = once.redirection;
      among = once.among;
      below = once.below ++ below;
      before = ap (λ (n : Labels). n ++ below) once.before ∙ append_assoc once.redirection.owner once.below below;
      after = ap (λ (n : Labels). n ++ below) once.after ∙ append_assoc once.redirection.target once.below below;
    }

along_below : (redirections : List Redirection) (name : Labels) (between : List Labels) (last below : Labels)
    → ReadsAlong redirections name between last
    → ReadsAlong redirections (name ++ below) (map (λ n. n ++ below) between) (last ++ below)
along_below redirections name [] last below e = ap (λ (n : Labels). n ++ below) e
along_below redirections name (next ∷ rest) last below (once, later) =
    (once_below redirections name next below once, along_below redirections next rest last below later)

-- a name that reads on to another does so with labels below both
pub reads_below : (redirections : List Redirection) (name last below : Labels) → ReadsOnTo redirections name last
    → ReadsOnTo redirections (name ++ below) (last ++ below)
reads_below redirections name last below (between, along) =
    (map (λ (n : Labels). n ++ below) between, along_below redirections name between last below along)

along_then : (redirections : List Redirection) (name : Labels) (between : List Labels) (via : Labels) (more : List Labels) (last : Labels)
    → ReadsAlong redirections name between via → ReadsAlong redirections via more last → ReadsAlong redirections name (between ++ more) last
along_then redirections name [] via more last e then = subst (λ (n : Labels). ReadsAlong redirections n more last) (sym e) then
along_then redirections name (next ∷ rest) via more last (once, later) then =
    (once, along_then redirections next rest via more last later then)

-- a name that reads on to a second, which reads on to a third, reads on to the third
pub reads_then : (redirections : List Redirection) (name via last : Labels) → ReadsOnTo redirections name via
    → ReadsOnTo redirections via last → ReadsOnTo redirections name last
reads_then redirections name via last (between, along) (more, then) =
    (between ++ more, along_then redirections name between via more last along then)

-- a name reads on to itself
pub reads_itself : (redirections : List Redirection) (name : Labels) → ReadsOnTo redirections name name
reads_itself redirections name = ([], refl)

-- a redirection's owner reads on to whatever its target reads on to
pub owner_reads : (redirections : List Redirection) (redirection : Redirection) (last : Labels) → Contains redirections redirection
    → ReadsOnTo redirections redirection.target last → ReadsOnTo redirections redirection.owner last
owner_reads redirections redirection last among (between, along) = (
  redirection.target ∷ between,
  (
    record {
      redirection = redirection;
      among = among;
      below = [];
      before = sym (append-nil redirection.owner);
      after = sym (append-nil redirection.target);
    },
    along,
  ),
)
