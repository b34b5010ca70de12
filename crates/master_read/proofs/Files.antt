-- Files that are read one within another.
use Rattle.std.proofs.Common.{◌≡◌, ℕ, List, ◌∷◌, refl, ap, ◌∙◌}
use Rattle.std.specs.Prelude.{Result, Ok, Err}
use Rattle.dns_data.specs.Answers.{◌>>=◌}
use Rattle.dns_data.specs.Name.{Labels}
use Rattle.master_lex.specs.Contents.{text_entries, text_fault}
use Rattle.master_lex.specs.declared.entry.Entry.{Entry}
use Rattle.master_read.specs.Context.{no_context, under}
use Rattle.master_read.specs.ZoneText.{Unread, Progress, most_levels, included, no_records, with_rest, as_zone_text, zone_text}

-- nothing comes behind a step
behind_ok : {T E : Type 0} (said : Result T E) → said ≡ (said >>= Ok)
behind_ok (Ok value) = refl
behind_ok (Err fault) = refl

-- a zone's file, from its first entry on
pub from_start : (origin : Labels) (room includes : ℕ) (text : List ℕ) (entries : List Entry) (later : List (List ℕ)) → text_entries text ≡ entries
    → zone_text origin room includes (text ∷ later)
    ≡ as_zone_text (with_rest (included (record { room = room; includes = includes }) most_levels) room 0 no_context entries (text_fault text)
    (record { records = record no_records { context = under origin no_context }; texts = later }) >>= Ok)
unfolding zone_text
from_start origin room includes text entries later all =
    let rest : List Entry → Result Progress Unread
    = λ es. with_rest (included (record { room = room; includes = includes }) most_levels) room 0 no_context es (text_fault text)
    (record { records = record no_records { context = under origin no_context }; texts = later }) in
    ap as_zone_text (ap rest all ∙ behind_ok (rest entries))
