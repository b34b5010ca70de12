-- Words in which worked values are written.
use Prim.Native.String.{String as Text}
use Rattle.std.specs.Prelude.{ℕ, false, true, List, [], ◌∷◌, ◌++◌, map, reverse, codes, Option, Some, None, Result, Ok, Err, ◌==◌}
use Rattle.std.specs.List.{flat_map, slice_split}
use Rattle.dns_data.specs.Name.{Labels}
use Rattle.dns_data.specs.declared.rdata.Rdata.{Rdata}
use Rattle.dns_data.specs.declared.rdata.Rr.{Rr}
use Rattle.master_lex.specs.declared.entry.Entry.{Entry}
use Rattle.master_lex.specs.declared.entry.Token.{Token}
use Rattle.master_lex.specs.declared.fault.LexFault.{LexFault}
use Rattle.master_read.specs.Context.{no_context, under}
use Rattle.master_read.specs.Directives.{Directive, Sets, Includes}
use Rattle.master_read.specs.Entries.{Front, Made}
use Rattle.master_read.specs.ZoneText.{Unread, Faulty, most_levels, included, with_rest, no_records, as_zone_text, zone_text}
use Rattle.master_read.specs.declared.context.Context.{Context}
use Rattle.master_read.specs.declared.fault.TextCause.{TextCause}
use Rattle.master_read.specs.declared.fault.TextFault.TheVariants.{At}
use Rattle.master_read.specs.declared.zone_text.ZoneText.{ZoneText}

-- a token as it is written
abbrev pub token : Text → Token
token text = record { raw = codes text; quoted = false }

-- a token in quotes
abbrev pub in_quotes : Text → Token
in_quotes text = record { raw = codes text; quoted = true }

-- a token without quotes, of these octets
abbrev pub bare : List ℕ → Token
bare raw = record { raw = raw; quoted = false }

-- the pieces of a text between octets of this number
abbrev pub split_on : ℕ → Text → List (List ℕ)
split_on separator text = slice_split (λ octet. octet == separator) (codes text)

-- the tokens of a text with spaces between
abbrev pub tokens : Text → List Token
tokens text = map bare (split_on 32 text)

-- the name of labels with dots between, the top one last
abbrev pub name : Text → Labels
name text = reverse (split_on 46 text)

-- an entry at the front of its line
abbrev pub entry : ℕ → List Token → Entry
entry line tokens = record { line = line; blank_start = false; tokens = tokens }

-- an entry on a line that begins with a space or a tab
abbrev pub indented : ℕ → List Token → Entry
indented line tokens = record { line = line; blank_start = true; tokens = tokens }

-- a context: the origin, the TTL of `$TTL`, the last stated one, the last owner
abbrev pub context_with : Labels → Option ℕ → Option ℕ → Option Labels → Context
context_with origin default stated owner =
    record { origin = origin; default_ttl = default; stated_ttl = stated; owner = owner }

-- what stands in front of a type: the TTL, whether the class, and the tokens from there on
abbrev pub front_with : Option ℕ → List Token → Front
front_with ttl tokens = record { ttl = ttl; class = false; tokens = tokens }

-- what stands in front of a type behind the class: the TTL, and the tokens from there on
abbrev pub front_in_class : Option ℕ → List Token → Front
front_in_class ttl tokens = record { ttl = ttl; class = true; tokens = tokens }

-- a record: its owner, its TTL, its data and its line
abbrev pub rr : Labels → ℕ → Rdata → ℕ → Rr
rr owner ttl rdata line = record { owner = owner; ttl = ttl; rdata = rdata; file = 0; line = line }

-- a record entry makes this record, and leaves this context
abbrev pub makes : Context → Rr → Result Made TextCause
makes context rr = Ok (record { context = context; rr = Some rr })

-- a record entry is dropped, and leaves this context
abbrev pub drops : Context → Result Made TextCause
drops context = Ok (record { context = context; rr = None })

-- lines, each ended by its line feed
abbrev pub lines : List (List ℕ) → List ℕ
lines texts = flat_map (λ text. text ++ 10 ∷ []) texts

-- what a text gives alone, where no file may be included
abbrev pub alone : Labels → ℕ → List ℕ → Result ZoneText Unread
alone origin room text = zone_text origin room 0 (text ∷ [])

-- what the entries of a file give, and the fault of a spelling behind them
abbrev pub entries_alone : Labels → ℕ → List Entry → Option LexFault → Result ZoneText Unread
entries_alone origin room entries fault =
    as_zone_text (with_rest (included (record { room = room; includes = 0 }) most_levels) room 0 no_context entries fault
    (record { records = record no_records { context = under origin no_context }; texts = [] }))

-- a text has these records, and so many record entries
abbrev pub reads : List Rr → ℕ → Result ZoneText Unread
reads rrs seen = Ok (record { rrs = rrs; seen = seen; included = 0 })

-- a text has this fault in this line
abbrev pub faulty : ℕ → TextCause → Result ZoneText Unread
faulty line cause = Err (Faulty (At 0 line cause))

-- the directive sets this context
abbrev pub sets : Context → Result Directive TextCause
sets context = Ok (Sets context)

-- the directive includes a file under an origin
abbrev pub includes_file : Text → Labels → Result Directive TextCause
includes_file file origin = Ok (Includes (codes file) origin)
