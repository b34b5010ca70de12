-- The context in which an entry is read (RFC 1035 section 5.1, RFC 2308 section 4), and what a record leaves in it.
use Rattle.std.specs.Prelude.{ℕ, [], is_none, if◌then◌else◌, Option, Some, None}
use Rattle.std.specs.Option.{option_or}
use Rattle.dns_data.specs.Name.{Labels}
use Rattle.master_read.specs.declared.context.Context.{Context}

-- the context before everything: the root as origin, no TTL and no owner
abbrev pub no_context : Context
no_context = record { origin = []; default_ttl = None; stated_ttl = None; owner = None }

-- the context of a file's first entry: the file's origin, and what stands before the file
abbrev pub under : Labels → Context → Context
under origin context = record context { origin = origin }

-- the context behind a file: its TTLs, and the origin and the last owner before it
abbrev pub back_at : Context → Context → Context
back_at before context = record context { origin = before.origin; owner = before.owner }

-- the context behind a record with this owner and this stated TTL
abbrev pub behind_record : Context → Labels → Option ℕ → Context
behind_record context owner stated = record context { stated_ttl = option_or stated context.stated_ttl; owner = Some owner }

-- the TTL of a record without a stated one: that of `$TTL`, else the last stated one
abbrev pub inherited_ttl : Context → Option ℕ
inherited_ttl context = option_or context.default_ttl context.stated_ttl

-- the context behind a record whose data say a TTL themselves, which counts as stated where nothing else says one
abbrev pub behind_data : Context → Option ℕ → Context
behind_data context minimum = record context {
  stated_ttl = (if is_none (inherited_ttl context) then minimum else context.stated_ttl);
}
