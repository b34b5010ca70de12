-- Where a step of a walk stands, in the value of an entry. The contracts of inner calls alone cite it.
use Rattle.std.specs.Prelude.{ℕ, Bool, false, ◌&&◌, List, codes}
use Rattle.std.specs.Option.{option_map_or}
use Rattle.dns_data.specs.Name.{Labels}
use Rattle.dns_data.specs.Rdata.{octets_eq}
use Rattle.dns_data.specs.Spelling.{name_text}
use Rattle.meta_read.specs.Members.{text_at}
use Rattle.net_model.specs.declared.walk.State.{State}
use Rattle.serde_json.specs.Data.{Data}

-- the value has the text of the name at the key
abbrev pub has_name : List ℕ → Labels → Data → Bool
has_name key name value = option_map_or (λ text. octets_eq text (name_text name)) (text_at key value) false

-- the value is that of a step from the state's server with the state's name
abbrev pub is_at : Data → State → Bool
is_at value state = has_name (codes "server") state.server value && has_name (codes "name") state.name value
