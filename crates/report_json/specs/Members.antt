-- The members of objects as references hold them, and as they are sent: for the contracts of inner calls alone.
use Rattle.std.specs.Prelude.{ℕ, List, ◌++◌}
use Rattle.serde.specs.Event.{Log}
use Rattle.serde_json.specs.Data.{Data, string}
use Rattle.serde_json.specs.Events.{SendsMembers}
use Rattle.report_json.specs.Json.{json_members, name_value, texts_value}
use Rattle.report_json.specs.declared.object.Member.{Member}
use Rattle.report_json.specs.declared.object.Part.{Part}
use Rattle.report_json.specs.declared.object.Part.TheVariants.{Word, Name, Texts}

-- what a member holds
abbrev pub part_value : Part → Data
part_value (Word word) = string word.now
part_value (Name name) = name_value name.now
part_value (Texts rdata) = texts_value rdata.now

-- a member
abbrev pub member_of : Member → List ℕ × Data
member_of member = (member.key.now, part_value member.value)

-- these members were sent: what ends an object behind them ends one that begins with them
abbrev pub SendsMore : List (List ℕ × Data) → Log → Log → Type 0
SendsMore members old new =
    (rest : List (List ℕ × Data)) (end : Log) → SendsMembers (json_members rest) new end → SendsMembers (json_members (members ++ rest)) old end
