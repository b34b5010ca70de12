-- Values of JSON that are written and read back as they are (RFC 8259).
use Rattle.std.specs.Prelude.{◌≡◌, ℕ, ◌<◌, ◌^◌, false, List, Some, ⊤}
use Rattle.std.specs.Ordering.{nat_cmp}
use Rattle.std.specs.Cmp.Lexicographic.{slice_cmp}
use Rattle.std.specs.declared.cmp.Ordering.TheVariants.{Greater}
use Rattle.serde_json.specs.Data.{Num, unsigned, negative, float, Data, null, boolean, number, string, array, object, Items, no_items, item, Members, no_members, member}
use Rattle.serde_json.specs.Read.{read}
use Rattle.serde_json.specs.Written.{has_float, compact_text}

-- the names of all members are above this one
abbrev pub NamesAreAbove : List ℕ → Members → Type 0
NamesAreAbove name no_members = ⊤
NamesAreAbove name (member key value more) = (slice_cmp nat_cmp key name ≡ Greater) × NamesAreAbove name more

-- a whole number of 64 bits
abbrev pub IsWholeNumber : Num → Type 0
IsWholeNumber (unsigned n) = n < 2 ^ 64
IsWholeNumber (negative z) = ⊥
IsWholeNumber (float x) = ⊥

abbrev mutual
  -- the value is written and read back as it is: each number is a whole one of 64 bits, and the members of each object
  -- stand in the order of the octets of their names, each once
  pub IsPlain : Data → Type 0
  IsPlain null = ⊤
  IsPlain (boolean b) = ⊤
  IsPlain (number n) = IsWholeNumber n
  IsPlain (string text) = ⊤
  IsPlain (array values) = ArePlain values
  IsPlain (object members) = MembersPlain members

  -- each value of the list is plain
  pub ArePlain : Items → Type 0
  ArePlain no_items = ⊤
  ArePlain (item value more) = IsPlain value × ArePlain more

  -- each member of the object has a plain value, and stands before those whose names are greater
  pub MembersPlain : Members → Type 0
  MembersPlain no_members = ⊤
  MembersPlain (member key value more) = NamesAreAbove key more × IsPlain value × MembersPlain more

-- what serde_json writes of a value (`to_vec`): a text that it reads as the value. Of a value without a number that has a
-- fraction or an exponent it is the compact text.
pub record IsWritten (value : Data) (text : List ℕ) : Type 0 where
  pub reads_back : read text ≡ Some value
  pub compact : has_float value ≡ false → text ≡ compact_text value
