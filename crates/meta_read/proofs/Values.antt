-- Values of JSON as the program holds them.
use Rattle.std.proofs.Common.{◌≡◌, ℕ, Bool, true, false, List, [], ◌∷◌, cond, None, Some, refl, ap, ◌∙◌}
use Rattle.std.specs.Str.{IsUtf8, is_utf8}
use Rattle.std.proofs.lemmas.Str.{is_utf8-from_IsUtf8, IsUtf8-from_is_utf8}
use Rattle.serde_json.specs.Data.{Data}
use Rattle.serde_json.specs.Read.{read}
use Rattle.serde_json.specs.View.{items_of}
use Rattle.meta_read.specs.Members.{values_of, value_of}

-- an array made of values has these values
pub values_of-items_of : (values : List Data) → values_of (items_of values) ≡ values
values_of-items_of [] = refl
values_of-items_of (value ∷ values) = ap (λ rest. value ∷ rest) (values_of-items_of values)

-- the value of octets that are a value's text
pub value_of-read : (octets : List ℕ) (value : Data) → IsUtf8 octets → read octets ≡ Some value → value_of octets ≡ Some value
value_of-read octets value text reads = ap (λ b. cond b (read octets) None) (is_utf8-from_IsUtf8 octets text) ∙ reads

-- octets that are no value's text have none
pub value_of-unread : (octets : List ℕ) → (IsUtf8 octets → read octets ≡ None) → value_of octets ≡ None
value_of-unread octets unread = by (is_utf8 octets) refl where
  by : (b : Bool) → is_utf8 octets ≡ b → cond b (read octets) None ≡ None
  by true text = unread (IsUtf8-from_is_utf8 octets text)
  by false text = refl
