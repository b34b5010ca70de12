-- The texts of times: what each stands for, in seconds. A law ties this to how times are worked out.
use Rattle.std.specs.Prelude.{◌≡◌, ◌⊎◌, ℕ, ◌*◌, ◌≤◌, ◌<◌, Bool, true, ◌&&◌, List, [], ◌∷◌, ◌++◌, length}
use Rattle.std.specs.List.{list_all, flat_map, sum_by}
use Rattle.std.specs.Option.{is_some, unwrap_or}
use Rattle.dns_data.specs.Octet.{digits_after}
use Rattle.dns_data.specs.Number.{is_digits}
use Rattle.rdata_forms.specs.Times.{unit_of}

-- a group of a time: digits, and the letter behind them
pub record TimeGroup : Type 0 where
  pub digits : List ℕ
  pub letter : ℕ

-- at least one digit, digits alone, and a letter that stands for seconds
abbrev pub is_time_group : TimeGroup → Bool
is_time_group group = is_digits group.digits && is_some (unit_of group.letter)

-- a group as it is written
abbrev pub time_group_text : TimeGroup → List ℕ
time_group_text group = group.digits ++ group.letter ∷ []

-- the seconds of a group: those of its letter as often as its digits say. A well-formed group has a letter that stands
-- for some, so the 0 is never reached.
abbrev pub time_group_seconds : TimeGroup → ℕ
time_group_seconds group = digits_after 0 group.digits * unwrap_or (unit_of group.letter) 0

-- digits alone are seconds
pub record IsSecondsText (text : List ℕ) (seconds : ℕ) : Type 0 where
  pub digits : is_digits text ≡ true
  pub stands_for : seconds ≡ digits_after 0 text

-- one or more groups, whose seconds are added
pub record IsGroupsText (text : List ℕ) (seconds : ℕ) : Type 0 where
  pub groups : List TimeGroup
  pub some : 0 < length groups
  pub well_formed : list_all is_time_group groups ≡ true
  pub written : text ≡ flat_map time_group_text groups
  pub stands_for : seconds ≡ sum_by time_group_seconds groups

-- A text stands for a time: digits alone, or one or more groups of digits with a letter behind each. It has at
-- most 2,147,483,647 seconds (RFC 2181 section 8).
pub record IsTimeText (text : List ℕ) (seconds : ℕ) : Type 0 where
  pub written : IsSecondsText text seconds ⊎ IsGroupsText text seconds
  pub within : seconds ≤ 2147483647
