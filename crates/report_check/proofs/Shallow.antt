-- What stands in a value nests no deeper than the value.
use Rattle.std.proofs.Common.{◌≡◌, ℕ, ◌≤◌, List, Option, Some, None, option_and_then, Ordering, Less, Equal, Greater, refl, ap, subst, arith}
use Rattle.std.specs.List.{AllByRecursion}
use Rattle.std.specs.Option.{option_map}
use Rattle.std.specs.Cmp.Lexicographic.{slice_cmp}
use Rattle.std.specs.Ordering.{nat_cmp, match_ordering}
use Rattle.meta_read.specs.Members.{list_at, values_of}
use Rattle.serde_json.specs.Data.{Data, null, boolean, number, string, array, object, Items, no_items, item, Members, no_members, member, depth, items_depth, members_depth}
use Rattle.serde_json.specs.Find.{as_array, get, get_member}

-- a member of an object
member_shallow : (key : List ℕ) (members : Members) (value : Data) → get_member key members ≡ Some value → depth value ≤ members_depth members
member_shallow key no_members value e = absurd cc
member_shallow key (member name here more) value e = by (member_shallow key more value) (slice_cmp nat_cmp key name) e where
  by : (get_member key more ≡ Some value → depth value ≤ members_depth more) → (order : Ordering)
      → match_ordering order (get_member key more) (Some here) (get_member key more) ≡ Some value → depth value ≤ members_depth (member name here more)
  by later Less e = omega (arith, later e)
  by later Equal e =
      let same : here ≡ value = cc in
      omega (arith, ap depth same)
  by later Greater e = omega (arith, later e)

get_shallow : (key : List ℕ) (value found : Data) → get key value ≡ Some found → depth found ≤ depth value
get_shallow key null found e = absurd cc
get_shallow key (boolean b) found e = absurd cc
get_shallow key (number n) found e = absurd cc
get_shallow key (string s) found e = absurd cc
get_shallow key (array items) found e = absurd cc
get_shallow key (object members) found e = omega (arith, member_shallow key members found e)

-- the items of a list
items_shallow : (items : Items) (most : ℕ) → items_depth items ≤ most → AllByRecursion (λ (value : Data). depth value ≤ most) (values_of items)
items_shallow no_items most within = tt
items_shallow (item value more) most within = (omega arith, items_shallow more most (omega arith))

array_shallow : (value : Data) (items : Items) → as_array value ≡ Some items → items_depth items ≤ depth value
array_shallow null items e = absurd cc
array_shallow (boolean b) items e = absurd cc
array_shallow (number n) items e = absurd cc
array_shallow (string s) items e = absurd cc
array_shallow (array own) items e =
    let same : own ≡ items = cc in
    omega (arith, ap items_depth same)
array_shallow (object own) items e = absurd cc

-- the items of the list at a key nest no deeper than the value
pub list_shallow : (key : List ℕ) (value : Data) (list : List Data) (most : ℕ) → list_at key value ≡ Some list → depth value ≤ most
    → AllByRecursion (λ (one : Data). depth one ≤ most) list
list_shallow key value list most at within = of_found (get key value) refl at where
  of_items : (found : Data) → depth found ≤ most → (items : Option Items) → as_array found ≡ items → option_map values_of items ≡ Some list
      → AllByRecursion (λ (one : Data). depth one ≤ most) list
  of_items found here None is e = absurd cc
  of_items found here (Some items) is e =
      let same : values_of items ≡ list = cc in
      subst (AllByRecursion (λ (one : Data). depth one ≤ most)) same (items_shallow items most (omega (arith, array_shallow found items is)))

  of_found : (found : Option Data) → get key value ≡ found → option_map values_of (option_and_then as_array found) ≡ Some list
      → AllByRecursion (λ (one : Data). depth one ≤ most) list
  of_found None is e = absurd cc
  of_found (Some found) is e = of_items found (omega (arith, get_shallow key value found is)) (as_array found) refl e
