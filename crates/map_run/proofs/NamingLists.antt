-- A set of names with one name more.
use Rattle.std.proofs.Common.{◌≡◌, List, [], ◌∷◌, Ordering, Less, Equal, Greater, refl, ap}
use Rattle.std.specs.BTreeSet.{insert_key}
use Rattle.std.specs.Ordering.{match_ordering}
use Rattle.dns_data.specs.Name.{Labels, name_cmp}
use Rattle.net_model.specs.Order.{beside, put_in_order}

-- a name that is put into a set gets its place
pub put_key : (name : Labels) (names : List Labels) → insert_key name_cmp names name ≡ put_in_order name_cmp name names
put_key name [] = refl
put_key name (first ∷ names) = by (name_cmp name first) (put_key name names) where
  by : (o : Ordering) → insert_key name_cmp names name ≡ put_in_order name_cmp name names
      → match_ordering o (name ∷ first ∷ names) (first ∷ names) (first ∷ insert_key name_cmp names name) ≡ beside name first names (put_in_order name_cmp name names) o
  by Less rest = refl
  by Equal rest = refl
  by Greater rest = ap (λ (xs : List Labels). first ∷ xs) rest
