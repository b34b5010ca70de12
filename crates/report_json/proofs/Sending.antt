-- Values that are sent one after another are the items of an array, and members those of an object.
use Rattle.std.proofs.Common.{◌≡◌, ℕ, suc, ◌+◌, List, [], ◌∷◌, ◌++◌, length, map, Option, Some, refl, sym, ap, subst, ◌∙◌, arith, ◌<◌, drop, get_or}
use Rattle.std.proofs.Math.Seq.{drop-cons}
use Rattle.dns_data.specs.Name.{Labels}
use Rattle.serde.specs.Event.{Log, Logs, WritesEach, seq_begins, seq_ends, map_begins}
use Rattle.serde_json.specs.Data.{Data}
use Rattle.serde_json.specs.Events.{items_len, members_len, SendsValue, SendsItems, SendsMembers}
use Rattle.report_json.specs.Json.{json_items, array_of, json_members, object_of}
use Rattle.report_json.specs.Walks.{zone_member}

-- the JSON items of a list are as many as the list has
pub items_len_of : (values : List Data) → items_len (json_items values) ≡ length values
items_len_of [] = refl
items_len_of (value ∷ values) = ap suc (items_len_of values)

-- the JSON members of a list are as many as the list has
pub members_len_of : (members : List (List ℕ × Data)) → members_len (json_members members) ≡ length members
members_len_of [] = refl
members_len_of (one ∷ more) = ap suc (members_len_of more)

-- values between the marks of a sequence are an array
pub array_sent : (values : List Data) (count : ℕ) (old first new : Log) → count ≡ length values
    → Logs old first (seq_begins (Some count)) → SendsItems (json_items values) first new → SendsValue (array_of values) old new
array_sent values count old first new same begun sent =
    (first, subst (λ n. Logs old first (seq_begins (Some n))) (same ∙ sym (items_len_of values)) begun, sent)

-- members between the marks of a map are an object
pub object_sent : (members : List (List ℕ × Data)) (count : ℕ) (old first new : Log) → count ≡ length members
    → Logs old first (map_begins (Some count)) → SendsMembers (json_members members) first new → SendsValue (object_of members) old new
object_sent members count old first new same begun sent =
    (first, subst (λ n. Logs old first (map_begins (Some n))) (same ∙ sym (members_len_of members)) begun, sent)

-- values that were sent each, and then the end of the sequence, send the items of the list
pub items_sent : (values : List Data) (old mid new : Log) → WritesEach SendsValue values old mid → Logs mid new seq_ends
    → SendsItems (json_items values) old new
items_sent [] old mid new sent ended = subst (λ log. Logs log new seq_ends) sent ended
items_sent (value ∷ values) old mid new sent ended = (sent.0, sent.1, items_sent values sent.0 mid new sent.2 ended)

-- values that were sent each, and then more that were, are all sent each
pub each_sent : (values more : List Data) (old mid new : Log) → WritesEach SendsValue values old mid
    → WritesEach SendsValue more mid new → WritesEach SendsValue (values ++ more) old new
each_sent [] more old mid new sent others = subst (λ log. WritesEach SendsValue more log new) sent others
each_sent (value ∷ values) more old mid new sent others = (sent.0, sent.1, each_sent values more sent.0 mid new sent.2 others)

-- how many there are of a list's images and of more behind them
pub mapped_and_more : {A B : Type 0} (f : A → B) (items : List A) (more : List B)
    → length items + length more ≡ length (map f items ++ more)
mapped_and_more f [] more = omega arith
mapped_and_more f (item ∷ items) more = let rest = mapped_and_more f items more in omega (arith, rest)

-- sending an object sends each object with the same members and the same zone
pub same_object : (members same : List (List ℕ × Data)) (zone same_zone : Option Labels) (old new : Log) → members ≡ same
    → zone ≡ same_zone → SendsValue (object_of (members ++ zone_member zone)) old new → SendsValue (object_of (same ++ zone_member same_zone)) old new
same_object members same zone same_zone old new by_members by_zone sent =
    subst (λ last. SendsValue (object_of (same ++ zone_member last)) old new) by_zone
    (subst (λ first. SendsValue (object_of (first ++ zone_member zone)) old new) by_members sent)

-- the items from a place on are the one there and those behind it
pub left_at : {A : Type 0} (items : List A) (i : ℕ) (item : A) → i < length items → item ≡ get_or items i item
    → drop i items ≡ item ∷ drop (i + 1) items
left_at items i item below is =
    let next : suc i ≡ i + 1 = omega arith in
    drop-cons items i item below ∙ (ap (λ one. one ∷ drop (suc i) items) (sym is) ∙ ap (λ n. item ∷ drop n items) next)
