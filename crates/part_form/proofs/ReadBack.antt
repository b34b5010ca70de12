-- The text of the report of a part is read as that report.
use Rattle.std.proofs.Common.{◌≡◌, ◌≤◌, List, [], ◌∷◌, map, Option, Some, None, refl, ap, ◌∙◌, arith}
use Rattle.std.specs.Prelude.{option_map, option_and_then}
use Rattle.std.specs.List.{AllByRecursion}
use Rattle.dns_data.specs.Name.{Labels}
use Rattle.meta_read.specs.Members.{values_of}
use Rattle.meta_read.proofs.Values.{value_of-read}
use Rattle.net_model.specs.Class.{class_name}
use Rattle.serde_json.specs.Data.{Data, depth, items_depth}
use Rattle.serde_json.specs.Read.{max_depth}
use Rattle.report_json.specs.Json.{json_items}
use Rattle.report_json.specs.Plain.{IsPlain, ArePlain}
use Rattle.report_json.proofs.PlainValues.{entry_is_plain, entry_is_deep}
use Rattle.report_json.proofs.ReadBack.{line_reads_back}
use Rattle.part_form.specs.PartText.{ClassedEntry, WrittenPart, bound_value, classed_value, part_value, part_text}
use Rattle.part_form.specs.Stated.{bound_of, entry_stated, entries_stated, part_stated, part_in}
use Rattle.part_form.specs.Written.{IsNamedEntry, IsNamedBound, IsReadable, entry_read, part_read}
use Rattle.part_form.proofs.PlacesRead.{name_read, class_made, fault_read}

-- ---- values

values_back : (values : List Data) → values_of (json_items values) ≡ values
values_back [] = refl
values_back (value ∷ values) = ap (λ (rest : List Data). value ∷ rest) (values_back values)

-- an entry is read
entry_back : (classed : ClassedEntry) → IsNamedEntry classed → entry_stated (classed_value classed) ≡ Some (entry_read classed)
entry_back classed named =
    rw (name_read (class_name classed.class) named.class, class_made classed.class, fault_read classed.entry.seen.fault named.fault) refl

-- so are all
entries_back : (entries : List ClassedEntry) → AllByRecursion IsNamedEntry entries → entries_stated (map classed_value entries) ≡ Some (map entry_read entries)
entries_back [] named = refl
entries_back (classed ∷ entries) named = rw (entry_back classed named.0, entries_back entries named.1) refl

bound_back : (bound : Option Labels) → IsNamedBound bound → bound_of (bound_value bound) ≡ Some bound
bound_back None named = refl
bound_back (Some name) named = ap (option_map (λ (n : Labels). Some n)) (name_read name named)

-- the value of the report of a part is read as the report
stated_back : (part : WrittenPart) → IsReadable part → part_stated (part_value part) ≡ Some (part_read part)
stated_back part readable =
    rw (bound_back part.from readable.from, bound_back part.to readable.to, values_back (map classed_value part.entries), entries_back part.entries readable.entries) refl

-- ---- texts

bound_plain : (bound : Option Labels) → IsPlain (bound_value bound)
bound_plain None = tt
bound_plain (Some name) = tt

bound_deep : (bound : Option Labels) → depth (bound_value bound) ≤ 0
bound_deep None = omega arith
bound_deep (Some name) = omega arith

entries_plain : (entries : List ClassedEntry) → ArePlain (json_items (map classed_value entries))
entries_plain [] = tt
entries_plain (classed ∷ entries) = (((refl, (refl, tt)), tt, ((refl, tt), entry_is_plain classed.entry, (tt, tt, tt))), entries_plain entries)

entries_deep : (entries : List ClassedEntry) → items_depth (json_items (map classed_value entries)) ≤ 6
entries_deep [] = omega arith
entries_deep (classed ∷ entries) = omega (arith, entry_is_deep classed.entry, entries_deep entries)

part_plain : (part : WrittenPart) → IsReadable part → IsPlain (part_value part)
part_plain part readable = (
  (refl, (refl, (refl, (refl, (refl, tt))))),
  readable.classes,
  (
    (refl, (refl, (refl, (refl, tt)))),
    entries_plain part.entries,
    ((refl, (refl, (refl, tt))), bound_plain part.from, ((refl, (refl, tt)), readable.names, ((refl, tt), readable.rewrites, (tt, bound_plain part.to, tt)))),
  ),
)

part_deep : (part : WrittenPart) → depth (part_value part) ≤ max_depth
part_deep part = omega (arith, entries_deep part.entries, bound_deep part.from, bound_deep part.to)

-- the text of the report of a part is read as the report
pub part_reads_back : (part : WrittenPart) → IsReadable part → part_in (part_text part) ≡ Some (part_read part)
part_reads_back part readable =
    ap (option_and_then part_stated)
    (value_of-read (part_text part) (part_value part) readable.utf8 (line_reads_back (part_value part) (part_plain part readable) (part_deep part)))
    ∙ stated_back part readable
