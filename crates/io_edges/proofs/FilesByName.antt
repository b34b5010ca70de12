-- A map of the program, seen as files by name.
use Rattle.std.proofs.Common.{◌≡◌, ℕ, Bool, true, false, cond, List, [], ◌∷◌, IsSome, map, Some, None, String, string_bytes, Option, refl, subst, sym, ap, ◌∙◌}
use Rattle.std.specs.Option.{option_map}
use Rattle.std.specs.Map.{lookup}
use Rattle.std.specs.BTreeMap.{BTreeMap, is_at, UpdatesBy, WritesThrough, get_by_text}
use Rattle.std.specs.Str.{bytes_eq}
use Rattle.std.specs.String.{string_cmp}
use Rattle.std.specs.Ordering.{nat_cmp, eq_by_cmp}
use Rattle.std.specs.Cmp.{eq_by_cmp_equiv}
use Rattle.std.specs.Cmp.Lexicographic.{slice_cmp, nat_list_cmp_total}
use Rattle.std.specs.FinMap as finite
use Rattle.std.proofs.lemmas.Map.Text.{btree_map_updates_text, text_cmp, is_eq-slice_cmp}
use Rattle.std.proofs.lemmas.Map.Lookups.{exact_bytes}
use Rattle.io_edges.specs.Counts.{risen}
use Rattle.io_edges.specs.declared.named_files.StoredFile.{StoredFile}
use Rattle.io_edges.specs.Counts.{risen}
use Rattle.io_edges.specs.MemoryFiles.{with_octets, with_failure, failed_once_more}
use Rattle.io_edges.specs.NamedFiles.{stored, named, files_by_name}

option_map-cond : {X Y : Type 0} (f : X → Y) (b : Bool) (x : X) (o : Option X) → option_map f (cond b (Some x) o) ≡ cond b (Some (f x)) (option_map f o)
option_map-cond f true x o = refl
option_map-cond f false x o = refl

find-named : {A : Type 0} (entries : List (String A × StoredFile)) (name : List ℕ) → finite.find (slice_cmp nat_cmp) name (map named entries) ≡ option_map stored (lookup (is_at (text_cmp name)) entries)
find-named [] name = refl
find-named (e ∷ es) name =
    ap (cond (eq_by_cmp (slice_cmp nat_cmp) name (string_bytes e.0)) (Some (stored e.1))) (find-named es name)
    ∙ sym (option_map-cond stored (eq_by_cmp (slice_cmp nat_cmp) name (string_bytes e.0)) e.1 (lookup (is_at (text_cmp name)) es))

same_test : (name other : List ℕ) → bytes_eq name other ≡ eq_by_cmp (slice_cmp nat_cmp) other name
same_test name other = sym (is_eq-slice_cmp name other) ∙ (eq_by_cmp_equiv nat_list_cmp_total).symm name other

module _ {A : Type 0} where
  -- a look-up by name is a look-up in the map
  pub get-files_by_name : (m : BTreeMap (String A) StoredFile) (name : List ℕ) → finite.get (files_by_name m.entries) name ≡ option_map stored (get_by_text m name)
  get-files_by_name m name = finite.get-from_entries nat_list_cmp_total _ name ∙ find-named m.entries name

  -- a map in which one name changed is seen as the files with that one changed
  pub files_by_name-update : (name : List ℕ) (file : StoredFile) (old new : BTreeMap (String A) StoredFile) → UpdatesBy string_cmp (λ key. slice_cmp nat_cmp name (string_bytes key)) old new (Some file) → files_by_name new.entries ≡ finite.insert (files_by_name old.entries) name (stored file)
  files_by_name-update name file old new changed =
      finite.same_map nat_list_cmp_total exact_bytes _ _ (λ other.
      get-files_by_name new other
      ∙ ap (option_map stored) (btree_map_updates_text name old new (Some file) changed other)
      ∙ option_map-cond stored (bytes_eq name other) file (get_by_text old other)
      ∙ ap (λ b. cond b (Some (stored file)) (option_map stored (get_by_text old other))) (same_test name other)
      ∙ ap (cond (eq_by_cmp (slice_cmp nat_cmp) other name) (Some (stored file))) (sym (get-files_by_name old other))
      ∙ sym (finite.get-insert nat_list_cmp_total (files_by_name old.entries) name (stored file) other))

  -- a failure at a name under which no file is stored changes no file
  pub unchanged-with_failure : (name : List ℕ) (m : BTreeMap (String A) StoredFile) → None ≡ get_by_text m name → files_by_name m.entries ≡ with_failure (files_by_name m.entries) name
  unchanged-with_failure name m none =
      sym (ap (failed_once_more (files_by_name m.entries) name) (get-files_by_name m name ∙ ap (option_map stored) (sym none)))

  -- a failure at a name under which a file is stored raises the file's count
  pub changed-with_failure : (name : List ℕ) (file : StoredFile) (failures : ℕ) (old new : BTreeMap (String A) StoredFile) → Some file ≡ get_by_text old name → failures ≡ risen file.failures → WritesThrough string_cmp (λ key. slice_cmp nat_cmp name (string_bytes key)) old (record { octets = file.octets; failures = failures }) new → files_by_name new.entries ≡ with_failure (files_by_name old.entries) name
  changed-with_failure name file failures old new found more written =
      files_by_name-update name (record { octets = file.octets; failures = failures }) old new (written.3 (subst IsSome found refl))
      ∙ (λ i. with_octets (files_by_name old.entries) name file.octets (more i))
      ∙ sym (ap (failed_once_more (files_by_name old.entries) name) (get-files_by_name old name ∙ ap (option_map stored) (sym found)))
