-- Lists that stand at names, with one item more; tests of names behind references.
use Rattle.std.proofs.Common.{◌≡◌, Bool, true, false, ◌||◌, List, [], ◌∷◌, ◌++◌, map, filter, cond, Option, append-nil, Bor, refl, sym, ap, ◌∙◌}
use Rattle.std.specs.Prelude.{unwrap_or}
use Rattle.std.proofs.lemmas.List.{map-append}
use Rattle.std.proofs.lemmas.List.Elements.{filter-append}
use Rattle.std.specs.HashMap as tables
use Rattle.std.specs.List.{list_any}
use Rattle.std.specs.Map.{lookup}
use Rattle.dns_data.specs.Name.{Labels, name_eq}
use Rattle.dns_data.proofs.Names.{name_eq_decides}
use Rattle.map_run.specs.NameLists.{Lists, listed_at}

-- a map without entries lists nothing
pub none_listed : {A S : Type 0} (lists : tables.HashMap Labels (List A) S) → tables.IsEmpty lists → (name : Labels) → listed_at lists name ≡ []
none_listed {A} {S} lists empty name =
    ap (λ (entries : List (Labels × List A)). unwrap_or (lookup (name_eq name) entries) []) empty

-- what is listed at each name after something was put in for a name, or nothing
pub listed_by : {A S : Type 0} (server name : Labels) (listed : Option (List A)) (old new : tables.HashMap Labels (List A) S)
    → tables.get name_eq new name ≡ cond (name_eq server name) listed (tables.get name_eq old name)
    → listed_at new name ≡ cond (name_eq server name) (unwrap_or listed []) (listed_at old name)
listed_by {A} {S} server name listed old new is =
    ap (λ (found : Option (List A)). unwrap_or found []) is ∙ by (name_eq server name)
  where
    by : (b : Bool) → unwrap_or (cond b listed (tables.get name_eq old name)) [] ≡ cond b (unwrap_or listed []) (listed_at old name)
    by true = refl
    by false = refl

-- what was listed at a name, put in again with one item behind it
pub listed_behind : {A S : Type 0} (server : Labels) (item : A) (old mid new : tables.HashMap Labels (List A) S)
    → ((name : Labels) → name_eq server name ≡ false → listed_at mid name ≡ listed_at old name)
    → ((name : Labels) → listed_at new name ≡ cond (name_eq server name) (listed_at old server ++ item ∷ []) (listed_at mid name))
    → (name : Labels) → listed_at new name ≡ listed_at old name ++ cond (name_eq server name) (item ∷ []) []
listed_behind {A} {S} server item old mid new others is name = is name ∙ by (name_eq server name) refl where
  by : (b : Bool) → name_eq server name ≡ b
      → cond (name_eq server name) (listed_at old server ++ item ∷ []) (listed_at mid name) ≡ listed_at old name ++ cond (name_eq server name) (item ∷ []) []
  by true e =
      ap (λ (b : Bool). cond b (listed_at old server ++ item ∷ []) (listed_at mid name)) e
      ∙ ap (λ (n : Labels). listed_at old n ++ item ∷ []) ((name_eq_decides server name).0 e)
      ∙ sym (ap (λ (b : Bool). listed_at old name ++ cond b (item ∷ []) []) e)
  by false e =
      ap (λ (b : Bool). cond b (listed_at old server ++ item ∷ []) (listed_at mid name)) e
      ∙ others name e
      ∙ sym (append-nil (listed_at old name))
      ∙ sym (ap (λ (b : Bool). listed_at old name ++ cond b (item ∷ []) []) e)

-- an item that was put behind a list that was another one
pub pushed_behind : {A : Type 0} (item : A) (listed was new : List A) → new ≡ listed ++ item ∷ [] → listed ≡ was → new ≡ was ++ item ∷ []
pushed_behind {A} item listed was new is same = is ∙ ap (λ (all : List A). all ++ item ∷ []) same

-- what is borrowed of a list of at most one item
pub borrowed_one : {A : Type 0} (b : Bool) (item : Bor A) → map (λ (one : Bor A). one.now) (cond b (item ∷ []) []) ≡ cond b (item.now ∷ []) []
borrowed_one {A} true item = refl
borrowed_one {A} false item = refl

module _ {A S : Type 0} (stands : Labels → A → Bool) (items : List A) (old : tables.HashMap Labels (List (Bor A)) S) (lists : Lists stands items old) (item : Bor A) where
  -- the items are listed with one more, which is listed at each name at which it stands
  pub lists_more : (new : tables.HashMap Labels (List (Bor A)) S)
      → ((name : Labels) → listed_at new name ≡ listed_at old name ++ cond (stands name item.now) (item ∷ []) [])
      → Lists stands (items ++ item.now ∷ []) new
  lists_more new is name =
      ap (map (λ (one : Bor A). one.now)) (is name)
      ∙ map-append (λ (one : Bor A). one.now) (listed_at old name) (cond (stands name item.now) (item ∷ []) [])
      ∙ (λ i. lists name i ++ borrowed_one (stands name item.now) item i)
      ∙ sym (filter-append (stands name) items (item.now ∷ []))

  -- the items are listed with one more that stands nowhere
  pub lists_same : ((name : Labels) → stands name item.now ≡ false) → Lists stands (items ++ item.now ∷ []) old
  lists_same nowhere name =
      lists name
      ∙ sym (append-nil (filter (stands name) items))
      ∙ sym (ap (λ (b : Bool). filter (stands name) items ++ cond b (item.now ∷ []) []) (nowhere name))
      ∙ sym (filter-append (stands name) items (item.now ∷ []))

-- a test passes for a name behind a reference exactly if it does for one of the names
pub any_behind : (test : Labels → Bool) (names : List (Bor Labels)) → list_any (λ name. test name.now) names ≡ list_any test (map (λ name. name.now) names)
any_behind test [] = refl
any_behind test (name ∷ names) = ap (λ (b : Bool). test name.now || b) (any_behind test names)
