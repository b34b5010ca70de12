-- The longest prefix of a name that is a base name of the whole; where it is held, the name is local.
use Rattle.std.proofs.Common.{◌≡◌, Bool, true, false, List, [], ◌∷◌, ◌++◌, Contains, sym, refl, ap, subst, ◌∙◌, true≢false, ℕ, flat_map}
use Rattle.dns_data.specs.Name.{Labels, is_among}
use Rattle.dns_data.proofs.Membership.{has_first}
use Rattle.dns_data.proofs.NameFronts.{Begins}
use Rattle.net_model.specs.declared.config.Config.{Config}
use Rattle.net_model.specs.Reading.{ground_of, origins_and_owners}
use Rattle.net_model.specs.Prefix.{prefixes}
use Rattle.net_model.proofs.Naming.{is_listed, from_listed}
use Rattle.part_laws.specs.Part.{IsLocal}
use Rattle.part_laws.proofs.LocalNames.{above_based}

-- the name's longest prefix that passes the test: each other one that passes begins it
pub record LongestFront (test : Labels → Bool) (name : Labels) : Type 0 where
  pub above : Labels
  pub begins : Begins above name
  pub passes : test above ≡ true
  pub all : (top rest : Labels) → top ++ rest ≡ name → test top ≡ true → Begins top above

-- if a test passes on the root, and on the prefixes of each name on which it passes, a name has a longest such prefix
pub longest_front : (name : Labels) (test : Labels → Bool) → ((above below : Labels) → test (above ++ below) ≡ true → test above ≡ true)
    → test [] ≡ true → LongestFront test name
longest_front [] test closed root =
    record { above = []; begins = ([], refl); passes = root; all = λ top rest e passes. (rest, e) }
longest_front (label ∷ name) test closed root =
    by (test (label ∷ [])) refl (λ passes. longest_front name (λ x. test (label ∷ x)) (λ above below p. closed (label ∷ above) below p) passes)
  where
    by : (b : Bool) → test (label ∷ []) ≡ b → (test (label ∷ []) ≡ true → LongestFront (λ x. test (label ∷ x)) name) → LongestFront test (label ∷ name)
    by true is rest =
        let front = rest is in
        record {
          above = label ∷ front.above;
          begins = (front.begins.0, ap (λ (x : Labels). label ∷ x) front.begins.1);
          passes = front.passes;
          all = within front;
        }
      where
        within : (front : LongestFront (λ x. test (label ∷ x)) name) (top rest : Labels) → top ++ rest ≡ label ∷ name → test top ≡ true → Begins top (label ∷ front.above)
        within front [] rest e passes = (label ∷ front.above, refl)
        within front (first ∷ top) rest e passes =
            let same : first ≡ label = cc in
            let behind : top ++ rest ≡ name = cc in
            let below = front.all top rest behind (subst (λ (l : List ℕ). test (l ∷ top) ≡ true) same passes) in
            (below.0, ap (λ (l : List ℕ). l ∷ (top ++ below.0)) same ∙ ap (λ (x : Labels). label ∷ x) below.1)
    by false is rest =
        record { above = []; begins = (label ∷ name, refl); passes = root; all = within }
      where
        within : (top rest : Labels) → top ++ rest ≡ label ∷ name → test top ≡ true → Begins top []
        within [] rest e passes = ([], refl)
        within (first ∷ top) rest e passes =
            let same : first ≡ label = cc in
            absurd (true≢false (sym (closed (label ∷ []) top (subst (λ (l : List ℕ). test (l ∷ top) ≡ true) same passes)) ∙ is))

module _ (config : Config) where
  -- a name has a longest prefix that is a base name
  pub based_front : (name : Labels) → LongestFront (is_among (ground_of config).names) name
  based_front name =
      longest_front name (is_among (ground_of config).names)
      (λ above below e. is_listed (ground_of config).names above (above_based config above below (from_listed (ground_of config).names (above ++ below) e)))
      (is_listed (ground_of config).names [] (root_based config))
    where
      root_based : (c : Config) → Contains (ground_of c).names []
      root_based c = has_first [] (flat_map prefixes (origins_and_owners c))

  -- a name is local where its longest prefix that is a base name is held with its own prefixes
  pub front_local : (names : List Labels) → ((above below : Labels) → Contains names (above ++ below) → Contains names above) → (name : Labels)
      → (front : LongestFront (is_among (ground_of config).names) name) → Contains names front.above → IsLocal config names name
  front_local names closed name front held =
      record {
        held = λ above below e based.
            let begins = front.all above below e (is_listed (ground_of config).names above based) in
            closed above begins.0 (subst (Contains names) (sym begins.1) held);
      }
