-- A name with an open tail stands for the other names with unnamed tails.
use Rattle.std.proofs.Common.{◌≡◌, ℕ, ◌≤◌, List, [], ◌∷◌, ◌++◌, Option, Some, None, refl, sym, ap, subst}
use Rattle.dns_data.specs.Name.{Labels, wire_octets}
use Rattle.name_rules.specs.SymName.{tail_labels, whole}
use Rattle.name_rules.specs.declared.sym_name.SymName.{SymName}
use Rattle.net_model.specs.Reading.{IsNamed, ground_of}
use Rattle.net_model.specs.Tails.{AreTails, IsUnnamedTail}
use Rattle.net_model.specs.Tree.{IsReached, HasMoreThan}
use Rattle.net_model.specs.declared.config.Config.{Config}
use Rattle.walk_laws.proofs.WalksAlike.QueryWalks.{walks_as, reaches_more}
use Rattle.interp_graph.specs.Asked.{IsOpenName, AskedWith, IsAsked, StandsForOthers, ReachesMost}

-- the two tails
both_tails : (config : Config) (name : SymName) (label : List ℕ) → whole name ≡ name.known ++ label ∷ [] → IsOpenName config (whole name)
    → (own : Labels) → IsUnnamedTail config name.known own → wire_octets (whole name) ≤ wire_octets (name.known ++ own)
    → AreTails config name.known own (label ∷ [])
both_tails config name label is asked own of_own longer =
    record {
      of_own = of_own;
      of_other = record {
        first = label;
        rest = [];
        is = refl;
        unnamed = subst (λ (n : Labels). IsNamed (ground_of config) n → ⊥) is asked.unnamed;
      };
      no_longer = subst (λ (n : Labels). wire_octets n ≤ wire_octets (name.known ++ own)) is longer;
    }

-- the tail of a name that may be asked stands for the other unnamed tails with which the name isn't shorter
pub stands_for : (config : Config) (name : SymName) → IsAsked config name → StandsForOthers config name name.tail
stands_for config name asked = by name.tail refl asked where
  by : (tail : Option (List ℕ)) → name.tail ≡ tail → AskedWith config name tail → StandsForOthers config name tail
  by None is with_tail = tt
  by (Some label) is with_tail = λ setting own rtype same of_own longer.
      let tails = both_tails config name label (ap (λ t. name.known ++ tail_labels t) is) with_tail own of_own longer in
      walks_as setting name.known own (label ∷ [])
      (subst (λ (c : Config). AreTails c name.known own (label ∷ [])) (sym same) tails) rtype

-- a name with an open tail reaches no fewer pairs than it does with another unnamed tail that isn't shorter
pub reaches_most : (config : Config) (rewrites : ℕ) (name : SymName) (most : ℕ) → IsAsked config name → ReachesMost config rewrites name most name.tail
reaches_most config rewrites name most asked = by name.tail refl asked where
  by : (tail : Option (List ℕ)) → name.tail ≡ tail → AskedWith config name tail → ReachesMost config rewrites name most tail
  by None is with_tail = tt
  by (Some label) is with_tail = λ own of_own longer more.
      let whole_is = ap (λ t. name.known ++ tail_labels t) is in
      let tails = both_tails config name label whole_is with_tail own of_own longer in
      subst (λ (n : Labels). HasMoreThan (IsReached config rewrites n) most) (sym whole_is)
      (reaches_more config rewrites name.known own (label ∷ []) tails most more)
