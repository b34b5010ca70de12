-- Queries that were counted, with the types that are listed for them.
use Rattle.std.proofs.Common.{◌≡◌, Bool, true, false, cond, List, ◌∷◌, [], ◌++◌, Contains, Option, Some, is_eq, sym, ap, ◌∙◌, subst, inl, inr}
use Rattle.std.specs.BTreeMap as map
use Rattle.std.specs.Map.{lookup}
use Rattle.std.specs.Cmp.Lexicographic.{lists_ties, texts_ties}
use Rattle.std.proofs.lemmas.List.Elements.{Contains-append_cases}
use Rattle.dns_data.specs.Label.{label_cmp}
use Rattle.dns_data.specs.Name.{Labels, name_cmp, name_eq}
use Rattle.dns_data.specs.declared.rr_type.RrType.{RrType}
use Rattle.dns_data.proofs.Membership.{first_or_later, none_in_nil}
use Rattle.dns_data.proofs.Names.{name_eq_decides}
use Rattle.net_model.specs.Step.{Setting}
use Rattle.plain_resolver.specs.Passed.{HasMoreWalks, most_walks_followed}
use Rattle.report_check.specs.Counted.{AreFew}

-- the queries and their types
abbrev Counted : Type 0
Counted = map.BTreeMap Labels (List RrType)

module _ (setting : Setting) where
  -- the query has no more walks of the type than are followed
  abbrev IsFew : Labels → RrType → Type 0
  IsFew query rtype = HasMoreWalks setting query rtype most_walks_followed → ⊥

  -- a map that is unchanged
  pub counted_same : (old new : Counted) → AreFew setting old → map.IsUnchanged old new → AreFew setting new
  counted_same old new few same query types rtype is has =
      few query types rtype (ap (λ (entries : List (Labels × List RrType)). lookup (λ (key : Labels). is_eq (name_cmp query key)) entries) (sym same) ∙ is) has

  -- a map in which other types, or none, are listed for a query
  pub counted_more : (old new : Counted) (key : Labels) (listed : Option (List RrType)) → AreFew setting old → map.Updates name_cmp old new key listed
      → ((types : List RrType) (rtype : RrType) → listed ≡ Some types → Contains types rtype → IsFew key rtype) → AreFew setting new
  counted_more old new key listed few updates here query types rtype found has =
      by (is_eq (name_cmp key query)) (lists_ties label_cmp texts_ties key query) (sym (updates.0 query) ∙ found)
    where
      by : (b : Bool) → name_eq key query ≡ b → cond b listed (map.get name_cmp old query) ≡ Some types → IsFew query rtype
      by true e same = subst (λ (name : Labels). IsFew name rtype) ((name_eq_decides key query).0 e) (here types rtype same has)
      by false e same = few query types rtype same has

  -- one type behind others
  pub with_last : (query : Labels) (types : List RrType) (last : RrType) → ((rtype : RrType) → Contains types rtype → IsFew query rtype) → IsFew query last
      → (rtype : RrType) → Contains (types ++ last ∷ []) rtype → IsFew query rtype
  with_last query types last each one rtype has =
      elim (Contains-append_cases types (last ∷ []) rtype has) [
        | inl before ↦ each rtype before
        | inr here ↦ elim (first_or_later last [] rtype here) [
          | inl same ↦ subst (IsFew query) same one
          | inr none ↦ absurd (none_in_nil rtype none)
        ]
      ]
