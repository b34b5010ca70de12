-- What follows for the list of faults: an overlong rewrite that is told is met by each member of the class, and a walk that
-- comes back to a server and a name is told as a rewrite limit.
use Rattle.std.proofs.Common.{◌≡◌, Bool, true, List, [], ◌∷◌, ◌++◌, map, refl, sym, ap, ◌∙◌, subst}
use Rattle.std.specs.Prelude.{Contains}
use Rattle.std.specs.List.{AllByRecursion}
use Rattle.dns_data.specs.Name.{Labels, IsName}
use Rattle.dns_data.specs.declared.rr_type.RrType.{RrType}
use Rattle.dns_data.proofs.Membership.{each_along}
use Rattle.graph_form.specs.Graph.{PlainGraph}
use Rattle.graph_form.specs.Verdict.{AreShownOf}
use Rattle.graph_form.specs.declared.report.Seen.{Seen}
use Rattle.net_model.specs.Class.{IsClassOf, IsRepresentative}
use Rattle.net_model.specs.Reading.{ground_of}
use Rattle.net_model.specs.Returns.{ComesBack, RewritesAt, hops_round}
use Rattle.net_model.specs.Shown.{Shows, WalksShow, with_sets}
use Rattle.net_model.specs.Step.{Setting}
use Rattle.net_model.specs.Tails.{is_overlong}
use Rattle.net_model.specs.Walk.{IsWalk}
use Rattle.net_model.specs.declared.class.Class.{Class}
use Rattle.net_model.specs.declared.class.Class.TheVariants.{Exact, Below}
use Rattle.net_model.specs.declared.fault.Fault.TheVariants as faults
use Rattle.net_model.specs.declared.place.Place.{Place}
use Rattle.net_model.specs.declared.walk.Walk.{Walk}
use Rattle.net_model.proofs.OneClass.{one_class}
use Rattle.walk_laws.proofs.WalksAlike.ClassTails.{tails_in_class}
use Rattle.walk_laws.proofs.Returns.{limit_between}
use Rattle.walk_laws.proofs.WalksAlike.QueryWalks.{overlong_too}
use Rattle.rewrite_checks.specs.Rewrites.{IsGraphFor, is_of_rewrites}

module _ (setting : Setting) (query : Labels) (class : Class) (represents : Bool) (graph : PlainGraph) (for : IsGraphFor setting query class represents graph)
    (shown : List Seen) (are : AreShownOf (with_sets setting) query is_of_rewrites shown) where
  -- ---- a walk that comes back

  -- where a walk comes back to a server and a name, the rewrite limit is told at a rewrite that it makes in between
  pub told_back : (rtype : RrType) (walk : Walk) → IsWalk setting query rtype walk → (back : ComesBack walk)
      → (place : Place) × RewritesAt (hops_round walk back) place × Contains (map (λ seen. seen.fault) shown) (faults.Limit place)
  told_back rtype walk is back =
      let found = limit_between setting query rtype walk is back in
      let shows : Shows (with_sets setting) query rtype (faults.Limit found.0) =
      record { walks = found.2 ∷ []; by = record { may = tt; are_walks = (found.3, tt); show = found.4 } } in
      (found.0, found.1, are.all_shown (faults.Limit found.0) rtype refl shows)

  -- ---- an overlong rewrite

  record LongWalk (name : Labels) (rtype : RrType) : Type 0 where
    pub walk : Walk
    pub is_walk : IsWalk setting name rtype walk
    pub is_long : is_overlong walk.leaf ≡ true

  of_query : (rtype : RrType) (place : Place) (walks : List Walk) → AllByRecursion (IsWalk setting query rtype) walks
      → WalksShow (with_sets setting) walks (faults.Overlong place) → LongWalk query rtype
  of_query rtype place [] are_walks show = absurd show
  of_query rtype place (walk ∷ []) are_walks show = record { walk = walk; is_walk = are_walks.0; is_long = ap is_overlong show }
  of_query rtype place (one ∷ other ∷ []) are_walks show = absurd show
  of_query rtype place (one ∷ other ∷ third ∷ walks) are_walks show = absurd show

  of_member : (rtype : RrType) (member : Labels) (class : Class) → IsName member → IsClassOf (ground_of setting.config) member class
      → IsClassOf (ground_of setting.config) query class → IsRepresentative (ground_of setting.config) class query → LongWalk query rtype → LongWalk member rtype
  of_member rtype member (Exact name) is_name of_class also stands long = subst (λ n. LongWalk n rtype) (sym also.0 ∙ of_class.0) long
  of_member rtype member (Below above) is_name of_class also stands long =
      let tails = tails_in_class setting.config (ground_of setting.config) (λ name named. named) above member query is_name of_class stands in
      let is : IsWalk setting (above ++ tails.1) rtype long.walk = subst (λ n. IsWalk setting n rtype long.walk) tails.3 long.is_walk in
      let found = overlong_too setting above tails.0 tails.1 tails.4 rtype long.walk is long.is_long in
      record { walk = found.0; is_walk = subst (λ n. IsWalk setting n rtype found.0) (sym tails.2) found.1; is_long = found.2 }

  -- where an overlong rewrite is told with a type, each member of the class has a walk of this type that ends overlong
  pub members_meet : (seen : Seen) → Contains shown seen → (place : Place) → seen.fault ≡ faults.Overlong place
      → (member : Labels) → IsName member → IsClassOf (ground_of setting.config) member class
      → (walk : Walk) × IsWalk setting member seen.rtype walk × (is_overlong walk.leaf ≡ true)
  members_meet seen has place is member is_name of_class =
      let shows : Shows (with_sets setting) query seen.rtype (faults.Overlong place) =
      subst (Shows (with_sets setting) query seen.rtype) is (each_along (λ (s : Seen). Shows (with_sets setting) query s.rtype s.fault) shown are.each_shown seen has) in
      let stands : IsRepresentative (ground_of setting.config) class query =
      subst (λ c. IsRepresentative (ground_of setting.config) c query) (one_class (ground_of setting.config) query class shows.may.0 for.of_class shows.may.1) shows.may.2 in
      let long = of_member seen.rtype member class is_name of_class for.of_class stands (of_query seen.rtype place shows.walks shows.are_walks shows.show) in
      (long.walk, long.is_walk, long.is_long)
