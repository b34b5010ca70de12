-- What decides at a name, or at one with an open tail below it, by the existing name that precedes it.
use Rattle.std.proofs.Common.{◌≡◌, ℕ, ◌<◌, ◌≤◌, Bool, true, false, ◌&&◌, ◌||◌, ◌++◌, length, take, nat_lt, sym, refl, ap, ◌∙◌, subst, arith, length-append}
use Rattle.std.proofs.lemmas.Bool.{and_parts}
use Rattle.dns_data.specs.Name.{Labels, is_prefix}
use Rattle.dns_data.specs.declared.rr_type.RrType.TheVariants as types
use Rattle.net_model.specs.Lookup.{deciding, by_dname, ByCut}
use Rattle.net_model.specs.Zone.{exists_in, owns}
use Rattle.zone_tree.specs.Decider.{IsTailIf}
use Rattle.zone_tree.specs.FirstDecider.{is_cut, first_decider, Undecided}
use Rattle.zone_tree.specs.Preceding.{IsPreceding}
use Rattle.zone_tree.specs.Tree.{ZoneTree, name_of}
use Rattle.zone_tree.specs.declared.preceding.Preceding.{Preceding}
use Rattle.zone_tree.proofs.FrontDeciders.{too_long, cut, redirection, neither}
use Rattle.zone_tree.proofs.NamesBelow.{proper, improper, front_below, inside_below}

module _ (tree : ZoneTree) (name : Labels) (found : Preceding) (inside : is_prefix tree.zone.origin name ≡ true) (precedes : IsPreceding tree name found)
    (first : Labels) (is : first ≡ first_decider tree.zone (name_of tree found.node))
    (open_below : Bool) (below : Labels) (stands : IsTailIf tree.zone name open_below below) where
  abbrev whole : Labels
  whole = name ++ below

  inside_whole : is_prefix tree.zone.origin whole ≡ true
  inside_whole = inside_below tree.zone.origin name below inside

  short : found.shared ≤ length whole
  short = omega (arith, precedes.short, length-append name below)

  front : take found.shared name ≡ take found.shared whole
  front = front_below name below found.shared precedes.short

  exists : exists_in tree.zone (take found.shared whole) ≡ true
  exists = ap (exists_in tree.zone) (sym front) ∙ precedes.exists

  both : take found.shared (name_of tree found.node) ≡ take found.shared whole
  both = precedes.both ∙ front

  -- where the first name that decides at those below the node's has more labels than the name shares with the node's,
  -- nothing decides at the shared front
  pub none_so_far : found.shared < length first → Undecided tree.zone whole (take found.shared name)
  none_so_far longer =
      subst (λ (x : Labels). Undecided tree.zone whole x) (sym front)
      (too_long tree.zone whole inside_whole found.shared precedes.long short exists (name_of tree found.node) both first is longer)

  module _ (few : length first ≤ found.shared) (within : is_prefix tree.zone.origin first ≡ true) where
    -- where the first name that decides, of no more labels than are shared, is a zone cut, this cut decides
    pub cut_decides : is_cut tree.zone first ≡ true → deciding tree.zone whole ≡ ByCut first
    cut_decides cuts =
        cut tree.zone whole inside_whole found.shared precedes.long short exists (name_of tree found.node) both first is few within cuts

    module _ (uncut : is_cut tree.zone first ≡ false) (count labels : ℕ) (many : count ≡ length first) (all : labels ≡ length name) where
      abbrev test : Bool
      test = open_below || nat_lt count labels

      at_most : count ≤ length name
      at_most = omega (arith, many, few, precedes.short)

      -- where the first name that decides is uncut, owns a DNAME record and is above the name, it redirects
      pub redirection_decides : (test && owns tree.zone first types.Dname) ≡ true → deciding tree.zone whole ≡ by_dname tree.zone first
      redirection_decides told =
          let parts = and_parts test (owns tree.zone first types.Dname) told in
          redirection tree.zone whole inside_whole found.shared precedes.long short exists (name_of tree found.node) both first is few within uncut
          (omega (arith, many, proper tree.zone name open_below below stands count labels at_most all test refl parts.0)) parts.1

      -- where the first name that decides is no zone cut and redirects nothing, nothing decides at the shared front
      pub nothing_decides : (test && owns tree.zone first types.Dname) ≡ false → Undecided tree.zone whole (take found.shared name)
      nothing_decides told =
          subst (λ (x : Labels). Undecided tree.zone whole x) (sym front)
          (neither tree.zone whole inside_whole found.shared precedes.long short exists (name_of tree found.node) both first is few within uncut
          (λ less. by test refl less))
        where
          by : (b : Bool) → test ≡ b → length first < length whole → owns tree.zone first types.Dname ≡ false
          by true e less = ap (λ (b : Bool). b && owns tree.zone first types.Dname) (sym e) ∙ told
          by false e less = absurd (omega (arith, many, less, improper tree.zone name open_below below stands count labels at_most all test refl e))
