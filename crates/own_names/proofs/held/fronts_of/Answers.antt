use Rattle.std.proofs.Common.{◌≡◌, ◌∙◌, List, [], ◌∷◌, ◌++◌, sym, ap, subst}
use Rattle.dns_data.specs.Name.{Labels}
use Rattle.label_graph.specs.LiveSet.{HavePrefixes}
use Rattle.label_graph.specs.Targets.{IsPrefixFrom}
use Rattle.label_graph.proofs.Passing.{more_iff, whole_iff}
use Rattle.base_names.proofs.JoinedBase.{root_alone}
use Rattle.own_names.proofs.HeldSets.{root_only, fronts_held}
use Rattle.own_names.proofs.held.fronts_of.Goals as goal

pub loop-name-init : goal.loop-name-init
loop-name-init c =
    let first : c.push.new.self.items ≡ [] ∷ [] =
    c.in_ok-push.ensures.items ∙ ap (λ (l : List Labels). l ++ c.root.result ∷ []) c.new-fronts.ensures.items ∙ ap (λ (n : Labels). n ∷ []) c.root.ensures in
    record {
      prefixes = subst HavePrefixes (sym first) root_alone;
      names = λ name. root_only c.push.new.self.items c.args.names.now name first;
    }

pub loop-name-preserved : goal.loop-name-preserved
loop-name-preserved c =
    record {
      prefixes = c.in_ok-put_new_fronts.ensures.prefixes;
      names = λ name. more_iff (λ (one : Labels). IsPrefixFrom 0 one name) c.args.names.now c.loop-name.name-index c.name-item.result
          c.loop-name-test.true c.name-item.is _ _ _ (c.loop-name.invariant.names name) (c.in_ok-put_new_fronts.ensures.fronts name);
    }

pub returns : goal.returns
returns c name =
    fronts_held c.args.names.now name _
    (whole_iff (λ (one : Labels). IsPrefixFrom 0 one name) c.args.names.now c.loop-name.name-index c.loop-name-test.false
    _ _ (c.loop-name.invariant.names name))
