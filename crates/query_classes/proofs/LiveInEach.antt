-- A live set in one graph of a ground is that in each: their names stand at the same places.
use Rattle.std.proofs.Common.{◌≡◌, ℕ, ◌<◌, List, All, Contains, length, subst}
use Rattle.std.specs.Prelude.{◌↔◌}
use Rattle.dns_data.specs.Name.{Labels, name_cmp}
use Rattle.dns_data.proofs.NameOrder.{names_total}
use Rattle.dns_data.proofs.OrderedLists.{same_rising}
use Rattle.label_graph.specs.LiveSet.{IsLiveSet, name_at}
use Rattle.net_model.specs.Reading.{Redirection, Ground, ReadsOnTo}
use Rattle.query_classes.proofs.SameGrounds.{along_same}
use Rattle.query_classes.specs.TreeNames.{AreBaseNamesOf, IsLiveIn}

module _ (ground : Ground) where
  module _ (one other : Ground) (is : AreBaseNamesOf ground one) (also : AreBaseNamesOf ground other) where
    has_redirection : (redirection : Redirection) → Contains one.redirections redirection → Contains other.redirections redirection
    has_redirection redirection has = (also.same.redirections redirection).1 ((is.same.redirections redirection).0 has)

    has_name : (name : Labels) → Contains one.names name → Contains other.names name
    has_name name has = (also.same.names name).1 ((is.same.names name).0 has)

    -- what a name reads on to
    reads_on : (name last : Labels) → ReadsOnTo one.redirections name last → ReadsOnTo other.redirections name last
    reads_on name last (between, reads) = (between, along_same one.redirections other.redirections has_redirection name between last reads)

  module _ (one other : Ground) (is : AreBaseNamesOf ground one) (also : AreBaseNamesOf ground other) where
    same_names : one.names ≡ other.names
    same_names = same_rising name_cmp names_total one.names other.names is.order also.order (has_name one other is also) (has_name other one also is)

    live_carried : (name : Labels) (places : List ℕ) → IsLiveSet one name places → IsLiveSet other name places
    live_carried name places live =
        record {
          within = subst (λ (names : List Labels). All (λ place. place < length names) places) same_names live.within;
          live = λ place within.
              let at : (names : List Labels) → one.names ≡ names → place < length names
              → Contains places place ↔ ReadsOnTo one.redirections name (name_at names place) =
              λ names same. subst (λ (n : List Labels). place < length n → Contains places place ↔ ReadsOnTo one.redirections name (name_at n place)) same (live.live place) in
              let both = at other.names same_names within in (
                (λ has. reads_on one other is also name (name_at other.names place) (both.0 has)),
                (λ reads. both.1 (reads_on other one also is name (name_at other.names place) reads)),
              );
        }

  -- a live set in one graph is one in each
  pub live_in_each : (graph : Ground) → AreBaseNamesOf ground graph → (name : Labels) (places : List ℕ) → IsLiveSet graph name places → IsLiveIn ground name places
  live_in_each graph is name places live other also = live_carried graph other is also name places live
