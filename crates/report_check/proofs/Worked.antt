-- Values that were worked out by hand: what a report states, which queries entries name, and an entry that is right.
use Rattle.std.proofs.Common.{◌≡◌, refl, ap, ℕ, Option, option_and_then, List, [], ◌∷◌, codes, Some, None, true, false, arith}
use Rattle.serde_json.specs.Data.{null}
use Rattle.serde_json.proofs.OnLiterals.{serde_json_on_literals}
use Rattle.dns_data.specs.Name.{Labels, IsName}
use Rattle.dns_data.specs.declared.rdata.Rdata.TheVariants.{Cname}
use Rattle.dns_data.specs.declared.rr_type.RrType.TheVariants as types
use Rattle.graph_form.specs.Report.{repeats}
use Rattle.graph_form.specs.declared.report.ReportEntry.{ReportEntry}
use Rattle.net_model.specs.Learnt.{IsInForce}
use Rattle.net_model.specs.declared.config.Config.{Config}
use Rattle.net_model.specs.declared.fault.Fault.TheVariants.{Blackhole}
use Rattle.net_model.specs.declared.place.Place.{Place}
use Rattle.net_model.specs.declared.walk.Hop.TheVariants.{Rewrite}
use Rattle.net_model.specs.declared.walk.Leaf.TheVariants.{NxDomain}
use Rattle.net_model.specs.declared.walk.Walk.{Walk}
use Rattle.net_model.proofs.LearntSets.{ByNone, after_same_rounds, is_round}
use Rattle.report_json.specs.Report.{entry_value}
use Rattle.serde_json.specs.Read.{read}
use Rattle.report_check.specs.ReportIn.{StatedReport, report_of}
use Rattle.report_check.specs.RightEntries.{IsRight, NamesQuery}

-- ---- what a report states

-- what the value states that serde_json reads
abbrev stated : List ℕ → Option StatedReport
stated text = option_and_then report_of (read text)

no_entry : stated (codes "{\"faults\":[],\"rewrites\":12}") ≡ Some (record { rewrites = 12; entries = [] })
unfolding serde_json_on_literals
no_entry = refl

-- members in any order, white space and others beside
in_any_order : stated (codes " { \"rewrites\" : 1 , \"x\" : 0 , \"faults\" : [ null ] }\n") ≡ Some (record { rewrites = 1; entries = null ∷ [] })
unfolding serde_json_on_literals
in_any_order = refl

-- of two members with one name the last counts
the_last_counts : stated (codes "{\"rewrites\":65,\"faults\":[],\"rewrites\":64}") ≡ Some (record { rewrites = 64; entries = [] })
unfolding serde_json_on_literals
the_last_counts = refl

-- a number that is too small or too large, a text
none_allowed : stated (codes "{\"faults\":[],\"rewrites\":0}") ≡ None
unfolding serde_json_on_literals
none_allowed = refl

too_many : stated (codes "{\"faults\":[],\"rewrites\":65}") ≡ None
unfolding serde_json_on_literals
too_many = refl

a_text : stated (codes "{\"faults\":[],\"rewrites\":\"12\"}") ≡ None
unfolding serde_json_on_literals
a_text = refl

-- no number, no list, an object in its place, no object, no value
without_a_number : stated (codes "{\"faults\":[]}") ≡ None
unfolding serde_json_on_literals
without_a_number = refl

without_a_list : stated (codes "{\"rewrites\":12}") ≡ None
unfolding serde_json_on_literals
without_a_list = refl

an_object_for_the_list : stated (codes "{\"faults\":{},\"rewrites\":12}") ≡ None
unfolding serde_json_on_literals
an_object_for_the_list = refl

a_list : stated (codes "[]") ≡ None
unfolding serde_json_on_literals
a_list = refl

no_value : stated (codes "{\"faults\":[],\"rewrites\":12") ≡ None
unfolding serde_json_on_literals
no_value = refl

-- ---- an entry that is right: an alias whose target doesn't exist

abbrev t : Labels
t = codes "t" ∷ []

abbrev a : Labels
a = codes "t" ∷ codes "a" ∷ []

abbrev b : Labels
b = codes "t" ∷ codes "b" ∷ []

abbrev ns : Labels
ns = codes "t" ∷ codes "ns" ∷ []

abbrev at_a : Place
at_a = record { server = ns; zone = t; owner = a }

abbrev config : Config
config =
    record {
      tops = ns ∷ [];
      servers =
          record { name = ns; zones = record { origin = t; rrs = record { owner = a; ttl = 60; rdata = Cname b; file = 0; line = 0 } ∷ [] } ∷ [] } ∷ [];
    }

-- no address is learnt, since the server's name doesn't exist
none_in_force : IsInForce config 12 []
none_in_force = after_same_rounds config 12 1 [] (is_round config 12 [] [] (ByNone 3 ∷ []) refl refl)

abbrev walk : Walk
walk =
    record {
      states =
          record { server = ns; name = a; carried = true; cut = 0; used = 0; last = None; zone = Some t }
          ∷ record { server = ns; name = b; carried = false; cut = 0; used = 1; last = Some at_a; zone = Some t } ∷ [];
      hops = Rewrite at_a false b ∷ [];
      leaf = NxDomain;
    }

abbrev entry : ReportEntry
entry = record { seen = record { fault = Blackhole at_a; rtype = types.A }; query = a; repeats = false; walks = walk ∷ [] }

a_is_name : IsName a
a_is_name = record { labels = (record { not_empty = omega arith; short = omega arith; octets = refl }, (record { not_empty = omega arith; short = omega arith; octets = refl }, tt)); short = omega arith }

the_entry_is_right : IsRight config 12 (entry_value entry)
the_entry_is_right =
    record {
      entry = entry;
      is = refl;
      is_name = a_is_name;
      followed = [];
      in_force = none_in_force;
      shows = record {
        may = tt;
        are_walks = ((0 ∷ 0 ∷ 0 ∷ [], refl), tt);
        show = record { rewritten = record { before = _ ∷ []; last = _; states = refl; at_place = refl }; ends = refl };
      };
      repeated = λ first e. let same : walk ≡ first = cc in ap (λ (w : Walk). repeats w.states) same;
    }

-- what it names
it_names_a : NamesQuery (entry_value entry) a types.A
it_names_a = record { is_name = a_is_name; query_is = refl; type_is = refl }
