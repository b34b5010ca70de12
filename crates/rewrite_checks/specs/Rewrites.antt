-- The kinds of faults that rewrites and answers show, and what is known of the graph in which they are looked for.
use Rattle.std.specs.Prelude.{◌≡◌, ◌↔◌, Bool, true, false}
use Rattle.dns_data.specs.Name.{Labels}
use Rattle.graph_form.specs.Graph.{PlainGraph}
use Rattle.graph_form.specs.GraphOf.{IsExactIn, IsGraphOf}
use Rattle.net_model.specs.Class.{IsClassOf, IsRepresentative}
use Rattle.net_model.specs.Reading.{ground_of}
use Rattle.net_model.specs.Step.{Setting}
use Rattle.net_model.specs.declared.class.Class.{Class}
use Rattle.net_model.specs.declared.fault.Fault.{Fault}
use Rattle.net_model.specs.declared.fault.Fault.TheVariants.{Limit, Blackhole, Answers, Overlong}

-- a rewrite limit, a blackhole, differing answers or an overlong rewrite
abbrev pub is_of_rewrites : Fault → Bool
is_of_rewrites (Limit place) = true
is_of_rewrites (Blackhole place) = true
is_of_rewrites (Answers class rtype) = true
is_of_rewrites (Overlong place) = true
is_of_rewrites fault = false

-- the fault of an end is shown by the query: an overlong rewrite if it represents its class
abbrev pub is_shown : Bool → Fault → Bool
is_shown represents (Limit place) = true
is_shown represents (Blackhole place) = true
is_shown represents (Overlong place) = represents
is_shown represents fault = false

-- the graph is that of the query, which is of this class, and maybe its representative
pub record IsGraphFor (setting : Setting) (query : Labels) (class : Class) (represents : Bool) (graph : PlainGraph) : Type 0 where
  pub is_graph : IsGraphOf setting query graph
  pub exact : IsExactIn setting query graph
  pub of_class : IsClassOf (ground_of setting.config) query class
  pub represents_it : (represents ≡ true) ↔ IsRepresentative (ground_of setting.config) class query
