-- What is asked, and in which setting. The contracts of inner calls alone cite it.
use Rattle.std.specs.Prelude.{List, [], ◌∷◌, Option, Some, None}
use Rattle.dns_data.specs.Name.{Labels}
use Rattle.dns_data.specs.declared.rr_type.RrType.{RrType}
use Rattle.net_model.specs.declared.walk.State.{State}
use Rattle.net_model.specs.Step.{Setting, start}
use Rattle.plain_resolver.specs.FromServer.{asked_at}

-- the setting in which walks are read, the name and type of the query, and the server that is asked, or none where the top
-- servers are
pub record Asked : Type 0 where
  pub setting : Setting
  pub query : Labels
  pub rtype : RrType
  pub server : Option Labels

-- the states in which walks begin: at the server that is asked, or at each top server
abbrev pub begins : Setting → Labels → Option Labels → List State
begins setting query None = start setting.config query
begins setting query (Some server) = asked_at setting server query ∷ []
