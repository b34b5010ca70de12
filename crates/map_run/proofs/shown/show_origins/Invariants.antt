use Rattle.std.proofs.Common.{◌≡◌, ℕ, List, take}
use Rattle.std.specs.List.{list_any}
use Rattle.dns_data.specs.Name.{Labels, name_eq}
use Rattle.config_load.specs.declared.loaded.RowFiles.{RowFiles}
use Rattle.site_checks.specs.declared.views.View.{View}
use Rattle.map_run.specs.ShownOrigins.{HasSeenOrigins, is_shown}
use Rattle.map_run.proofs.shown.show_origins.Given as goal

-- the check was shown the origins of the rows so far, which are kept, and its step is as it was
abbrev pub invariant-loop-row : goal.invariant-loop-row
invariant-loop-row g l = record {
  step : (words : List (List ℕ)) (view : View) → g.S.SiteCheck.step l.check words view ≡ g.S.SiteCheck.step l.fn.check words view;
  shown : (origin : Labels) → is_shown l.shown origin ≡ list_any (λ (row : RowFiles). name_eq origin row.origin) (take l.row-index l.rows);
  seen : HasSeenOrigins (g.S.SiteCheck.step l.fn.check) l.graphs (take l.row-index l.rows) (g.S.SiteCheck.held l.fn.check) (g.S.SiteCheck.held l.check);
}
