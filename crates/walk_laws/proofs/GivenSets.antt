-- Two lists with the names of the least and the greatest set can stand in the sets' place.
use Rattle.std.proofs.Common.{ℕ, List, [], ◌∷◌, Contains}
use Rattle.std.specs.Prelude.{◌↔◌}
use Rattle.dns_data.specs.Name.{Labels}
use Rattle.dns_data.specs.declared.rr_type.RrType.{RrType}
use Rattle.net_model.specs.declared.config.Config.{Config}
use Rattle.net_model.specs.declared.fault.Fault.{Fault}
use Rattle.net_model.specs.declared.fault.Fault.TheVariants as faults
use Rattle.net_model.specs.declared.walk.Walk.{Walk}
use Rattle.net_model.specs.Learnt.{IsLeast, IsGreatest, InLeast, InGreatest}
use Rattle.net_model.specs.Shown.{FaultSetting, with_lists, with_sets, WalksShow, Shows}
use Rattle.net_model.specs.Step.{Setting, following}
use Rattle.net_model.proofs.LearntSets.{in_least, in_greatest}

module _ (setting : Setting) (least least' greatest greatest' : Labels → Type 0)
    (same_least : (name : Labels) → least name ↔ least' name) (same_greatest : (name : Labels) → greatest name ↔ greatest' name) where
  abbrev one : FaultSetting
  one = record { walks = setting; in_least = least; in_greatest = greatest }

  abbrev other : FaultSetting
  other = record { walks = setting; in_least = least'; in_greatest = greatest' }

  -- one walk shows by the one sets what it shows by others with the same names
  one_shows : (walk : Walk) (fault : Fault) → WalksShow one (walk ∷ []) fault → WalksShow other (walk ∷ []) fault
  one_shows walk (faults.Lame cut) show = show
  one_shows walk (faults.Differs cut) show = show
  one_shows walk (faults.NoGlue cut) show = show
  one_shows walk (faults.GlueDiffers cut) show = show
  one_shows walk (faults.Cyclic cut) show =
      record {
        refers = show.refers;
        depends = record {
          configured = show.depends.configured;
          no_top = show.depends.no_top;
          no_glue = show.depends.no_glue;
          learnt_at_most = (same_greatest cut.ns).0 show.depends.learnt_at_most;
          not_at_least = λ is. show.depends.not_at_least ((same_least cut.ns).1 is);
        };
      }
  one_shows walk (faults.Limit place) show = show
  one_shows walk (faults.Blackhole place) show = show
  one_shows walk (faults.Answers class rtype) show = show
  one_shows walk (faults.Overlong place) show = show
  one_shows walk (faults.NoAddress cut) show =
      record { behind = show.behind; ends = show.ends; not_at_most = λ is. show.not_at_most ((same_greatest cut.ns).1 is) }

  -- and so do two
  two_show : (walk beside : Walk) (fault : Fault) → WalksShow one (walk ∷ beside ∷ []) fault → WalksShow other (walk ∷ beside ∷ []) fault
  two_show walk beside (faults.Lame cut) show = show
  two_show walk beside (faults.Differs cut) show = show
  two_show walk beside (faults.NoGlue cut) show = show
  two_show walk beside (faults.GlueDiffers cut) show = show
  two_show walk beside (faults.Cyclic cut) show = show
  two_show walk beside (faults.Limit place) show = show
  two_show walk beside (faults.Blackhole place) show = show
  two_show walk beside (faults.Answers class rtype) show = show
  two_show walk beside (faults.Overlong place) show = show
  two_show walk beside (faults.NoAddress cut) show = show

  walks_show : (walks : List Walk) (fault : Fault) → WalksShow one walks fault → WalksShow other walks fault
  walks_show [] fault show = show
  walks_show (walk ∷ []) fault show = one_shows walk fault show
  walks_show (walk ∷ beside ∷ []) fault show = two_show walk beside fault show
  walks_show (walk ∷ beside ∷ third ∷ walks) fault show = show

  -- with least and greatest sets of the same names a query shows the same faults
  pub shows_with : (query : Labels) (rtype : RrType) (fault : Fault) → Shows one query rtype fault → Shows other query rtype fault
  shows_with query rtype fault shows =
      record {
        walks = shows.walks;
        by = record { may = shows.may; are_walks = shows.are_walks; show = walks_show shows.walks fault shows.show };
      }

-- lists of the two sets can stand in their place
pub lists_show : (config : Config) (rewrites : ℕ) (followed least greatest : List Labels)
    → IsLeast config rewrites least → IsGreatest config rewrites greatest → (query : Labels) (rtype : RrType) (fault : Fault)
    → Shows (with_lists (following config rewrites followed) least greatest) query rtype fault
    ↔ Shows (with_sets (following config rewrites followed)) query rtype fault
lists_show config rewrites followed least greatest is_least is_greatest query rtype fault =
    let at_least = in_least config rewrites least is_least in
    let at_most = in_greatest config rewrites greatest is_greatest in (
      shows_with (following config rewrites followed) (Contains least) (InLeast config rewrites) (Contains greatest) (InGreatest config rewrites)
          (λ name. ((at_least name).1, (at_least name).0)) (λ name. ((at_most name).1, (at_most name).0)) query rtype fault,
      shows_with (following config rewrites followed) (InLeast config rewrites) (Contains least) (InGreatest config rewrites) (Contains greatest)
          at_least at_most query rtype fault,
    )
