-- Servers that answer at the origins of zones, as the check keeps them, and the words of rows by them.
use Rattle.std.proofs.Common.{◌≡◌, Bool, true, false, ◌&&◌, ◌||◌, cond, List, [], ◌∷◌, ◌++◌, map, refl, sym, ap, ◌∙◌}
use Rattle.std.proofs.Math.Bool.{and-false, and-true, or-false, or_comm}
use Rattle.std.proofs.lemmas.List.Folds.{list_any-append}
use Rattle.std.specs.Cmp.Lexicographic.{lists_equiv, nat_list_eq_equiv}
use Rattle.std.specs.HashSet as sets
use Rattle.std.specs.List.{flat_map, list_any}
use Rattle.dns_data.specs.Name.{Labels, name_eq}
use Rattle.dns_data.specs.RrType.{type_eq}
use Rattle.dns_data.specs.declared.rr_type.RrType.TheVariants.{Soa}
use Rattle.net_model.specs.declared.class.Class.{Class}
use Rattle.net_model.specs.declared.class.Class.TheVariants.{Exact, Below}
use Rattle.config_load.specs.declared.loaded.RowFiles.{RowFiles}
use Rattle.site_checks.specs.Ends.{is_answer}
use Rattle.site_checks.specs.declared.views.TypedEnd.{TypedEnd}
use Rattle.site_checks.specs.declared.views.View.{View}
use Rattle.map_run.specs.Reached.{after_view, answers_at, is_alone, reached_word, shows_reached}
use Rattle.map_run.specs.ReachedRows.{answering_at, is_answering, is_row_answered, teller_eq, tells}
use Rattle.map_run.specs.declared.answered.Answered.{Answered}
use Rattle.map_run.specs.declared.answered.Teller.{Teller}
use Rattle.map_run.proofs.SeenRows.{one_view}

-- ---- the servers of a view

one_end : (server : Labels) (end : TypedEnd) → list_any (name_eq server) (answering_at end) ≡ answers_at server end
one_end server end = by (type_eq end.rtype Soa) (is_answer end.leaf) where
  by : (soa answer : Bool) → list_any (name_eq server) (cond (soa && answer) (end.server ∷ []) []) ≡ ((soa && name_eq end.server server) && answer)
  by true true = or-false (name_eq server end.server) ∙ (lists_equiv nat_list_eq_equiv).symm server end.server ∙ sym (and-true (name_eq end.server server))
  by true false = sym (and-false (name_eq end.server server))
  by false answer = refl

-- a server is among those of the answers of type SOA exactly where some end is such an answer at it
any_server : (server : Labels) (ends : List TypedEnd) → list_any (name_eq server) (flat_map answering_at ends) ≡ list_any (answers_at server) ends
any_server server [] = refl
any_server server (end ∷ ends) =
    list_any-append (name_eq server) (answering_at end) (flat_map answering_at ends)
    ∙ (λ i. one_end server end i || any_server server ends i)

-- a view of an origin shows that a row is reached exactly where the row's server is one of those that answer there
pub shows_answers : (view : View) (origin : Labels) (one : Answered) (row : RowFiles) → view.class ≡ Exact origin → one.origin ≡ origin → one.servers ≡ flat_map answering_at view.ends
    → shows_reached view row ≡ is_answering row.server row.origin one
shows_answers view origin one row of_class at servers =
    ap (λ (class : Class). is_alone row.origin class && list_any (answers_at row.server) view.ends) of_class
    ∙ (λ i. name_eq (sym at i) row.origin && (sym (any_server row.server view.ends) ∙ ap (list_any (name_eq row.server)) (sym servers)) i)

-- the words of rows, once the view of an origin was shown, are those by the servers that answer there too
pub words_more : (view : View) (rows : List RowFiles) (answered : List Answered) (one : Answered) → ((row : RowFiles) → shows_reached view row ≡ is_answering row.server row.origin one)
    → map (λ row. reached_word (is_row_answered (answered ++ one ∷ []) row)) rows ≡ after_view view rows (map (λ row. reached_word (is_row_answered answered row)) rows)
words_more view rows answered one shows =
    sym (one_view view (is_row_answered answered) rows ∙ (λ i. map (λ row. reached_word (each row i)) rows))
  where
    each : (row : RowFiles) → (shows_reached view row || is_row_answered answered row) ≡ is_row_answered (answered ++ one ∷ []) row
    each row =
        or_comm (shows_reached view row) (is_row_answered answered row)
        ∙ (λ i. is_row_answered answered row || (shows row ∙ sym (or-false (is_answering row.server row.origin one))) i)
        ∙ sym (list_any-append (is_answering row.server row.origin) answered (one ∷ []))

-- the words of rows stay once the view of a class below a name was shown
pub words_stay : (view : View) (above : Labels) (rows : List RowFiles) (told : RowFiles → Bool) → view.class ≡ Below above
    → map (λ row. reached_word (told row)) rows ≡ after_view view rows (map (λ row. reached_word (told row)) rows)
words_stay view above rows told of_class =
    sym (one_view view told rows
    ∙ (λ i. map (λ row. reached_word ((is_alone row.origin (of_class i) && list_any (answers_at row.server) view.ends) || told row)) rows))

-- ---- sets of what tells of servers and origins

-- a set to which a server and an origin were added tells of them, and of what it told of before
pub tells_more : {S : Type 0} (old new : sets.HashSet Teller S) (key : Teller) (item at : Labels) → key ≡ record { server = item; origin = at } → sets.Updates teller_eq old new key true
    → (server origin : Labels) → tells new server origin ≡ (tells old server origin || (name_eq at origin && name_eq server item))
tells_more {S} old new key item at is updates server origin =
    updates.0 (record { server = server; origin = origin })
    ∙ ap (λ (k : Teller). cond (teller_eq k (record { server = server; origin = origin })) true (tells old server origin)) is
    ∙ (λ i. cond ((lists_equiv nat_list_eq_equiv).symm item server i && name_eq at origin) true (tells old server origin))
    ∙ by (name_eq server item) (name_eq at origin) (tells old server origin)
  where
    by : (a b has : Bool) → cond (a && b) true has ≡ (has || (b && a))
    by true true true = refl
    by true true false = refl
    by true false has = sym (or-false has)
    by false true has = sym (or-false has)
    by false false has = sym (or-false has)

-- the servers that answer at an origin with one more are those before and that one
pub servers_more : (before here some one : Bool) → ((before || (here && some)) || (here && one)) ≡ (before || (here && (some || one)))
servers_more true here some one = refl
servers_more false true some one = refl
servers_more false false some one = refl
