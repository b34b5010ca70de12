use Rattle.std.proofs.Common.{◌≡◌, ◌∙◌, ◌-◌, ◌++◌, ◌∷◌, [], length, take, ap, append-nil, option_to_list, sym}
use Rattle.report_json.specs.Pieces.{without_comma}
use Rattle.report_json.proofs.Commas.{last_without}
use Rattle.report_json.proofs.pieces.without_comma.Goals.{in-Some+in_ok-push, in_default}
use Rattle.report_json.proofs.pieces.without_comma.Goals as goal

pub returns : goal.returns
returns c =
    let before = c.pop.new.self.items in
    elim c.match-pop.branch [
      | in-Some+in_ok-push w ↦
          let last = w.in-Some.last in
          let pieces : c.args.pieces ≡ before ++ last ∷ [] =
          sym c.into_vec-rest.ensures ∙ c.pop.ensures.items ∙ ap (λ left. before ++ option_to_list left) w.in-Some.is in
          let short : w.truncate.new.self ≡ take (length last - 1) last =
          w.truncate.ensures ∙ ap (λ n. take n last) (w.saturating_sub.ensures ∙ ap (λ n. n - 1) w.len-len.ensures) in
          ap (λ rest. rest.items) w.rest-is ∙ w.in_ok-push.ensures.items ∙ ap (λ piece. before ++ piece ∷ []) short
          ∙ sym (last_without before last) ∙ ap without_comma (sym pieces)
      | in_default w ↦
          let none : before ≡ [] = c.pop.ensures.rest ∙ ap (λ n. take (n - 1) c.into_vec-rest.result.items) w.in_default.ensures.cases.0 in
          ap (λ rest. rest.items) w.rest-is ∙ none
          ∙ ap without_comma (sym (sym c.into_vec-rest.ensures ∙ w.in_default.ensures.items ∙ append-nil before ∙ none))
    ]
