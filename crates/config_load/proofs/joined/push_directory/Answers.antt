use Rattle.std.proofs.Common.{◌≡◌, ◌++◌, ◌∷◌, [], ap, sym, ◌∙◌, append_assoc, append-nil, Some, None, lit<}
use Rattle.std.specs.String.{string_bytes}
use Rattle.std.proofs.lemmas.Str.Pattern.{split_parts}
use Rattle.config_load.specs.Joined.{directory_of}
use Rattle.config_load.proofs.Directories.{directory_of-folder, directory_of-none, no_slash, IsUtf8-after_slash}
use Rattle.config_load.proofs.joined.push_directory.Goals as goal

pub split_once-requires-text-self : goal.split_once-requires-text-self
split_once-requires-text-self c κs = c.loop-folder.invariant.text

pub loop-folder-preserved : goal.loop-folder-preserved
loop-folder-preserved c =
    let folder = c.in-Some.folder.now in
    let after = c.in-Some.after.now in
    let rest = c.loop-folder.rest.now in
    let text = string_bytes c.loop-folder.text in
    let parts : rest ≡ folder ++ 47 ∷ after = (split_parts 47 rest (Some (c.in-Some.folder, c.in-Some.after)) c.in-Some.ensures.cases (lit< tt)).0 in
    let pushed : string_bytes c.push.new.self ≡ (text ++ folder) ++ 47 ∷ [] = c.in_ok-push.ensures.bytes ∙ (ap (λ l. string_bytes c.push_str.new.self ++ l) (c.in_ok-push.ensures.ascii (lit< tt)) ∙ ap (λ l. l ++ 47 ∷ []) c.in_ok-push_str.ensures.bytes) in
    record {
      whole = ap (λ l. l ++ directory_of after) pushed
          ∙ (append_assoc (text ++ folder) (47 ∷ []) (directory_of after)
          ∙ (append_assoc text folder (47 ∷ directory_of after)
          ∙ (ap (λ l. text ++ l) (sym (directory_of-folder folder after))
          ∙ (ap (λ l. text ++ directory_of l) (sym parts)
          ∙ c.loop-folder.invariant.whole))));
      text = IsUtf8-after_slash rest folder after c.loop-folder.invariant.text parts;
    }

pub returns : goal.returns
returns c =
    let rest = c.loop-folder.rest.now in
    let none : directory_of rest ≡ [] = directory_of-none rest (no_slash rest (split_parts 47 rest None c.in_default.ensures.cases (lit< tt))) in
    sym (append-nil (string_bytes c.loop-folder.text)) ∙ (ap (λ l. string_bytes c.loop-folder.text ++ l) (sym none) ∙ c.loop-folder.invariant.whole)
