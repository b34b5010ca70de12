use Rattle.std.proofs.Common.{◌∙◌, ap, map, arith}
use Rattle.std.proofs.lemmas.List.{length-map}
use Rattle.std.specs.Char.{to_ascii_lowercase}
use Rattle.dns_data.specs.Octet.{folded}
use Rattle.dns_data.proofs.Encodings.{label_put}
use Rattle.dns_data.proofs.Plain.{folds_are}
use Rattle.dns_data.proofs.spelling.put_label.Goals as goal

pub returns : goal.returns
returns c =
    let label = c.args.label.now in
    let octets = c.make_ascii_lowercase.ensures.after ∙ ap (map to_ascii_lowercase) c.copy_from_slice.ensures.after ∙ folds_are label in
    label_put c.args.out.now (map folded label) c.make_ascii_lowercase.new.self _ (omega (arith, c.requires.room, length-map label folded)) octets
