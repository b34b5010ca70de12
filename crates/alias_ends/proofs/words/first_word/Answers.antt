use Rattle.std.proofs.Common.{suc, drop, take, sym, ap, ◌∙◌}
use Rattle.std.specs.Prelude.{slice_index_or}
use Rattle.std.proofs.Math.Seq.{split_at}
use Rattle.std.proofs.lemmas.List.{take_more}
use Rattle.dns_data.specs.declared.rr_type.RrType.TheVariants.{A}
use Rattle.alias_ends.specs.Aliases.{first_word}
use Rattle.alias_ends.specs.Known.{word_at}
use Rattle.alias_ends.proofs.AliasWords.{first_here, first_more}
use Rattle.alias_ends.proofs.words.first_word.Goals as goal

pub returns-in-Some : goal.returns-in-Some
returns-in-Some c =
    let word_for = word_at c.args.hosts.now c.args.here.now c.args.tops.now in
    let rtypes = c.args.rtypes.now in
    let at = c.loop-rtype.rtype-index in
    sym (ap (first_word word_for) (split_at rtypes at A c.loop-rtype-test.true)
    ∙ first_here word_for (take at rtypes) (drop (suc at) rtypes) (slice_index_or rtypes at A) c.in-Some.word c.loop-rtype.invariant
    (sym c.in_ok-said.ensures ∙ c.in-Some.is))

pub loop-rtype-preserved : goal.loop-rtype-preserved
loop-rtype-preserved c =
    let word_for = word_at c.args.hosts.now c.args.here.now c.args.tops.now in
    let rtypes = c.args.rtypes.now in
    let at = c.loop-rtype.rtype-index in
    ap (first_word word_for) (take_more rtypes at A c.loop-rtype-test.true)
    ∙ first_more word_for (take at rtypes) (slice_index_or rtypes at A) c.loop-rtype.invariant (sym c.in_ok-said.ensures ∙ c.in-None.is)
