-- White space was passed over, and a token or the line's end behind it.
use Rattle.std.proofs.Common.{◌≡◌, ◌+◌, [], ◌∷◌, ◌++◌, sym, arith, rules}
use Rattle.master_lex.proofs.Lines.{behind_blank, word_passed, word_ends, quoted_passed, end_passed}
use Rattle.master_lex.proofs.line.pass_part.Goals as goal

pub returns-then-is_feed_octet-clause-passed : goal.returns-then-is_feed_octet-clause-passed
returns-then-is_feed_octet-clause-passed c s =
    let pushed : c.push.new.self.items ≡ c.args.tokens.now.items ++ c.new.result ∷ [] = search rules in
    let word = c.word_len-word.result in
    rw (pushed, c.new.ensures) (behind_blank s c.args.tokens.now.items _ c.args.octets.now c.blank_len-blank.result (word + 1) c.blank_len-blank.ensures.len
    (word_ends s c.args.tokens.now.items _ word (c.word_len-word.ensures (omega arith)) (sym c.if-is_feed_octet.ensures)))

pub returns-else-is_feed_octet-clause-passed : goal.returns-else-is_feed_octet-clause-passed
returns-else-is_feed_octet-clause-passed c s =
    let pushed : c.push.new.self.items ≡ c.args.tokens.now.items ++ c.new.result ∷ [] = search rules in
    let word = c.word_len-word.result in
    rw (pushed, c.new.ensures) (behind_blank s c.args.tokens.now.items _ c.args.octets.now c.blank_len-blank.result (word + 1) c.blank_len-blank.ensures.len
    (word_passed s c.args.tokens.now.items _ word (c.word_len-word.ensures (omega arith)) (sym c.if-is_feed_octet.ensures)))

pub returns-then-quoted-gt0-clause-passed : goal.returns-then-quoted-gt0-clause-passed
returns-then-quoted-gt0-clause-passed c s =
    let pushed : c.push-then-quoted-gt0.new.self.items ≡ c.args.tokens.now.items ++ c.new-then-quoted-gt0.result ∷ [] = search rules in
    rw (pushed, c.new-then-quoted-gt0.ensures) (behind_blank s c.args.tokens.now.items _ c.args.octets.now c.blank_len-blank.result c.quoted_len-quoted.result c.blank_len-blank.ensures.len
    (quoted_passed s c.args.tokens.now.items _ c.quoted_len-quoted.result (c.quoted_len-quoted.ensures (omega arith))))

pub returns-then-end-gt0-clause-passed : goal.returns-then-end-gt0-clause-passed
returns-then-end-gt0-clause-passed c s =
    behind_blank s c.args.tokens.now.items _ c.args.octets.now c.blank_len-blank.result c.end_len-end.result c.blank_len-blank.ensures.len
    (end_passed s c.args.tokens.now.items _ c.end_len-end.result (c.end_len-end.ensures (omega arith)))
