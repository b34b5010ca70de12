use Rattle.std.proofs.Common.{List, ℕ, subst, sym}
use Rattle.master_read.specs.Reader.{IsReaderOf}
use Rattle.config_load.proofs.file.feed_more.Goals as goal

pub returns-clause-stands : goal.returns-clause-stands
returns-clause-stands g c origin room includes ended so_far =
    subst (λ (text : List ℕ). IsReaderOf c.feed.new.self origin room includes ended text) (sym c.in_ok-count.ensures.front)
    (c.in_ok-feed.ensures.stands origin room includes ended _ so_far)
