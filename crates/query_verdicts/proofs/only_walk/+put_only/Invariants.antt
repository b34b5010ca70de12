use Rattle.query_verdicts.proofs.only_walk.+put_only.Given as goal

-- so many states more may be put
abbrev pub decreases-put_only : goal.decreases-put_only
decreases-put_only l = l.most
