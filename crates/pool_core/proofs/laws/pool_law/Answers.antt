use Rattle.pool_core.proofs.Sentences.{lawful_run}
use Rattle.pool_core.proofs.laws.pool_law.Goals as goal

pub returns : goal.returns
returns c =
    record {
      one_spot = λ w l es h. (lawful_run w l es h).one_spot;
      waits = λ w l es h. (lawful_run w l es h).waits;
      no_twice = λ w l es h. (lawful_run w l es h).no_twice;
      in_order = λ w l es h. (lawful_run w l es h).in_order;
      balance = λ w l es h. (lawful_run w l es h).balance;
      claims = λ w l es h. (lawful_run w l es h).claims;
      filings = λ w l es h. (lawful_run w l es h).filings;
      after_claim = λ w l es h. (lawful_run w l es h).after_claim;
      legal = λ w l es h. (lawful_run w l es h).legal;
      replay = λ w l es h. (lawful_run w l es h).replay;
      accepted = λ w l es h. (lawful_run w l es h).run;
    }
