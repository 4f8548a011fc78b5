use Rattle.std.proofs.Common.{arith}
use Rattle.nub.proofs.Users.{idle_again}
use Rattle.indexer.proofs.Getting.{shut_files_more}
use Rattle.indexer.proofs.Turning.{adds_called, passes_same}
use Rattle.indexer.proofs.calls.files.shut_files.Goals as goal

pub returns : goal.returns
returns g c =
    let p = c.args.p.now in
    let a = c.args.me.now in
    let b = c.shut.new.me in
    let e = c.shut.ensures in
    let between = c.requires.between in
    record {
      called = λ o root m. record {
        back = λ n s idle.
            let ran = e.shut s idle.share in
            (ran.share, idle_again p n s ran.share a b idle e.rest e.same e.held ran.is_share, passes_same o root s ran.share (ran.elsewhere 2 (λ z. omega arith)));
        times = adds_called m _ _ a b (e.shut between.1 between.2.share).events;
      };
      gets = λ s at. let ran = e.shut s at in (ran.share, ran.is_share, shut_files_more p.world _ _ a.number s a b ran);
    }
