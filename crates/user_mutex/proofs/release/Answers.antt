use Rattle.std.proofs.Common.{arith, ◌≡◌, ℕ, Some, None, rules, ap, subst, ◌∙◌, slice_set}
use Rattle.nub.specs.Rest.{AtRest}
use Rattle.nub.proofs.Holding.{gives}
use Rattle.nub.proofs.Without.{still_out}
use Rattle.user_mutex.proofs.release.Given.{Over}
use Rattle.user_mutex.proofs.release.Goals.{After-free}
use Rattle.user_mutex.proofs.release.Goals as goal

rest : (g : Over) (c : After-free g) → AtRest c.args.p.now c.free.new.me
rest g c =
    let old = c.args.me.now in
    let new = c.free.new.me in
    let m = c.args.m.0 in
    let freed = c.free.ensures.freed in
    record {
      of = search rules;
      named = let e : c.free.new.me.number ≡ c.args.me.now.number = search rules in let low = c.requires.rest.named in omega arith;
      outside = record { spin = search rules; queue = search rules; owed = search rules; left = search rules; stand = search rules; pen = search rules; live = search rules };
      wait = search rules;
      raised = search rules;
      calling = search rules;
      turns = search rules;
      cleared = search rules;
      looked = search rules;
      child = search rules;
      version = search rules;
      taken = still_out old.held new.held old.values new.values m None (Some (Some c.args.value)) None c.requires.rest.taken (freed.0 ∙ ap (λ k. slice_set k.held m None) c.put_value.ensures.value) (freed.1 ∙ ap (λ k. slice_set k.values m None) c.put_value.ensures.value) (λ y e. absurd cc);
      stored = let stored = c.free.ensures.stored in search rules;
    }

pub returns-clause-rest : goal.returns-clause-rest
returns-clause-rest g c = rest g (goal.at.returns-clause-rest g c).After-free

pub returns-clause-idle : goal.returns-clause-idle
returns-clause-idle g c = let a = (goal.at.returns-clause-idle g c).After-free in
    λ n s x i.
    let m = c.args.m.0 in
    let w = c.args.p.now.world in
    let picked : (k : ℕ) → c.args.me.now.number ≡ k → c.free.new.me.share ≡ Some (g.C.Change.after w m k x c.args.value s) = λ k e. subst (λ (j : ℕ). c.free.new.me.share ≡ Some (g.C.Change.after w m j x c.args.value s)) e (search rules) in
    gives c.args.p.now n m s (g.C.Change.after w m n x c.args.value s) x c.args.me.now c.free.new.me i (rest g a) record { number = search rules; world = search rules } (search rules) (picked n i.number)
