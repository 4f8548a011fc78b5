use Rattle.std.proofs.Common.{arith, ◌≡◌, ℕ, Some, None, rules, ap, subst, ◌∙◌, slice_set}
use Rattle.nub.specs.Rest.{AtRest}
use Rattle.nub.proofs.Holding.{takes}
use Rattle.nub.proofs.Without.{still_out}
use Rattle.user_mutex.proofs.acquire.Given.{Over}
use Rattle.user_mutex.proofs.acquire.Goals.{After-take_value}
use Rattle.user_mutex.proofs.acquire.Goals as goal

rest : (g : Over) (c : After-take_value g) → AtRest c.args.p.now c.take_value.new.me
rest g c =
    let old = c.args.me.now in
    let new = c.take_value.new.me in
    let m = c.args.m.0 in
    let taken = c.take.ensures.taken in
    let x = taken.0 in
    record {
      of = search rules;
      named = let e : c.take_value.new.me.number ≡ c.args.me.now.number = search rules in let low = c.requires.rest.named in omega arith;
      outside = record { spin = search rules; queue = search rules; owed = search rules; left = search rules; stand = search rules; pen = search rules; live = search rules };
      wait = search rules;
      raised = search rules;
      calling = search rules;
      turns = search rules;
      cleared = search rules;
      looked = search rules;
      child = search rules;
      version = search rules;
      taken = still_out old.held new.held old.values new.values m (Some x) (Some (Some x)) (Some None) c.requires.rest.taken (ap (λ k. k.held) c.take_value.ensures.out ∙ taken.1) (ap (λ k. k.values) c.take_value.ensures.out ∙ ap (λ vs. slice_set vs m (Some None)) taken.2) (λ y e. c.take_value.ensures.is_out);
      stored = let stored = c.take.ensures.stored in search rules;
    }

pub returns-clause-rest : goal.returns-clause-rest
returns-clause-rest g c = rest g (goal.at.returns-clause-rest g c).After-take_value

pub returns-clause-holding : goal.returns-clause-holding
returns-clause-holding g c = let a = (goal.at.returns-clause-holding g c).After-take_value in
    λ n s i.
    let m = c.args.m.0 in
    let x = c.take_value.result in (
      takes c.args.p.now n m s x c.args.me.now c.take_value.new.me i (rest g a) record { number = search rules; world = search rules } (search rules) (search rules) (search rules),
      subst (λ (k : ℕ). g.U.Uses.fits c.args.p.now.world m x k s) i.number (search rules),
    )
