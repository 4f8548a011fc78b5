use Rattle.std.proofs.Common.{◌≡◌, ℕ, [], ◌∷◌, rules, Some, None, true, refl, ap, sym, subst, ◌∙◌, slice_set}
use Rattle.std.proofs.lemmas.List.{set-set}
use mathlib.Core.Option.{some}
use lib.ListN.{get_elem?}
use Rattle.larch_actions.specs.Sets.{without}
use Rattle.nub_rule.specs.declared.view.WaitBit.TheVariants.{Open}
use Rattle.nub_rule.specs.Places.{cond_object}
use Rattle.nub_rule.specs.Plays.{begun_wait, enqueue_event, opened}
use Rattle.std.specs.Prelude.{Option as Opt}
use Rattle.alert_wait.specs.Outcomes.{wait_end}
use Rattle.nub_rule.specs.Known.{Holds}
use Rattle.nub.specs.Rest.{Adds, AtRest, IsSame}
use Rattle.nub.proofs.Holding.{fits_own, retakes}
use Rattle.alert_wait.proofs.Waits.{Waited, adds, rests, same}
use Rattle.alert_wait.proofs.wait.alert_wait.Given.{Over}
use Rattle.alert_wait.proofs.wait.alert_wait.Goals.{After-take_value}
use Rattle.alert_wait.proofs.wait.alert_wait.Goals as goal

same_value : {T : Type 0} (x y : T) → (let a : Opt (Opt T) = Some (Some x) in some a) ≡ some (Some (Some y)) → x ≡ y
same_value x y e = cc

pub free-requires-clause-clears : goal.free-requires-clause-clears
free-requires-clause-clears g c κs within = (begun_wait true c.args.m.0 c.args.c.0 c.read_count-count.result, ap (λ k. k.wait) c.read_count-count.ensures.begun, refl, refl)

pub free-requires-clause-may : goal.free-requires-clause-may
free-requires-clause-may g c κs within =
    let m = c.args.m.0 in
    let x = c.requires.may.0 in
    let y = c.args.value in
    let begun = c.read_count-count.ensures.begun in
    let put = c.put_value.ensures.value in (
      x,
      y,
      ap (λ k. get_elem? k.held m) begun ∙ (ap (λ k. get_elem? k.held m) put ∙ c.requires.may.1),
      ap (λ k. get_elem? k.values m) begun ∙ c.put_value.ensures.is_in,
      λ w s world share. subst (λ (n : ℕ). g.U.Uses.allows w m n x y s (g.C.Change.after w m n x y s)) (sym (ap (λ k. k.number) begun ∙ ap (λ k. k.number) put))
          (c.requires.may.2 w s (sym (ap (λ k. k.world) begun ∙ ap (λ k. k.world) put) ∙ world) (sym (ap (λ k. k.share) begun ∙ ap (λ k. k.share) put) ∙ share)),
    )

pub block-returns-requires-clause-waits : goal.block-returns-requires-clause-waits
block-returns-requires-clause-waits g c κs within = (record (begun_wait true c.args.m.0 c.args.c.0 c.read_count-count.result) { bit = Open }, ap (λ k. k.wait) c.free.ensures.rest ∙ ap opened (ap (λ k. k.wait) c.read_count-count.ensures.begun), refl, refl, refl)

pub end_wait-outcome-requires-clause-raised : goal.end_wait-outcome-requires-clause-raised
end_wait-outcome-requires-clause-raised g c κs within = ap (λ k. k.raised) c.block-returns.ensures.rest ∙ (ap (λ k. k.raised) c.free.ensures.rest ∙ ap (λ k. k.raised) c.read_count-count.ensures.begun)

pub put_value-requires-clause-out : goal.put_value-requires-clause-out
put_value-requires-clause-out g c κs within = c.requires.rest.taken c.args.m.0 c.requires.may.0 c.requires.may.1

steps : (g : Over) (c : After-take_value g) → Waited c.args.m.0 c.end_wait-outcome.ensures.taken.0 c.args.value c.args.me.now c.put_value.new.me c.read_count-count.new.me c.free.new.me c.block-returns.new.me c.end_wait-outcome.new.me c.take_value.new.me
steps g c = let taken = c.end_wait-outcome.ensures.taken in record {
  wait = Some (begun_wait true c.args.m.0 c.args.c.0 c.read_count-count.result);
  raised = Some c.args.c.0;
  failed = without (cond_object c.args.c.0) c.free.new.me.failed;
  put = c.put_value.ensures.value;
  begun = c.read_count-count.ensures.begun;
  freed = c.free.ensures.rest;
  freed_held = c.free.ensures.freed.0;
  freed_values = c.free.ensures.freed.1;
  blocked = c.block-returns.ensures.rest;
  ended = c.end_wait-outcome.ensures.rest;
  turns = c.end_wait-outcome.ensures.turns;
  held = taken.1;
  values = taken.2;
  out = c.take_value.ensures.out;
}

rest : (g : Over) (c : After-take_value g) → AtRest c.args.p.now c.take_value.new.me
rest g c = rests c.args.m.0 c.end_wait-outcome.ensures.taken.0 c.args.value c.args.me.now c.put_value.new.me c.read_count-count.new.me c.free.new.me c.block-returns.new.me c.end_wait-outcome.new.me c.take_value.new.me (steps g c) c.args.p.now c.requires.rest c.end_wait-outcome.ensures.stored c.take_value.ensures.is_out

is_same : (g : Over) (c : After-take_value g) → IsSame c.args.me.now c.take_value.new.me
is_same g c = same c.args.m.0 c.end_wait-outcome.ensures.taken.0 c.args.value c.args.me.now c.put_value.new.me c.read_count-count.new.me c.free.new.me c.block-returns.new.me c.end_wait-outcome.new.me c.take_value.new.me (steps g c)

pub returns-clause-rest : goal.returns-clause-rest
returns-clause-rest g c = rest g (goal.at.returns-clause-rest g c).After-take_value

pub returns-clause-same : goal.returns-clause-same
returns-clause-same g c = is_same g (goal.at.returns-clause-same g c).After-take_value

events : (g : Over) (c : After-take_value g) → Adds (enqueue_event true c.args.me.now.number c.args.m.0 c.args.c.0 ∷ []) (wait_end c.end_wait-outcome.result c.args.me.now.number c.args.m.0 c.args.c.0) c.args.me.now c.take_value.new.me
events g c =
    let m = c.args.m.0 in
    let d = c.args.c.0 in
    let o = c.end_wait-outcome.result in
    adds c.args.m.0 c.end_wait-outcome.ensures.taken.0 c.args.value c.args.me.now c.put_value.new.me c.read_count-count.new.me c.free.new.me c.block-returns.new.me c.end_wait-outcome.new.me c.take_value.new.me (steps g c) (λ (n : ℕ). enqueue_event true n m d) (λ (n : ℕ). wait_end o n m d) c.read_count-count.ensures.event c.end_wait-outcome.ensures.event

pub returns-clause-event : goal.returns-clause-event
returns-clause-event g c = events g (goal.at.returns-clause-event g c).After-take_value

holds : (g : Over) (c : After-take_value g) → Holds c.take_value.new.me c.args.m.0 c.take_value.result
holds g c =
    let m = c.args.m.0 in
    let taken = c.end_wait-outcome.ensures.taken in
    ap (λ k. get_elem? k.held m) c.take_value.ensures.out ∙ (taken.3 ∙ ap (λ z. some (Some z)) (same_value taken.0 c.take_value.result (sym taken.4 ∙ c.take_value.ensures.value)))

held : (g : Over) (c : After-take_value g) → c.take_value.new.me.held ≡ slice_set c.args.me.now.held c.args.m.0 (Some c.take_value.result)
held g c =
    let old = c.args.me.now in
    let m = c.args.m.0 in
    let taken = c.end_wait-outcome.ensures.taken in
    let x = taken.0 in
    let held = ap (λ k. k.held) c.block-returns.ensures.rest ∙ (c.free.ensures.freed.0 ∙ ap (λ k. slice_set k.held m None) c.read_count-count.ensures.begun ∙ ap (λ k. slice_set k.held m None) c.put_value.ensures.value) in
    ap (λ k. k.held) c.take_value.ensures.out ∙ (taken.1 ∙ (ap (λ h. slice_set h m (Some x)) held ∙ (set-set old.held m None (Some x) ∙ ap (λ z. slice_set old.held m (Some z)) (same_value x c.take_value.result (sym taken.4 ∙ c.take_value.ensures.value)))))

pub returns-clause-holds : goal.returns-clause-holds
returns-clause-holds g c = holds g (goal.at.returns-clause-holds g c).After-take_value

pub returns-clause-held : goal.returns-clause-held
returns-clause-held g c = held g (goal.at.returns-clause-held g c).After-take_value

pub returns-clause-holding : goal.returns-clause-holding
returns-clause-holding g c = let a = (goal.at.returns-clause-holding g c).After-take_value in
    λ n s x i.
    let p = c.args.p.now in
    let m = c.args.m.0 in
    let y = c.take_value.result in
    let r = g.C.Change.after p.world m n x c.args.value s in
    let picked : c.take_value.new.me.share ≡ Some r = subst (λ (k : ℕ). c.take_value.new.me.share ≡ Some (g.C.Change.after p.world m k x c.args.value s)) i.number (search rules) in
    let again = retakes p n m s r x y c.args.me.now c.take_value.new.me i (rest g a) (is_same g a) (held g a) (holds g a) picked in
    (again, fits_own g.U.Uses.fits p n m r y y c.take_value.new.me again (search rules))
