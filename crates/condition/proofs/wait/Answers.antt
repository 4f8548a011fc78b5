use Rattle.std.proofs.Common.{arith, ◌≡◌, ℕ, Some, None, false, rules, refl, inr, ap, sym, subst, ◌∙◌, slice_set}
use Rattle.std.proofs.lemmas.List.{set-set}
use mathlib.Core.Option.{some}
use lib.ListN.{get_elem?}
use Rattle.nub_rule.specs.declared.view.WaitBit.TheVariants.{Open}
use Rattle.nub_rule.specs.Plays.{begun_wait, opened, unread}
use Rattle.nub.specs.Rest.{AtRest, HasStored}
use Rattle.condition.specs.Waits.{resume_event}
use Rattle.nub.proofs.Holding.{fits_own, retakes}
use Rattle.nub.proofs.Without.{still_out}
use Rattle.std.specs.Prelude.{Option as Opt}
use Rattle.condition.proofs.wait.Given.{Over}
use Rattle.condition.proofs.wait.Goals.{After-take_value}
use Rattle.condition.proofs.wait.Goals as goal

same_value : {T : Type 0} (x y : T) → (let a : Opt (Opt T) = Some (Some x) in some a) ≡ some (Some (Some y)) → x ≡ y
same_value x y e = cc

pub free-requires-clause-clears : goal.free-requires-clause-clears
free-requires-clause-clears g c κs within = (begun_wait false c.args.m.0 c.args.c.0 c.read_count-count.result, ap (λ k. k.wait) c.read_count-count.ensures.begun, refl, refl)

pub free-requires-clause-may : goal.free-requires-clause-may
free-requires-clause-may g c κs within =
    let m = c.args.m.0 in
    let x = c.requires.may.0 in
    let y = c.args.value in
    let begun = c.read_count-count.ensures.begun in
    let put = c.put_value.ensures.value in (
      x,
      y,
      ap (λ k. get_elem? k.held m) begun ∙ (ap (λ k. get_elem? k.held m) put ∙ c.requires.may.1),
      ap (λ k. get_elem? k.values m) begun ∙ c.put_value.ensures.is_in,
      λ w s world share. subst (λ (n : ℕ). g.U.Uses.allows w m n x y s (g.C.Change.after w m n x y s)) (sym (ap (λ k. k.number) begun ∙ ap (λ k. k.number) put))
          (c.requires.may.2 w s (sym (ap (λ k. k.world) begun ∙ ap (λ k. k.world) put) ∙ world) (sym (ap (λ k. k.share) begun ∙ ap (λ k. k.share) put) ∙ share)),
    )

pub block_and_lower-requires-clause-waits : goal.block_and_lower-requires-clause-waits
block_and_lower-requires-clause-waits g c κs within = (record (begun_wait false c.args.m.0 c.args.c.0 c.read_count-count.result) { bit = Open }, ap (λ k. k.wait) c.free.ensures.rest ∙ ap opened (ap (λ k. k.wait) c.read_count-count.ensures.begun), refl, refl, refl)

pub take-requires-clause-may : goal.take-requires-clause-may
take-requires-clause-may g c κs within =
    let w = record (begun_wait false c.args.m.0 c.args.c.0 c.read_count-count.result) { bit = Open } in
    let wait = ap (λ k. k.wait) c.block_and_lower.ensures ∙ (ap (λ k. unread k.wait) c.free.ensures.rest ∙ ap (λ z. unread (opened z)) (ap (λ k. k.wait) c.read_count-count.ensures.begun)) in
    inr (record w { member = None }, wait, refl, refl, λ j. resume_event (c.number.ensures j) c.args.m.0 c.args.c.0)

pub block_and_lower-requires-clause-raised : goal.block_and_lower-requires-clause-raised
block_and_lower-requires-clause-raised g c κs within = ap (λ k. k.raised) c.free.ensures.rest ∙ ap (λ k. k.raised) c.read_count-count.ensures.begun

rest : (g : Over) (c : After-take_value g) → AtRest c.args.p.now c.take_value.new.me
rest g c =
    let old = c.args.me.now in
    let new = c.take_value.new.me in
    let m = c.args.m.0 in
    let taken = c.take.ensures.taken in
    let x = taken.0 in
    let y = c.args.value in
    let put = c.put_value.ensures.value in
    let begun = c.read_count-count.ensures.begun in
    let freed = c.free.ensures.rest in
    let blocked = c.block_and_lower.ensures in
    let out = c.take_value.ensures.out in
    let held = ap (λ k. k.held) blocked ∙ (c.free.ensures.freed.0 ∙ ap (λ k. slice_set k.held m None) begun ∙ ap (λ k. slice_set k.held m None) put) in
    let values = ap (λ k. k.values) blocked ∙ (c.free.ensures.freed.1 ∙ ap (λ k. slice_set k.values m None) begun ∙ ap (λ k. slice_set k.values m None) put) in
    record {
      of = search rules;
      named = let e : c.take_value.new.me.number ≡ c.args.me.now.number = search rules in let low = c.requires.rest.named in omega arith;
      outside = record { spin = search rules; queue = search rules; owed = search rules; left = search rules; stand = search rules; pen = search rules; live = search rules };
      wait = search rules;
      raised = search rules;
      calling = search rules;
      turns = search rules;
      cleared = search rules;
      looked = search rules;
      child = search rules;
      version = search rules;
      taken = still_out old.held new.held old.values new.values m (Some x) (Some (Some x)) (Some None) c.requires.rest.taken
          (ap (λ k. k.held) out ∙ (taken.1 ∙ (ap (λ h. slice_set h m (Some x)) held ∙ set-set old.held m None (Some x))))
          (ap (λ k. k.values) out ∙ ap (λ v. slice_set v m (Some None)) (taken.2 ∙ (ap (λ v. slice_set v m (Some (Some x))) values ∙ (ap (λ v. slice_set v m (Some (Some x))) (set-set old.values m (Some (Some y)) None) ∙ set-set old.values m None (Some (Some x))))))
          (λ z e. c.take_value.ensures.is_out);
      stored = subst (λ k. HasStored c.args.p.now.traced k) (sym out) c.take.ensures.stored;
    }

held : (g : Over) (c : After-take_value g) → c.take_value.new.me.held ≡ slice_set c.args.me.now.held c.args.m.0 (Some c.take_value.result)
held g c =
    let old = c.args.me.now in
    let m = c.args.m.0 in
    let taken = c.take.ensures.taken in
    let x = taken.0 in
    let held = ap (λ k. k.held) c.block_and_lower.ensures ∙ (c.free.ensures.freed.0 ∙ ap (λ k. slice_set k.held m None) c.read_count-count.ensures.begun ∙ ap (λ k. slice_set k.held m None) c.put_value.ensures.value) in
    ap (λ k. k.held) c.take_value.ensures.out ∙ (taken.1 ∙ (ap (λ h. slice_set h m (Some x)) held ∙ (set-set old.held m None (Some x) ∙ ap (λ z. slice_set old.held m (Some z)) (same_value x c.take_value.result (sym taken.4 ∙ c.take_value.ensures.value)))))

pub returns-clause-rest : goal.returns-clause-rest
returns-clause-rest g c = rest g (goal.at.returns-clause-rest g c).After-take_value

pub returns-clause-held : goal.returns-clause-held
returns-clause-held g c = held g (goal.at.returns-clause-held g c).After-take_value

pub returns-clause-holding : goal.returns-clause-holding
returns-clause-holding g c = let a = (goal.at.returns-clause-holding g c).After-take_value in
    λ n s x i.
    let p = c.args.p.now in
    let m = c.args.m.0 in
    let y = c.take_value.result in
    let r = g.C.Change.after p.world m n x c.args.value s in
    let picked : c.take_value.new.me.share ≡ Some r = subst (λ (k : ℕ). c.take_value.new.me.share ≡ Some (g.C.Change.after p.world m k x c.args.value s)) i.number (search rules) in
    let again = retakes p n m s r x y c.args.me.now c.take_value.new.me i (rest g a) record { number = search rules; world = search rules } (held g a) (search rules) picked in
    (again, fits_own g.U.Uses.fits p n m r y y c.take_value.new.me again (search rules))
