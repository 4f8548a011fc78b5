-- In each state that meets the invariant, a thread that hasn't begun or has ended has nothing.
use Rattle.std.proofs.Common.{Bool, ◌≡◌, ◌≢◌, ℕ, ◌<◌, ◌≤◌, List, [], sym, ap, ◌∙◌, subst, ⊎_elim, arith, Some}
use mathlib.Core.Option.{some}
use lib.ListN.{get_elem?}
use Rattle.larch_actions.specs.declared.event.Layout.{Layout}
use Rattle.larch_actions.specs.declared.event.Life.TheVariants.{Unborn, Live}
use Rattle.larch_actions.specs.Actions.{lives_at_first}
use Rattle.atomic_table.specs.Table.{State}
use Rattle.nub_rule.specs.declared.rule.Slot.{Slot}
use Rattle.nub_rule.specs.declared.view.Child.{Child}
use Rattle.nub_rule.specs.declared.view.Child.TheVariants.{No as Childless, May, Forked}
use Rattle.nub_rule.specs.declared.view.Kind.{Kind}
use Rattle.nub_rule.specs.declared.view.Kind.TheVariants.{Root, Member, Collector, Spent}
use Rattle.nub_rule.specs.declared.view.Part.{Part}
use Rattle.nub_rule.specs.declared.view.View.{View}
use Rattle.nub_rule.specs.Items.{Each}
use Rattle.nub_rule.specs.Parts.{HasNothing, first_part, newborn, unborn}
use Rattle.nub_rule.specs.Rule.{ChildFits, FitsAs, IsKept, IsOfChild, IsWith}
use Rattle.nub_rule.proofs.Each.{at_below, at_within, same_at}
use Rattle.nub_rule.proofs.Idle.{fresh-idle}

module _ {T H W : Type 0} (l : Layout) (traced : Bool) (w : W) (begin : W → ℕ → H) (holds : W → List T → List H → Type 0) (s : State (Slot T) (View T H W)) (k : IsKept l traced w begin holds s) where
  -- whoever doesn't live has nothing: its part is that of its seat, or of one that has done nothing, or came back so
  child-idle : (id : ℕ) (v : View T H W) (c : Child) (n : ℕ) (p : Part T H) → get_elem? k.all n ≡ some p
      → ChildFits l.version l.threads k.given w begin k.all k.seat_of id v c → IsOfChild c n → p.life ≢ Live → HasNothing p
  child-idle id v Childless n p at f h dead = absurd h
  child-idle id v (May t) n p at f h dead = subst (λ (z : Part T H). HasNothing z)
      (same_at k.all n (unborn l.version (Some (begin w t))) p (ap (get_elem? k.all) (sym h) ∙ f.3) at) (fresh-idle l.version Unborn [] (Some (begin w t)))
  child-idle id v (Forked t seen) n p at f h dead = absurd (dead (ap (λ (z : Part T H). z.life)
      (same_at k.all n p (newborn l.version seen (Some (begin w t))) at (ap (get_elem? k.all) (sym h) ∙ f.3))))

  idle-by : (id : ℕ) (v : View T H W) (kind : Kind) (n : ℕ) (p : Part T H) → n < l.threads → get_elem? k.all n ≡ some p
      → FitsAs l.version l.threads k.given w begin k.all k.seat_of id v kind → IsWith v kind n → p.life ≢ Live → HasNothing p
  idle-by id v Root n p lo at f h dead = subst (λ (z : Part T H). HasNothing z)
      (same_at k.all n (first_part l.version n (Some (begin w n))) p (f.unborn n (subst (λ (z : ℕ). z ≤ n) f.next h) lo).1 at)
      (fresh-idle l.version (lives_at_first l.version n) [] (Some (begin w n)))
  idle-by id v Member n p lo at f h dead = ⊎_elim
      (λ (is : v.number ≡ n). let same : v.part ≡ p = same_at k.all n v.part p (ap (get_elem? k.all) (sym is) ∙ f.own) at in
      subst (λ (z : Part T H). HasNothing z) same (f.idle (λ live. dead (sym (ap (λ (z : Part T H). z.life) same) ∙ live))).0)
      (λ (is : IsOfChild v.child n). child-idle id v v.child n p at f.child is dead) h
  idle-by id v Collector n p lo at f h dead = let o = at_below v.back n h in let r = f.came_back n o.0 o.1 in
      let same : o.0 ≡ p = same_at k.all n o.0 p r.1 at in
      subst (λ (z : Part T H). HasNothing z) same (r.2 (λ live. dead (sym (ap (λ (z : Part T H). z.life) same) ∙ live))).0
  idle-by id v Spent n p lo at f h dead = absurd h

  pub are-idle : Each (λ n p. p.life ≢ Live → HasNothing p) k.all
  are-idle n p at = let many = k.core.sizes.count in let inside = at_within k.all n p at in let lo : n < l.threads = omega arith in
      let o = k.placed n lo in idle-by (k.seat_of n) o.0 o.0.kind n p lo at (k.fits (k.seat_of n) o.0 o.1) o.2
