-- A step by the seat of a thread keeps the rule where it keeps the items.
use Rattle.std.proofs.Common.{Bool, ◌≡◌, ◌≢◌, ℕ, ◌<◌, List, ◌++◌, get_or, set, sym, ap, ◌∙◌, subst, ⊎_elim, arith, length-set, Some}
use mathlib.Core.Logic.{dite}
use mathlib.Core.Option.{Option, some}
use native.Mathlib.Decide.{ℕ_discrete}
use lib.ListN.{get_elem?}
use Rattle.larch_actions.specs.declared.event.Layout.{Layout}
use Rattle.larch_actions.specs.declared.event.Version.{Version}
use Rattle.atomic_table.specs.Table.{Me, Act, Valid, Allows, carried_after, homes_after}
use Rattle.atomic_table.proofs.Lists.{at_longer, at_set, set_else, set_here}
use Rattle.nub_rule.specs.declared.rule.Slot.{Slot}
use Rattle.nub_rule.specs.declared.view.Part.{Part}
use Rattle.nub_rule.specs.declared.view.View.{View}
use Rattle.nub_rule.specs.declared.view.Child.{Child}
use Rattle.nub_rule.specs.declared.view.Child.TheVariants.{No, May, Forked}
use Rattle.nub_rule.specs.declared.view.Kind.{Kind}
use Rattle.nub_rule.specs.declared.view.Kind.TheVariants.{Root, Member, Collector, Spent}
use Rattle.nub_rule.specs.Items.{Core}
use Rattle.nub_rule.specs.Plays.{with_part}
use Rattle.nub_rule.specs.Rule.{ChildFits, FitsAs, HasNothingUnlessLive, SeatFits, IsKept, IsWith}
use Rattle.nub_rule.proofs.Each.{at_within, same_at}

module _ {T H W : Type 0} where
  -- the thread n is with the seat id
  abbrev pub Placed : List (View T H W) → ℕ → ℕ → Type 0
  Placed views id n = (v : View T H W) × (get_elem? views id ≡ some v) × IsWith v v.kind n

  -- it is still, whatever is put after the views
  pub placed-longer : (views more : List (View T H W)) (id n : ℕ) → Placed views id n → Placed (views ++ more) id n
  placed-longer views more id n o = (o.0, at_longer views more id o.0 o.1, o.2)

  -- and after the view of a seat has changed, with which it still is if it was
  pub placed-set : (views : List (View T H W)) (id k n : ℕ) (v u : View T H W) (a b : Kind) → get_elem? views id ≡ some v → v.kind ≡ a → u.kind ≡ b → (IsWith v a n → IsWith u b n) → Placed views k n → Placed (set views id u) k n
  placed-set views id k n v u a b at was now stays o = dite (ℕ_discrete k id)
      (λ e. let same : o.0 ≡ v = same_at views id o.0 v ((λ i. get_elem? views (sym e i)) ∙ o.1) at in (
        u,
        (λ i. get_elem? (set views id u) (e i)) ∙ set_here views id u (at_within views id v at),
        subst (λ (z : Kind). IsWith u z n) (sym now) (stays (subst (λ (z : Kind). IsWith v z n) was (subst (λ (z : View T H W). IsWith z z.kind n) same o.2))),
      ))
      (λ ne. (o.0, set_else views id k u ne ∙ o.1, o.2))

module _ {T H W : Type 0} (version : Version) (threads given : ℕ) (w : W) (begin : W → ℕ → H) (all : List (Part T H)) (seat_of : ℕ → ℕ) where
  -- what a view says of a child is so still after the part of a thread with another seat, or its own, has changed
  child_fits : (n : ℕ) (q : Part T H) (id : ℕ) (v : View T H W) (c : Child) → ((k : ℕ) → seat_of k ≡ id → k ≢ v.number → k ≢ n) → ChildFits version threads given w begin all seat_of id v c → ChildFits version threads given w begin (set all n q) seat_of id v c
  child_fits n q id v No apart f = tt
  child_fits n q id v (May t) apart f = (f.0, f.1, f.2, set_else all n t q (apart t f.0 f.1) ∙ f.3)
  child_fits n q id v (Forked t seen) apart f = (f.0, f.1, f.2, set_else all n t q (apart t f.0 f.1) ∙ f.3)

  -- another seat fits still after the part of a thread has changed
  pub others_fit : (n : ℕ) (q : Part T H) (own id : ℕ) → 0 < own → seat_of n ≡ own → id ≢ own → (v : View T H W) (k : Kind) → FitsAs version threads given w begin all seat_of id v k → FitsAs version threads given w begin (set all n q) seat_of id v k
  others_fit n q own id up sits ne v Root f =
      let apart : (k : ℕ) → seat_of k ≡ 0 → k ≢ n = λ k z e. let t = ap seat_of e in omega arith in
      record { world = f.world; first = f.first; next = f.next; of = f.of; unborn = λ k lo hi. let r = f.unborn k lo hi in (r.0, set_else all n k q (apart k r.0) ∙ r.1) }
  others_fit n q own id up sits ne v Member f =
      record { world = f.world; later = f.later; given_out = f.given_out; sits = f.sits; own = set_else all n v.number q (λ e. let t = ap seat_of e in let u = f.sits in ne (omega arith)) ∙ f.own; child = child_fits n q id v v.child (λ k z _ e. ne (sym z ∙ (ap seat_of e ∙ sits))) f.child; idle = f.idle }
  others_fit n q own id up sits ne v Collector f =
      let apart : (k : ℕ) → seat_of k ≡ id → k ≢ n = λ k z e. ne (sym z ∙ (ap seat_of e ∙ sits)) in
      record { world = f.world; few = f.few; came_back = λ k p at. let r = f.came_back k p at in (r.0, set_else all n k q (apart k r.0) ∙ r.1, r.2) }
  others_fit n q own id up sits ne v Spent f = tt

module _ {T H W : Type 0} (l : Layout) (traced : Bool) (w : W) (begin : W → ℕ → H) (holds : W → List T → List H → Type 0) where
  -- what a step of the thread n has to show: a new part and an act that keep the items
  abbrev pub Steps : ℕ → ℕ → (ℕ → ℕ) → Part T H → List (ℕ × Slot T) → (ℕ → Part T H → List (ℕ × Slot T) → Type 0) → Type 0
  Steps n i f p cs then = (words : List ℕ) (homes : List (Option (Slot T))) (all : List (Part T H)) → Core l traced w holds words homes all → get_elem? all n ≡ some p → get_or words i 0 < 18446744073709551616
      → (q : Part T H) × (a : Act (Slot T)) × Valid homes cs a × Core l traced w holds (set words i (f (get_or words i 0))) (homes_after homes cs a) (set all n q) × then (get_or words i 0) q (carried_after cs a)

  pub member_steps : (slots id i : ℕ) (f : ℕ → ℕ) (v : View T H W) (cs : List (ℕ × Slot T)) (then : ℕ → Part T H → List (ℕ × Slot T) → Type 0) (then' : ℕ → Me (Slot T) (View T H W) → Type 0)
      → v.kind ≡ Member → ((r : ℕ) (q : Part T H) (ds : List (ℕ × Slot T)) → then r q ds → HasNothingUnlessLive v.part v.child → HasNothingUnlessLive q v.child)
      → ((r : ℕ) (q : Part T H) (ds : List (ℕ × Slot T)) → v.world ≡ Some w → then r q ds → then' r (with_part v q, ds))
      → Steps v.number i f v.part cs then → Allows (IsKept l traced w begin holds) slots id (v, cs) i f then'
  member_steps slots id i f v cs then then' kind stays records steps s r wide at small =
      let sf = r.fits id v at in
      let own : FitsAs l.version l.threads r.given w begin r.all r.seat_of id v Member = subst (FitsAs l.version l.threads r.given w begin r.all r.seat_of id v) kind sf in
      let t = steps s.words s.homes r.all r.core own.own small in
      let q = t.0 in (
        with_part v q,
        t.1,
        t.2,
        record {
          all = set r.all v.number q;
          seat_of = r.seat_of;
          given = r.given;
          seated = subst (λ (z : ℕ). 0 < z) (sym (length-set s.views id (with_part v q))) r.seated;
          fits = λ j u e. ⊎_elim
              (λ (h : (j ≡ id) × (with_part v q ≡ u)). subst (λ (z : ℕ × View T H W). SeatFits l.version l.threads r.given w begin (set r.all v.number q) r.seat_of z.0 z.1) (λ k. (sym h.0 k, h.1 k))
              (subst (FitsAs l.version l.threads r.given w begin (set r.all v.number q) r.seat_of id (with_part v q)) (sym kind) record { world = own.world; later = own.later; given_out = own.given_out; sits = own.sits; own = set_here r.all v.number q (at_within r.all v.number v.part own.own); child = child_fits l.version l.threads r.given w begin r.all r.seat_of v.number q id v v.child (λ k _ ne. ne) own.child; idle = stays _ q _ t.4 own.idle }))
              (λ (h : (j ≢ id) × (get_elem? s.views j ≡ some u)). let o = r.fits j u h.1 in others_fit l.version l.threads r.given w begin r.all r.seat_of v.number q id j own.later own.sits h.0 u u.kind o)
              (at_set s.views id j (with_part v q) u e);
          placed = λ n lo. placed-set s.views id (r.seat_of n) n v (with_part v q) Member Member at kind kind (λ is. is) (r.placed n lo);
          core = t.3;
        },
        records _ q _ own.world t.4,
      )
