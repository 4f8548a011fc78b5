-- Giving out the seats of the threads at the start and at forks, and taking them back.
use Rattle.std.proofs.Common.{Bool, ◌≡◌, ◌≢◌, ℕ, ◌+◌, ◌<◌, List, [], ◌∷◌, ◌++◌, ◌≤◌, length, set, refl, sym, ap, ◌∙◌, subst, subst₂, inl, inr, ⊎_elim, arith, length-set, length-append}
use mathlib.Core.Logic.{dite}
use mathlib.Core.Option.{some, some-ne-none}
use native.Mathlib.Decide.{ℕ_discrete}
use lib.ListN.{get_elem?}
use Rattle.larch_actions.specs.declared.event.Event.{Event}
use Rattle.larch_actions.specs.declared.event.Layout.{Layout}
use Rattle.larch_actions.specs.declared.event.Life.TheVariants.{Live}
use Rattle.larch_actions.specs.declared.event.Version.{Version}
use Rattle.atomic_table.specs.Table.{Splits, Joins, Enters}
use Rattle.atomic_table.proofs.Lists.{at_last, at_set, set_else, set_here}
use Rattle.nub_rule.specs.declared.view.Child.{Child}
use Rattle.nub_rule.specs.declared.view.Child.TheVariants.{No, May, Forked}
use Rattle.nub_rule.specs.declared.view.Part.{Part}
use Rattle.nub_rule.specs.declared.view.View.{View}
use Rattle.nub_rule.specs.declared.view.Kind.{Kind}
use Rattle.nub_rule.specs.declared.view.Kind.TheVariants.{Root, Member, Collector, Spent}
use Rattle.larch_actions.specs.Actions.{lives_at_first, put}
use Rattle.nub_rule.specs.Parts.{first_part, newborn, unborn}
use Rattle.nub_rule.specs.Rule.{begun, left_view, member_view, collector_view, both_views, spent_view, taking_view, handing_view, handed_view, ChildFits, FitsAs, HasNothingUnlessLive, IsKept, IsOfChild, IsWith}
use Rattle.nub_rule.proofs.Each.{put-here, put-else, put-at, at_new, at_within}
use Rattle.nub_rule.proofs.Idle.{fresh-idle}
use Rattle.nub_rule.proofs.Members.{Placed, placed-longer, placed-set}

module _ {T H W : Type 0} (version : Version) (threads given : ℕ) (w : W) (begin : W → ℕ → H) (all : List (Part T H)) (seat_of : ℕ → ℕ) where
  child-back : (n own x id : ℕ) → seat_of n ≡ own → id ≢ own → (v : View T H W) (c : Child) → ChildFits version threads given w begin all seat_of id v c → ChildFits version threads given w begin all (put seat_of n x) id v c
  child-back n own x id sits ne v No f = tt
  child-back n own x id sits ne v (May t) f = (put-else seat_of n t x (λ e. ne (sym f.0 ∙ (ap seat_of e ∙ sits))) ∙ f.0, f.1, f.2, f.3)
  child-back n own x id sits ne v (Forked t seen) f = (put-else seat_of n t x (λ e. ne (sym f.0 ∙ (ap seat_of e ∙ sits))) ∙ f.0, f.1, f.2, f.3)

  -- a seat fits still after the thread n, that another seat had, has gone to the seat x
  back_fit : (n own x id : ℕ) → seat_of n ≡ own → 0 < own → id ≢ own → (v : View T H W) (k : Kind) → FitsAs version threads given w begin all seat_of id v k → FitsAs version threads given w begin all (put seat_of n x) id v k
  back_fit n own x id sits up ne v Root f =
      record { world = f.world; first = f.first; next = f.next; of = f.of; unborn = λ k lo hi. let r = f.unborn k lo hi in (put-else seat_of n k x (λ e. let t = ap seat_of e in let u = r.0 in absurd (omega arith)) ∙ r.0, r.1) }
  back_fit n own x id sits up ne v Member f =
      record { world = f.world; later = f.later; given_out = f.given_out; sits = put-else seat_of n v.number x (λ e. ne (sym f.sits ∙ (ap seat_of e ∙ sits))) ∙ f.sits; own = f.own; child = child-back n own x id sits ne v v.child f.child; idle = f.idle }
  back_fit n own x id sits up ne v Collector f =
      record { world = f.world; few = f.few; came_back = λ k p at. let r = f.came_back k p at in (put-else seat_of n k x (λ e. ne (sym r.0 ∙ (ap seat_of e ∙ sits))) ∙ r.0, r.1, r.2) }
  back_fit n own x id sits up ne v Spent f = tt

  child-given : (x id : ℕ) (v : View T H W) (c : Child) → ChildFits version threads given w begin all seat_of id v c → ChildFits version threads (given + 1) w begin all (put seat_of given x) id v c
  child-given x id v No f = tt
  child-given x id v (May t) f = let low = f.2 in (put-else seat_of given t x (λ e. absurd (omega arith)) ∙ f.0, f.1, omega arith, f.3)
  child-given x id v (Forked t seen) f = let low = f.2 in (put-else seat_of given t x (λ e. absurd (omega arith)) ∙ f.0, f.1, omega arith, f.3)

  -- a seat but the root's fits still after the thread that was to be given next has gone to the seat x
  given_fit : (x id : ℕ) → seat_of given ≡ 0 → id ≢ 0 → (v : View T H W) (k : Kind) → FitsAs version threads given w begin all seat_of id v k → FitsAs version threads (given + 1) w begin all (put seat_of given x) id v k
  given_fit x id free ne v Root f = absurd (ne f.first)
  given_fit x id free ne v Member f = record {
    world = f.world;
    later = f.later;
    given_out = let low = f.given_out in omega arith;
    sits = put-else seat_of given v.number x (λ e. let t = ap seat_of e in let u = f.sits in let up = f.later in absurd (omega arith)) ∙ f.sits;
    own = f.own;
    child = child-given x id v v.child f.child;
    idle = f.idle;
  }
  given_fit x id free ne v Collector f = let low = f.few in
      record { world = f.world; few = omega arith; came_back = λ k p at. let r = f.came_back k p at in (put-else seat_of given k x (λ e. let t = at_within v.back k p at in absurd (omega arith)) ∙ r.0, r.1, r.2) }
  given_fit x id free ne v Spent f = tt

-- a child of which nothing is said
none-said : (c : Child) (n : ℕ) → c ≡ No → IsOfChild c n → ⊥
none-said c n is h = subst (λ (z : Child). IsOfChild z n) is h

module _ {T H W : Type 0} (l : Layout) (traced : Bool) (w : W) (begin : W → ℕ → H) (holds : W → List T → List H → Type 0) where
  pub splits : (id : ℕ) (v : View T H W) → v.kind ≡ Root → v.next < l.threads → Splits (IsKept l traced w begin holds) id v (left_view v) (member_view begin v)
  splits id v kind more s r at =
      let root : FitsAs l.version l.threads r.given w begin r.all r.seat_of id v Root = subst (FitsAs l.version l.threads r.given w begin r.all r.seat_of id v) kind (r.fits id v at) in
      let x : ℕ = length s.views in
      let next = root.next in
      let first = root.unborn r.given (omega arith) (omega arith) in
      let seats = put r.seat_of r.given x in
      let up = r.seated in
      let fits = FitsAs l.version l.threads (r.given + 1) w begin r.all seats in
      let there = length-set s.views id (left_view v) in
      record {
        all = r.all;
        seat_of = seats;
        given = r.given + 1;
        seated = omega (arith, length-append (set s.views id (left_view v)) (member_view begin v ∷ []), there);
        fits = λ j u e. ⊎_elim
            (λ (h : get_elem? (set s.views id (left_view v)) j ≡ some u). ⊎_elim
            (λ (i : (j ≡ id) × (left_view v ≡ u)). subst₂ (λ (a : ℕ) (b : View T H W). fits a b b.kind) (sym i.0) i.1
            (subst (fits id (left_view v)) (sym kind) record {
              world = root.world;
              first = root.first;
              next = ap (λ (z : ℕ). z + 1) next;
              of = root.of;
              unborn = λ n lo hi. let o = root.unborn n (omega arith) hi in (put-else r.seat_of r.given n x (λ z. omega arith) ∙ o.0, o.1);
            }))
            (λ (i : (j ≢ id) × (get_elem? s.views j ≡ some u)). given_fit l.version l.threads r.given w begin r.all r.seat_of x j first.0 (λ z. i.0 (z ∙ sym root.first)) u u.kind (r.fits j u i.1))
            (at_set s.views id j (left_view v) u h))
            (λ (h : (j ≡ length (set s.views id (left_view v))) × (member_view begin v ≡ u)). subst₂ (λ (a : ℕ) (b : View T H W). fits a b b.kind) (sym (h.0 ∙ there)) h.1 record {
              world = root.world;
              later = up;
              given_out = omega arith;
              sits = ap (put r.seat_of r.given x) next ∙ put-here r.seat_of r.given x;
              own = ap (get_elem? r.all) next ∙ (first.1 ∙ (λ i. some (first_part {T = T} (sym root.of i) (sym next i) (begun begin (sym next i) (sym root.world i)))));
              child = tt;
              idle = λ _. (fresh-idle v.part.version (lives_at_first v.part.version v.next) [] (begun begin v.next v.world), refl);
            })
            (at_new (set s.views id (left_view v)) (member_view begin v) u j e);
        placed = λ n lo. dite (ℕ_discrete n r.given)
            (λ e. (member_view begin v, at_last (set s.views id (left_view v)) (member_view begin v) (seats n) (there ∙ sym (put-at r.seat_of r.given x n e)), inl (next ∙ sym e)))
            (λ ne. subst (λ (z : ℕ). Placed (set s.views id (left_view v) ++ member_view begin v ∷ []) z n) (sym (put-else r.seat_of r.given n x ne))
            (placed-longer (set s.views id (left_view v)) (member_view begin v ∷ []) (r.seat_of n) n
            (placed-set s.views id (r.seat_of n) n v (left_view v) Root Root at kind kind (λ (h : v.next ≤ n). omega arith) (r.placed n lo))));
        core = r.core;
      }

  pub joins : (id : ℕ) (v : View T H W) (other : ℕ) (u : View T H W) → v.kind ≡ Collector → u.kind ≡ Member → u.child ≡ No → u.number ≡ length v.back → Joins (IsKept l traced w begin holds) id v other u (both_views v u) spent_view
  joins id v other u kind member alone order s r at apart there =
      let views = set s.views id (both_views v u) in
      let mine : get_elem? s.views other ≡ some u = sym (set_else s.views id other (both_views v u) apart) ∙ there in
      let c : FitsAs l.version l.threads r.given w begin r.all r.seat_of id v Collector = subst (FitsAs l.version l.threads r.given w begin r.all r.seat_of id v) kind (r.fits id v at) in
      let m : FitsAs l.version l.threads r.given w begin r.all r.seat_of other u Member = subst (FitsAs l.version l.threads r.given w begin r.all r.seat_of other u) member (r.fits other u mine) in
      let n : ℕ = u.number in
      let seats = put r.seat_of n id in
      let fits = FitsAs l.version l.threads r.given w begin r.all seats in
      let back = back_fit l.version l.threads r.given w begin r.all r.seat_of n other id in
      let long = length-append v.back (u.part ∷ []) in
      record {
        all = r.all;
        seat_of = seats;
        given = r.given;
        seated = subst (λ (z : ℕ). 0 < z) (sym (length-set views other (spent_view {T = T}) ∙ length-set s.views id (both_views v u))) r.seated;
        fits = λ j x e. ⊎_elim
            (λ (h : (j ≡ other) × (spent_view ≡ x)). subst (λ (b : View T H W). fits j b b.kind) h.1 tt)
            (λ (h : (j ≢ other) × (get_elem? views j ≡ some x)). ⊎_elim
            (λ (i : (j ≡ id) × (both_views v u ≡ x)). subst₂ (λ (a : ℕ) (b : View T H W). fits a b b.kind) (sym i.0) i.1
            (subst (fits id (both_views v u)) (sym kind) record {
              world = c.world;
              few = let low = m.given_out in omega arith;
              came_back = λ k p f. ⊎_elim
                  (λ (g : get_elem? v.back k ≡ some p). let o = c.came_back k p g in (put-else r.seat_of n k id (λ z. let y = at_within v.back k p g in absurd (omega arith)) ∙ o.0, o.1, o.2))
                  (λ (g : (k ≡ length v.back) × (u.part ≡ p)). let here : k ≡ n = g.0 ∙ sym order in (ap (put r.seat_of n id) here ∙ put-here r.seat_of n id, ap (get_elem? r.all) here ∙ (m.own ∙ ap some g.1), subst (λ (z : Part T H). HasNothingUnlessLive z No) g.1 (subst (HasNothingUnlessLive u.part) alone m.idle)))
                  (at_new v.back u.part p k f);
            }))
            (λ (i : (j ≢ id) × (get_elem? s.views j ≡ some x)). back j m.sits m.later h.0 x x.kind (r.fits j x i.1))
            (at_set s.views id j (both_views v u) x h.1))
            (at_set views other j spent_view x e);
        placed = λ k lo. dite (ℕ_discrete k n)
            (λ e. (
              both_views v u,
              (λ i. get_elem? (set views other spent_view) (put-at r.seat_of n id k e i)) ∙ (set_else views other id spent_view (λ z. apart (sym z)) ∙ set_here s.views id (both_views v u) (at_within s.views id v at)),
              subst (λ (z : Kind). IsWith (both_views v u) z k) (sym kind) (let y : k < length (v.back ++ u.part ∷ []) = omega arith in y),
            ))
            (λ ne. subst (λ (z : ℕ). Placed (set views other spent_view) z k) (sym (put-else r.seat_of n k id ne))
            (placed-set views other (r.seat_of k) k u spent_view Member Spent there member refl
            (⊎_elim (λ (is : u.number ≡ k). absurd (ne (sym is))) (λ (is : IsOfChild u.child k). absurd (none-said u.child k alone is)))
            (placed-set s.views id (r.seat_of k) k v (both_views v u) Collector Collector at kind kind (λ (h : k < length v.back). let y : k < length (v.back ++ u.part ∷ []) = omega arith in y) (r.placed k lo))));
        core = r.core;
      }

  -- a thread takes in the right to begin another, in whose seat nothing was done
  pub takes : (id : ℕ) (v : View T H W) (other : ℕ) (u : View T H W) → v.kind ≡ Member → v.part.life ≡ Live → v.child ≡ No → u.kind ≡ Member → u.child ≡ No → u.part ≡ unborn u.part.version (begun begin u.number u.world)
      → Joins (IsKept l traced w begin holds) id v other u (taking_view v u) spent_view
  takes id v other u kind live free member alone bare s r at apart there =
      let views = set s.views id (taking_view v u) in
      let mine : get_elem? s.views other ≡ some u = sym (set_else s.views id other (taking_view v u) apart) ∙ there in
      let c : FitsAs l.version l.threads r.given w begin r.all r.seat_of id v Member = subst (FitsAs l.version l.threads r.given w begin r.all r.seat_of id v) kind (r.fits id v at) in
      let m : FitsAs l.version l.threads r.given w begin r.all r.seat_of other u Member = subst (FitsAs l.version l.threads r.given w begin r.all r.seat_of other u) member (r.fits other u mine) in
      let n : ℕ = u.number in
      let seats = put r.seat_of n id in
      let fits = FitsAs l.version l.threads r.given w begin r.all seats in
      let back = back_fit l.version l.threads r.given w begin r.all r.seat_of n other id in
      let other_one : n ≢ v.number = λ e. apart (sym m.sits ∙ (ap r.seat_of e ∙ c.sits)) in
      let of : u.part.version ≡ l.version = r.core.sizes.versions n u.part m.own in
      record {
        all = r.all;
        seat_of = seats;
        given = r.given;
        seated = subst (λ (z : ℕ). 0 < z) (sym (length-set views other (spent_view {T = T}) ∙ length-set s.views id (taking_view v u))) r.seated;
        fits = λ j x e. ⊎_elim
            (λ (h : (j ≡ other) × (spent_view ≡ x)). subst (λ (b : View T H W). fits j b b.kind) h.1 tt)
            (λ (h : (j ≢ other) × (get_elem? views j ≡ some x)). ⊎_elim
            (λ (i : (j ≡ id) × (taking_view v u ≡ x)). subst₂ (λ (a : ℕ) (b : View T H W). fits a b b.kind) (sym i.0) i.1
            (subst (fits id (taking_view v u)) (sym kind) record {
              world = c.world;
              later = c.later;
              given_out = c.given_out;
              sits = put-else r.seat_of n v.number id (λ e. other_one (sym e)) ∙ c.sits;
              own = c.own;
              child = (put-here r.seat_of n id, other_one, m.given_out, m.own ∙ (ap some bare ∙ (λ i. some (unborn {T = T} (of i) (begun begin n (m.world i))))));
              idle = λ dead. absurd (dead live);
            }))
            (λ (i : (j ≢ id) × (get_elem? s.views j ≡ some x)). back j m.sits m.later h.0 x x.kind (r.fits j x i.1))
            (at_set s.views id j (taking_view v u) x h.1))
            (at_set views other j spent_view x e);
        placed = λ k lo. dite (ℕ_discrete k n)
            (λ e. (
              taking_view v u,
              (λ i. get_elem? (set views other spent_view) (put-at r.seat_of n id k e i)) ∙ (set_else views other id spent_view (λ z. apart (sym z)) ∙ set_here s.views id (taking_view v u) (at_within s.views id v at)),
              subst (λ (z : Kind). IsWith (taking_view v u) z k) (sym kind) (inr (sym e)),
            ))
            (λ ne. subst (λ (z : ℕ). Placed (set views other spent_view) z k) (sym (put-else r.seat_of n k id ne))
            (placed-set views other (r.seat_of k) k u spent_view Member Spent there member refl
            (⊎_elim (λ (is : u.number ≡ k). absurd (ne (sym is))) (λ (is : IsOfChild u.child k). absurd (none-said u.child k alone is)))
            (placed-set s.views id (r.seat_of k) k v (taking_view v u) Member Member at kind kind
            (⊎_elim (λ (is : v.number ≡ k). inl is) (λ (is : IsOfChild v.child k). absurd (none-said v.child k free is))) (r.placed k lo))));
        core = r.core;
      }

  -- a thread hands out the one that it has forked
  pub hands : (id : ℕ) (v : View T H W) (t : ℕ) (seen : List Event) → v.kind ≡ Member → v.child ≡ Forked t seen → Splits (IsKept l traced w begin holds) id v (handing_view v) (handed_view begin v v.child)
  hands id v t seen kind forked = subst (λ (c : Child). Splits (IsKept l traced w begin holds) id v (handing_view v) (handed_view begin v c)) (sym forked) (λ s r at.
      let c : FitsAs l.version l.threads r.given w begin r.all r.seat_of id v Member = subst (FitsAs l.version l.threads r.given w begin r.all r.seat_of id v) kind (r.fits id v at) in
      let f : ChildFits l.version l.threads r.given w begin r.all r.seat_of id v (Forked t seen) = subst (ChildFits l.version l.threads r.given w begin r.all r.seat_of id v) forked c.child in
      let x : ℕ = length s.views in
      let new : View T H W = handed_view begin v (Forked t seen) in
      let seats = put r.seat_of t x in
      let up = r.seated in
      let fits = FitsAs l.version l.threads r.given w begin r.all seats in
      let there = length-set s.views id (handing_view v) in
      let of : v.part.version ≡ l.version = r.core.sizes.versions v.number v.part c.own in
      record {
        all = r.all;
        seat_of = seats;
        given = r.given;
        seated = omega (arith, length-append (set s.views id (handing_view v)) (new ∷ []), there);
        fits = λ j u e. ⊎_elim
            (λ (h : get_elem? (set s.views id (handing_view v)) j ≡ some u). ⊎_elim
            (λ (i : (j ≡ id) × (handing_view v ≡ u)). subst₂ (λ (a : ℕ) (b : View T H W). fits a b b.kind) (sym i.0) i.1
            (subst (fits id (handing_view v)) (sym kind) record { world = c.world; later = c.later; given_out = c.given_out; sits = put-else r.seat_of t v.number x (λ e. f.1 (sym e)) ∙ c.sits; own = c.own; child = tt; idle = λ dead. ((c.idle dead).0, refl) }))
            (λ (i : (j ≢ id) × (get_elem? s.views j ≡ some u)). back_fit l.version l.threads r.given w begin r.all r.seat_of t id x j f.0 c.later i.0 u u.kind (r.fits j u i.1))
            (at_set s.views id j (handing_view v) u h))
            (λ (h : (j ≡ length (set s.views id (handing_view v))) × (new ≡ u)). subst₂ (λ (a : ℕ) (b : View T H W). fits a b b.kind) (sym (h.0 ∙ there)) h.1
            (subst (fits x new) (sym kind) record {
              world = c.world;
              later = up;
              given_out = f.2;
              sits = put-here r.seat_of t x;
              own = f.3 ∙ (λ i. some (newborn {T = T} (sym of i) seen (begun begin t (sym c.world i))));
              child = tt;
              idle = λ dead. absurd (dead refl);
            }))
            (at_new (set s.views id (handing_view v)) new u j e);
        placed = λ n lo. dite (ℕ_discrete n t)
            (λ e. (new, at_last (set s.views id (handing_view v)) new (seats n) (there ∙ sym (put-at r.seat_of t x n e)), subst (λ (z : Kind). IsWith new z n) (sym kind) (inl (sym e))))
            (λ ne. subst (λ (z : ℕ). Placed (set s.views id (handing_view v) ++ new ∷ []) z n) (sym (put-else r.seat_of t n x ne))
            (placed-longer (set s.views id (handing_view v)) (new ∷ []) (r.seat_of n) n
            (placed-set s.views id (r.seat_of n) n v (handing_view v) Member Member at kind kind
            (⊎_elim (λ (is : v.number ≡ n). inl is) (λ (is : IsOfChild v.child n). absurd (ne (sym (subst (λ (z : Child). IsOfChild z n) forked is))))) (r.placed n lo))));
        core = r.core;
      })

  pub collects : (slots i : ℕ) → Enters (IsKept l traced w begin holds) slots i (λ r v. v ≡ collector_view w)
  collects slots i s r _ _ = (
    collector_view w,
    record {
      all = r.all;
      seat_of = r.seat_of;
      given = r.given;
      seated = let up = r.seated in omega (arith, length-append s.views (collector_view {T = T} {H = H} w ∷ []));
      fits = λ j u e. ⊎_elim (λ (h : get_elem? s.views j ≡ some u). r.fits j u h)
          (λ (h : (j ≡ length s.views) × (collector_view w ≡ u)). subst (λ (b : View T H W). FitsAs l.version l.threads r.given w begin r.all r.seat_of j b b.kind) h.1 record { world = refl; few = omega arith; came_back = λ n p f. absurd (some-ne-none p (sym f)) })
          (at_new s.views (collector_view w) u j e);
      placed = λ n lo. placed-longer s.views (collector_view w ∷ []) (r.seat_of n) n (r.placed n lo);
      core = r.core;
    },
    refl,
  )
