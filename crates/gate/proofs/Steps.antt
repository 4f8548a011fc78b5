-- What the thread knows after some steps, of plain variables: the steps before change nothing that the last ones tell.
use Rattle.std.proofs.Common.{◌≡◌, ◌≢◌, ℕ, Bool, eqb, true, false, Option as Opt, None, Some, List, [], slice_set, arith, ap, ap₂, sym, subst, ◌∙◌}
use Rattle.std.proofs.lemmas.Bool.Decides.{nat_tests}
use lib.ListN.{get_elem?}
use Rattle.larch_actions.specs.declared.event.Event.{Event}
use Rattle.larch_actions.specs.Sets.{without}
use Rattle.nub_rule.specs.declared.object.Object.{Object}
use Rattle.nub_rule.specs.declared.object.Object.TheVariants.{Mutex, Sem, Cond}
use Rattle.nub_rule.specs.declared.package.Entry.{Entry}
use Rattle.nub_rule.specs.declared.view.Pen.{Pen}
use Rattle.nub_rule.specs.declared.view.Pen.TheVariants.{No}
use Rattle.nub_rule.specs.declared.view.Stand.{Stand}
use Rattle.nub_rule.specs.declared.view.Wait.{Wait}
use Rattle.nub_rule.specs.Known.{Known, Makes, Space, learnt, recorded}
use Rattle.nub.proofs.Making.{makes_from}
use Rattle.nub.specs.Rest.{IsOutside}
use Rattle.gate.specs.Gates.{IsTaken}

pub zero_from_test : (n : ℕ) → eqb n 0 ≡ true → n ≡ 0
zero_from_test n test = grind (arith, nat_tests)

pub more_from_test : (n : ℕ) → eqb n 0 ≡ false → n ≢ 0
more_from_test n test = grind (arith, nat_tests)

module _ {T H W : Type 0} where
  -- what z got with the bit it got from o too, where s is o in all that this hangs on
  pub taken_from : (fits : W → ℕ → T → ℕ → H → Type 0) (at : Object) (o s z : Known T H W) → s.number ≡ o.number → s.world ≡ o.world → s.held ≡ o.held → s.share ≡ o.share → s.values ≡ o.values
      → IsTaken fits at s z → IsTaken fits at o z
  taken_from fits (Mutex m) o s z number world held share values (x, is_held, is_in, holds, has, fit) = (
    x,
    is_held ∙ ap (λ l. slice_set l m.0 (Some x)) held,
    is_in ∙ ap (λ l. slice_set l m.0 (Some (Some x))) values,
    holds,
    has,
    λ w h k l. subst (λ (n : ℕ). fits w m.0 x n h) number (fit w h (world ∙ k) (share ∙ l)),
  )
  taken_from fits (Sem s') o s z number world held share values taken = (taken.0 ∙ held, taken.1 ∙ values)
  taken_from fits (Cond c) o s z number world held share values taken = taken

  pub taken_on : (fits : W → ℕ → T → ℕ → H → Type 0) (at : Object) (o s z : Known T H W) → z.held ≡ s.held → z.values ≡ s.values → IsTaken fits at o s → IsTaken fits at o z
  taken_on fits (Mutex m) o s z held values (x, is_held, is_in, holds, has, fit) = (x, held ∙ is_held, values ∙ is_in, ap (λ l. get_elem? l m.0) held ∙ holds, ap (λ l. get_elem? l m.0) values ∙ has, fit)
  taken_on fits (Sem s') o s z held values taken = (held ∙ taken.0, values ∙ taken.1)
  taken_on fits (Cond c) o s z held values taken = taken

  -- the thread o is l after tries that failed
  abbrev pub Tries : Known T H W → Known T H W → Type 0
  Tries o l = l ≡ record o { part = record o.part { count = l.count; failed = l.failed; turns = l.turns }; next = l.next }

  module _ (o l t : Known T H W) (same : Tries o l) where
    pub goes_on : (s : Known T H W) (f g u : List ℕ) → t ≡ record l { part = record l.part { failed = f; turns = u }; next = t.next } → s ≡ record t { part = record t.part { count = s.count; failed = g; turns = s.turns } }
        → s ≡ record o { part = record o.part { count = s.count; failed = s.failed; turns = s.turns }; next = s.next }
    goes_on s f g u lost stood =
        let G : Known T H W → Known T H W = λ k. record k { part = record k.part { failed = s.failed }; next = s.next } in
        let F : Known T H W → Known T H W = λ k. record k { part = record k.part { count = s.count; failed = s.failed; turns = s.turns }; next = s.next } in
        ap G stood ∙ ap F lost ∙ ap F same

    pub won : (f u : List ℕ) → t ≡ record (recorded l t (λ q. record q { held = t.held; wait = None; failed = f; turns = u })) { values = t.values }
        → t ≡ record (recorded o t (λ q. record q { held = t.held; count = t.count; wait = None; failed = t.failed; turns = t.turns })) { values = t.values }
    won f u is =
        let G : Known T H W → Known T H W = λ k. record k { part = record k.part { count = t.count; failed = t.failed; turns = t.turns } } in
        let F : Known T H W → Known T H W = λ k. record (recorded k t (λ q. record q { held = t.held; count = t.count; wait = None; failed = t.failed; turns = t.turns })) { values = t.values } in
        ap G is ∙ ap F same

    pub won_event : (e : Event) → Makes e l t → Makes e o t
    won_event e = makes_from e o l t (ap (λ k. k.number) same) (ap (λ k. k.version) same) (ap (λ k. k.seen) same) (ap (λ k. k.mine) same) (ap (λ k. k.places) same) (ap (λ k. k.pen) same)

    pub won_taken : (fits : W → ℕ → T → ℕ → H → Type 0) (at : Object) → IsTaken fits at l t → IsTaken fits at o t
    won_taken fits at = taken_from fits at o l t (ap (λ k. k.number) same) (ap (λ k. k.world) same) (ap (λ k. k.held) same) (ap (λ k. k.share) same) (ap (λ k. k.values) same)

  -- the thread o is l after quiet tries that failed
  abbrev pub TriesQuietly : Known T H W → Known T H W → Type 0
  TriesQuietly o l = l ≡ record o { part = record o.part { count = l.count; failed = l.failed; turns = l.turns } }

  module _ (o l t : Known T H W) (same : TriesQuietly o l) where
    pub goes_on_quietly : (s : Known T H W) (f g u : List ℕ) → t ≡ record l { part = record l.part { failed = f; turns = u } } → s ≡ record t { part = record t.part { count = s.count; failed = g; turns = s.turns } }
        → s ≡ record o { part = record o.part { count = s.count; failed = s.failed; turns = s.turns } }
    goes_on_quietly s f g u lost stood =
        let G : Known T H W → Known T H W = λ k. record k { part = record k.part { failed = s.failed } } in
        let F : Known T H W → Known T H W = λ k. record k { part = record k.part { count = s.count; failed = s.failed; turns = s.turns } } in
        ap G stood ∙ ap F lost ∙ ap F same

    pub won_quietly : (h : List (Opt T)) (w : Opt Wait → Opt Wait) (f u : List ℕ) (v : List (Opt (Opt T))) → t ≡ record l { part = record l.part { held = h; wait = w l.wait; failed = f; turns = u }; values = v }
        → t ≡ record o { part = record o.part { held = t.held; count = t.count; wait = w o.wait; failed = t.failed; turns = t.turns }; values = t.values }
    won_quietly h w f u v is =
        let G : Known T H W → Known T H W = λ k. record k { part = record k.part { held = t.held; count = t.count; failed = t.failed; turns = t.turns }; values = t.values } in
        let F : Known T H W → Known T H W = λ k. record k { part = record k.part { held = t.held; count = t.count; wait = w k.wait; failed = t.failed; turns = t.turns }; values = t.values } in
        ap G is ∙ ap F same

  -- one try without the pen has failed, as u, and the bit was taken after others, as z
  pub won_later : (o u z : Known T H W) (f t : List ℕ) → u ≡ record o { part = record o.part { failed = f; turns = t } } → z ≡ record (recorded u z (λ q. record q { held = z.held; count = z.count; wait = None; failed = z.failed; turns = z.turns })) { values = z.values }
      → z ≡ record (recorded o z (λ q. record q { held = z.held; count = z.count; wait = None; failed = z.failed; turns = z.turns })) { values = z.values }
  won_later o u z f t lost won =
      let F : Known T H W → Known T H W = λ k. record (recorded k z (λ q. record q { held = z.held; count = z.count; wait = None; failed = z.failed; turns = z.turns })) { values = z.values } in
      won ∙ ap F lost

  -- one try without the pen has taken the bit
  pub won_at_once : (o u : Known T H W) (f t : List ℕ) → u ≡ record o { part = record (learnt o.part u.part) { held = u.held; wait = None; failed = f; turns = t }; values = u.values }
      → u ≡ record (recorded o u (λ q. record q { held = u.held; count = u.count; wait = None; failed = u.failed; turns = u.turns })) { values = u.values }
  won_at_once o u f t won =
      let G : Known T H W → Known T H W = λ k. record k { part = record k.part { count = u.count; failed = u.failed; turns = u.turns }; entries = u.entries; space = u.space; next = u.next } in
      ap G won

  -- one try in an untraced package: it has failed as u, or it has taken the bit
  module _ (o u : Known T H W) where
    pub lost_once : (f t : List ℕ) → u ≡ record o { part = record o.part { failed = f; turns = t } } → u ≡ record o { part = record o.part { failed = u.failed; turns = u.turns } }
    lost_once f t lost = let G : Known T H W → Known T H W = λ k. record k { part = record k.part { failed = u.failed; turns = u.turns } } in ap G lost

    pub lost_untraced : (f t : List ℕ) → u ≡ record o { part = record o.part { failed = f; turns = t } } → u ≡ record o { part = record o.part { failed = f; turns = t }; next = u.next }
    lost_untraced f t lost = let G : Known T H W → Known T H W = λ k. record k { next = u.next } in ap G lost

    module _ (f t : List ℕ) (q : Pen) (same : q ≡ o.pen) (won : u ≡ record o { part = record (learnt o.part u.part) { held = u.held; wait = None; failed = f; turns = t; pen = q }; values = u.values }) where
      pub won_once : u ≡ record o { part = record (learnt o.part u.part) { held = u.held; wait = None; failed = f; turns = t }; values = u.values }
      won_once = let F : Pen → Known T H W = λ p. record o { part = record (learnt o.part u.part) { held = u.held; wait = None; failed = f; turns = t; pen = p }; values = u.values } in won ∙ ap F same

      pub won_untraced : u ≡ record (recorded o u (λ q. record q { held = u.held; wait = None; failed = f; turns = t })) { values = u.values }
      won_untraced = let G : Known T H W → Known T H W = λ k. record k { entries = u.entries; space = u.space; next = u.next } in ap G won_once

  -- the thread o has read its number as b, has tried the bit as u, and has given the pen back as z
  module _ (o b u z : Known T H W) (pen : o.pen ≡ No) (began : b ≡ record o { part = record o.part { pen = b.pen }; next = b.next }) (tells : z ≡ record u { part = record u.part { pen = No }; entries = z.entries; space = z.space }) where
    pub won_traced : (f t : List ℕ → List ℕ) (q : Pen) → u ≡ record b { part = record (learnt b.part u.part) { held = u.held; wait = None; failed = f b.failed; turns = t b.turns; pen = q }; values = u.values }
        → z ≡ record (recorded o z (λ q. record q { held = z.held; wait = None; failed = f o.failed; turns = t o.turns })) { values = z.values }
    won_traced f t q won =
        let G : Known T H W → Known T H W = λ k. record k { part = record k.part { seen = z.seen; mine = z.mine; places = z.places; held = z.held }; next = z.next; values = z.values } in
        let F : Known T H W → Known T H W = λ k. record k { part = record k.part { seen = z.seen; mine = z.mine; places = z.places; held = z.held; pen = No }; next = z.next; values = z.values; entries = z.entries; space = z.space } in
        let E : Known T H W → Pen → Known T H W = λ k p. record (recorded k z (λ q. record q { held = z.held; wait = None; failed = f k.failed; turns = t k.turns; pen = p })) { values = z.values } in
        ap G tells ∙ ap F won ∙ ap (λ k. E k No) began ∙ ap (E o) (sym pen)

    pub lost_traced : (f t : List ℕ → List ℕ) → (z.entries ≡ u.entries) × (z.space ≡ u.space) → u ≡ record b { part = record b.part { failed = f b.failed; turns = t b.turns } }
        → z ≡ record o { part = record o.part { failed = f o.failed; turns = t o.turns }; next = z.next }
    lost_traced f t kept lost =
        let G : Known T H W → Known T H W = λ k. record k { next = z.next } in
        let F : Known T H W → Known T H W = λ k. record k { part = record k.part { pen = No }; next = z.next; entries = z.entries; space = z.space } in
        let E : Known T H W → Known T H W = λ k. record k { part = record k.part { failed = f k.failed; turns = t k.turns; pen = No }; next = z.next; entries = z.entries; space = z.space } in
        let D : Pen → List Entry → Space → Known T H W = λ p l y. record o { part = record o.part { failed = f o.failed; turns = t o.turns; pen = p }; next = z.next; entries = l; space = y } in
        ap G tells ∙ ap F lost ∙ ap E began ∙ ap (λ p. D p z.entries z.space) (sym pen)
        ∙ ap (λ l. D o.pen l z.space) (kept.0 ∙ (ap (λ k. k.entries) lost ∙ ap (λ k. k.entries) began))
        ∙ ap (D o.pen o.entries) (kept.1 ∙ (ap (λ k. k.space) lost ∙ ap (λ k. k.space) began))

    pub taken_traced : (fits : W → ℕ → T → ℕ → H → Type 0) (at : Object) → IsTaken fits at b u → IsTaken fits at o z
    taken_traced fits at taken =
        taken_on fits at o u z (ap (λ k. k.held) tells) (ap (λ k. k.values) tells)
        (taken_from fits at o b u (ap (λ k. k.number) began) (ap (λ k. k.world) began) (ap (λ k. k.held) began) (ap (λ k. k.share) began) (ap (λ k. k.values) began) taken)

  -- the thread o has the spin word of n as i, and is z when it has given it back
  module _ (n : ℕ) (o i z : Known T H W) (outside : IsOutside o) (entered : i ≡ record o { part = record o.part { spin = Some n; queue = i.queue; owed = []; left = i.queue; count = i.count; failed = without n o.failed } }) where
    -- it popped one as q, and woke it as w, so that it owes nobody
    pub woke_one : (q w : Known T H W) (a d y : List ℕ) → q ≡ record i { part = record i.part { queue = a; left = d; owed = q.owed; cleared = without n i.cleared; looked = without n i.looked } } → w ≡ record q { part = record q.part { owed = y } } → y ≡ []
        → z ≡ record w { part = record w.part { spin = None; queue = []; left = [] } } → z ≡ record o { part = record o.part { count = z.count; failed = without n o.failed; cleared = without n o.cleared; looked = without n o.looked } }
    woke_one q w a d y popped wakes none leaves =
        let G : Known T H W → Known T H W = λ k. record k { part = record k.part { count = z.count } } in
        let L : Known T H W → Known T H W = λ k. record k { part = record k.part { spin = None; queue = []; left = []; count = z.count } } in
        let F : Known T H W → Known T H W = λ k. record k { part = record k.part { spin = None; queue = []; owed = y; left = []; count = z.count } } in
        let K : Known T H W → Known T H W = λ k. record k { part = record k.part { spin = None; queue = []; owed = y; left = []; count = z.count; cleared = without n k.cleared; looked = without n k.looked } } in
        let E : Opt ℕ → List ℕ → List ℕ → List ℕ → Known T H W = λ p x u v. record o { part = record o.part { spin = p; queue = x; owed = u; left = v; count = z.count; failed = without n o.failed; cleared = without n o.cleared; looked = without n o.looked } } in
        ap G leaves ∙ ap L wakes ∙ ap F popped ∙ ap K entered
        ∙ ap (λ p. E p [] y []) (sym outside.spin)
        ∙ ap (λ x. E o.spin x y []) (sym outside.queue)
        ∙ ap (λ u. E o.spin o.queue u []) (none ∙ sym outside.owed)
        ∙ ap (E o.spin o.queue o.owed) (sym outside.left)

  -- the thread o has stood in line for n as s, and nothing but the bit can have ended that
  pub stood_plainly : (n : ℕ) (o s : Known T H W) → o.stand ≡ None → s ≡ record o { part = record o.part { count = s.count; stand = s.stand; failed = without n o.failed; turns = s.turns; alerted = s.alerted } }
      → (s.stand ≡ None) × (s.alerted ≡ o.alerted) → s ≡ record o { part = record o.part { count = s.count; failed = without n o.failed; turns = s.turns } }
  stood_plainly n o s stand is out =
      let E : Opt Stand → Bool → Known T H W = λ q b. record o { part = record o.part { count = s.count; stand = q; failed = without n o.failed; turns = s.turns; alerted = b } } in
      is ∙ ap₂ E (out.0 ∙ sym stand) out.1
